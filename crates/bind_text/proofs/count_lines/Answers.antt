-- `bind_text::count_lines` meets its contract: each line end ends a line, and what stands after the last is one more.
-- Assumes nothing.
use Rattle.std.proofs.Common.{sym, ◌∙◌, rules, tests, arith}
use mathlib.Core.Bool.{cond}
use Rattle.std.proofs.lemmas.Iterator.{YieldsList-from_slice, YieldsList-from_map}
use Rattle.std.proofs.lemmas.Iterator.Consumers.{sum_by_from_yields_List, fits_by_from_yields_list}
use Rattle.std.proofs.lemmas.List.Sums.{count_by-le-length}
use lib.Dec.{eqb}
use Rattle.bind_text.specs.Text.{⟨line-end⟩}
use Rattle.bind_text.proofs.Lists.{lines_ended, lines_open, lines_empty}
use Rattle.bind_text.proofs.count_lines.Goals as goal

pub sum-ends-requires-clause-fits : goal.sum-ends-requires-clause-fits
sum-ends-requires-clause-fits c =
    let text = c.args.text.now in
    fits_by_from_yields_list (λ x. cond (eqb x ⟨line-end⟩) 1 0) text c.map.result _
    (YieldsList-from_map _ (λ x. cond (eqb x ⟨line-end⟩) 1 0) (YieldsList-from_slice text cc) c.map.ensures.closure (λ x r q k. search (rules, tests)))
    (omega (arith, count_by-le-length (λ x. eqb x ⟨line-end⟩) text))

pub overflow_add-result : goal.overflow_add-result
overflow_add-result c =
    let text = c.args.text.now in
    let counted =
    sum_by_from_yields_List (λ x. cond (eqb x ⟨line-end⟩) 1 0) text c.map.result _ c.sum-ends.ensures.ran
    (YieldsList-from_map _ (λ x. cond (eqb x ⟨line-end⟩) 1 0) (YieldsList-from_slice text cc) c.map.ensures.closure (λ x r q k. search (rules, tests))) in
    omega (arith, counted, count_by-le-length (λ x. eqb x ⟨line-end⟩) text)

pub returns-in-Some : goal.returns-in-Some
returns-in-Some c =
    let text = c.args.text.now in
    let counted =
    sum_by_from_yields_List (λ x. cond (eqb x ⟨line-end⟩) 1 0) text c.map.result _ c.sum-ends.ensures.ran
    (YieldsList-from_map _ (λ x. cond (eqb x ⟨line-end⟩) 1 0) (YieldsList-from_slice text cc) c.map.ensures.closure (λ x r q k. search (rules, tests))) in
    omega (arith, counted, lines_open text (search (rules, tests)) (search (rules, tests)))

pub returns-in_default : goal.returns-in_default
returns-in_default c =
    let text = c.args.text.now in
    let counted =
    sum_by_from_yields_List (λ x. cond (eqb x ⟨line-end⟩) 1 0) text c.map.result _ c.sum-ends.ensures.ran
    (YieldsList-from_map _ (λ x. cond (eqb x ⟨line-end⟩) 1 0) (YieldsList-from_slice text cc) c.map.ensures.closure (λ x r q k. search (rules, tests))) in
    counted ∙ sym (lines_ended text (search (rules, tests)) (search (rules, tests)))

pub returns-in_default-2 : goal.returns-in_default-2
returns-in_default-2 c =
    let text = c.args.text.now in
    let counted =
    sum_by_from_yields_List (λ x. cond (eqb x ⟨line-end⟩) 1 0) text c.map.result _ c.sum-ends.ensures.ran
    (YieldsList-from_map _ (λ x. cond (eqb x ⟨line-end⟩) 1 0) (YieldsList-from_slice text cc) c.map.ensures.closure (λ x r q k. search (rules, tests))) in
    counted ∙ sym (lines_empty text (search (rules, tests)))

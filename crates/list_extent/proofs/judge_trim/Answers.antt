-- `list_extent::judge_trim` meets its contract: the tests stand in the order of the numbers.
-- Assumes nothing.
use mathlib.Core.Path.{◌≡◌, sym, ◌∙◌}
use mathlib.Core.List.{[], ◌∷◌}
use Rattle.std.specs.Prelude.{Ok}
use Rattle.std.proofs.lemmas.Result.{err_from_is_err_and}
use Rattle.field.specs.Fields.{modulus, longest}
use Rattle.refusal.specs.Lowest.{lowest}
use Rattle.lists.specs.Refused.{list_refusals}
use Rattle.list_extent.proofs.Judged.{trim-refused, trim-zero, trim-misfit, trim-done}
use Rattle.list_extent.proofs.judge_trim.Goals.{In_ok-judge_list}
use Rattle.list_extent.proofs.judge_trim.Goals as goal

listed : (c : In_ok-judge_list) → lowest (list_refusals (modulus c.args.field) (longest c.args.field) (c.args.f.now ∷ [])) ≡ Ok tt
listed c = sym c.judge_list.ensures ∙ c.in_ok-judge_list.was

pub returns-in_err-judge_list : goal.returns-in_err-judge_list
returns-in_err-judge_list c =
    let p = err_from_is_err_and c.from_residual.result c.from_residual.ensures.1 in
    rw (p.1, p.2) (trim-refused _ _ _ _ (sym c.judge_list.ensures ∙ c.in_err-judge_list.was))

pub returns-then-n-eq0 : goal.returns-then-n-eq0
returns-then-n-eq0 c =
    trim-zero _ _ _ _ (listed (goal.at.returns-then-n-eq0 c).In_ok-judge_list) (sym c.significant_words-n.ensures ∙ c.if-n-eq0.true)

pub returns-then-out-n : goal.returns-then-out-n
returns-then-out-n c =
    let count = c.significant_words-n.ensures in
    trim-misfit _ _ _ _ (listed (goal.at.returns-then-out-n c).In_ok-judge_list) (λ z. c.if-n-eq0.false (count ∙ z)) (λ e. c.if-out-n.true (e ∙ sym count))

pub returns : goal.returns
returns c =
    let count = c.significant_words-n.ensures in
    trim-done _ _ _ _ (listed (goal.at.returns c).In_ok-judge_list) (λ z. c.if-n-eq0.false (count ∙ z)) (c.if-out-n.false ∙ count)

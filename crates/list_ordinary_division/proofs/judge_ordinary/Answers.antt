-- `list_ordinary_division::judge_ordinary` meets its contract: the tests stand in the order of the numbers.
-- Assumes nothing.
use mathlib.Core.Path.{◌≡◌, sym, ◌∙◌}
use mathlib.Core.List.{[], ◌∷◌}
use Rattle.std.specs.Prelude.{Ok}
use Rattle.std.proofs.lemmas.Result.{err_from_is_err_and}
use Rattle.field.specs.Fields.{modulus, longest}
use Rattle.refusal.specs.Lowest.{lowest}
use Rattle.lists.specs.Refused.{list_refusals}
use Rattle.list_ordinary_division.proofs.Judged.{ordinary-refused, ordinary-zero, ordinary-misfit-q, ordinary-misfit-r, ordinary-done}
use Rattle.list_ordinary_division.proofs.judge_ordinary.Goals.{In_ok-judge_lists}
use Rattle.list_ordinary_division.proofs.judge_ordinary.Goals as goal

listed : (c : In_ok-judge_lists) → lowest (list_refusals (modulus c.args.field) (longest c.args.field) (c.args.g.now ∷ c.args.f.now ∷ [])) ≡ Ok tt
listed c = sym c.judge_lists.ensures ∙ c.in_ok-judge_lists.was

pub returns-in_err-judge_lists : goal.returns-in_err-judge_lists
returns-in_err-judge_lists c =
    let p = err_from_is_err_and c.from_residual.result c.from_residual.ensures.1 in
    rw (p.1, p.2) (ordinary-refused _ _ _ _ _ _ (sym c.judge_lists.ensures ∙ c.in_err-judge_lists.was))

pub returns-then-significant_words-eq0 : goal.returns-then-significant_words-eq0
returns-then-significant_words-eq0 c =
    let none = listed (goal.at.returns-then-significant_words-eq0 c).In_ok-judge_lists in
    ordinary-zero _ _ _ _ _ _ none (sym c.significant_words.ensures ∙ c.if-significant_words-eq0.true)

pub returns-then-q-g : goal.returns-then-q-g
returns-then-q-g c =
    let none = listed (goal.at.returns-then-q-g c).In_ok-judge_lists in
    ordinary-misfit-q _ _ _ _ _ _ none (λ z. c.if-significant_words-eq0.false (c.significant_words.ensures ∙ z)) c.if-q-g.true

pub returns-then-r-g : goal.returns-then-r-g
returns-then-r-g c =
    let none = listed (goal.at.returns-then-r-g c).In_ok-judge_lists in
    ordinary-misfit-r _ _ _ _ _ _ none (λ z. c.if-significant_words-eq0.false (c.significant_words.ensures ∙ z)) c.if-q-g.false c.if-r-g.true

pub returns : goal.returns
returns c =
    let none = listed (goal.at.returns c).In_ok-judge_lists in
    ordinary-done _ _ _ _ _ _ none (λ z. c.if-significant_words-eq0.false (c.significant_words.ensures ∙ z)) c.if-q-g.false c.if-r-g.false

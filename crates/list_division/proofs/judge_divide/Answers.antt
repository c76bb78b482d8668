-- `list_division::judge_divide` meets its contract: the tests stand in the order of the numbers.
-- Assumes nothing.
use mathlib.Core.Path.{◌≡◌, sym, ◌∙◌}
use mathlib.Core.List.{[], ◌∷◌}
use native.Mathlib.Omega.{arith}
use Rattle.std.specs.Prelude.{Ok}
use Rattle.std.proofs.lemmas.Result.{err_from_is_err_and}
use Rattle.field.specs.Fields.{modulus, longest}
use Rattle.field.proofs.Fields.{modulus-some}
use Rattle.refusal.specs.Lowest.{lowest}
use Rattle.lists.specs.Refused.{list_refusals}
use Rattle.list_division.proofs.Judged.{divide-refused, divisor-some, divide-backwards, divide-vanishes, divide-misfit-q, divide-misfit-r, divide-done}
use Rattle.list_division.proofs.judge_divide.Goals.{In_ok-judge_lists}
use Rattle.list_division.proofs.judge_divide.Goals as goal

listed : (c : In_ok-judge_lists) → lowest (list_refusals (modulus c.args.field) (longest c.args.field) (c.args.g.now ∷ c.args.f.now ∷ [])) ≡ Ok tt
listed c = sym c.judge_lists.ensures ∙ c.in_ok-judge_lists.was

pub returns-in_err-judge_lists : goal.returns-in_err-judge_lists
returns-in_err-judge_lists c =
    let p = err_from_is_err_and c.from_residual.result c.from_residual.ensures.1 in
    rw (p.1, p.2) (divide-refused _ _ (modulus-some _) _ _ _ _ (sym c.judge_lists.ensures ∙ c.in_err-judge_lists.was))

pub returns-then-g-f : goal.returns-then-g-f
returns-then-g-f c =
    divide-backwards _ _ (modulus-some _) _ _ _ _ (listed (goal.at.returns-then-g-f c).In_ok-judge_lists) c.if-g-f.true

pub overflow_sub-f : goal.overflow_sub-f
overflow_sub-f c = divisor-some _ _ (modulus-some _) _ _ (listed (goal.at.overflow_sub-f c).In_ok-judge_lists)

pub bounds-f-f : goal.bounds-f-f
bounds-f-f c = omega (arith, divisor-some _ _ (modulus-some _) _ _ (listed (goal.at.bounds-f-f c).In_ok-judge_lists))

pub returns-then-f-eq0 : goal.returns-then-f-eq0
returns-then-f-eq0 c = divide-vanishes _ _ (modulus-some _) _ _ _ _ (listed (goal.at.returns-then-f-eq0 c).In_ok-judge_lists) c.if-g-f.false c.if-f-eq0.true

pub returns-then-q-g : goal.returns-then-q-g
returns-then-q-g c = divide-misfit-q _ _ (modulus-some _) _ _ _ _ (listed (goal.at.returns-then-q-g c).In_ok-judge_lists) c.if-g-f.false c.if-f-eq0.false c.if-q-g.true

pub returns-then-r-f : goal.returns-then-r-f
returns-then-r-f c = divide-misfit-r _ _ (modulus-some _) _ _ _ _ (listed (goal.at.returns-then-r-f c).In_ok-judge_lists) c.if-g-f.false c.if-f-eq0.false c.if-q-g.false c.if-r-f.true

pub returns : goal.returns
returns c = divide-done _ _ (modulus-some _) _ _ _ _ (listed (goal.at.returns c).In_ok-judge_lists) c.if-g-f.false c.if-f-eq0.false c.if-q-g.false c.if-r-f.false

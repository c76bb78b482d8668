-- `list_product::judge_raise` meets its contract: the tests stand in the order of the numbers.
-- Assumes nothing.
use mathlib.Core.Path.{sym, ◌∙◌}
use native.Mathlib.Omega.{arith}
use Rattle.std.proofs.lemmas.Result.{err_from_is_err_and}
use Rattle.field.proofs.Fields.{modulus-some}
use Rattle.list_product.proofs.Judged.{raise-refused, raise-over, raise-backwards, raise-misfit, raise-done}
use Rattle.list_product.proofs.judge_raise.Goals as goal

pub returns-in_err-judge_list : goal.returns-in_err-judge_list
returns-in_err-judge_list c =
    let p = err_from_is_err_and c.from_residual.result c.from_residual.ensures.1 in
    rw (p.1, p.2) (raise-refused _ _ (modulus-some _) _ _ _ (sym c.judge_list.ensures ∙ c.in_err-judge_list.was))

pub returns-then-longest_of-target : goal.returns-then-longest_of-target
returns-then-longest_of-target c = raise-over _ _ (modulus-some _) _ _ _ (sym c.judge_list.ensures ∙ c.in_ok-judge_list.was) (omega arith)

pub returns-then-target-f : goal.returns-then-target-f
returns-then-target-f c = raise-backwards _ _ (modulus-some _) _ _ _ (sym c.judge_list.ensures ∙ c.in_ok-judge_list.was) (omega arith) (omega arith)

pub returns-then-out-target : goal.returns-then-out-target
returns-then-out-target c = raise-misfit _ _ (modulus-some _) _ _ _ (sym c.judge_list.ensures ∙ c.in_ok-judge_list.was) (omega arith) (omega arith) c.if-out-target.true

pub returns : goal.returns
returns c = raise-done _ _ (modulus-some _) _ _ _ (sym c.judge_list.ensures ∙ c.in_ok-judge_list.was) (omega arith) (omega arith) (omega arith)

-- `list_derivative::judge_derivative` meets its contract: the tests stand in the order of the numbers.
-- Assumes nothing.
use mathlib.Core.Path.{sym, ◌∙◌}
use native.Mathlib.Omega.{arith}
use Rattle.std.proofs.lemmas.Result.{err_from_is_err_and}
use Rattle.field.proofs.Fields.{modulus-some}
use Rattle.lists.proofs.Judged.{one-listed}
use Rattle.list_derivative.proofs.Judged.{derivative-refused, derivative-misfit, derivative-done}
use Rattle.list_derivative.proofs.judge_derivative.Goals as goal

pub returns-in_err-judge_list : goal.returns-in_err-judge_list
returns-in_err-judge_list c =
    let p = err_from_is_err_and c.from_residual.result c.from_residual.ensures.1 in
    rw (p.1, p.2) (derivative-refused _ _ _ _ (sym c.judge_list.ensures ∙ c.in_err-judge_list.was))

pub overflow_sub-f : goal.overflow_sub-f
overflow_sub-f c = (one-listed _ _ (modulus-some _) _ (sym c.judge_list.ensures ∙ c.in_ok-judge_list.was)).some

pub returns-then-out-max : goal.returns-then-out-max
returns-then-out-max c = derivative-misfit _ _ _ _ (sym c.judge_list.ensures ∙ c.in_ok-judge_list.was) (λ e. omega arith)

pub returns : goal.returns
returns c = derivative-done _ _ _ _ (sym c.judge_list.ensures ∙ c.in_ok-judge_list.was) (omega arith)

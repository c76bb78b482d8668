-- `list_sum::judge_sum` meets its contract: the tests stand in the order of the numbers.
-- Assumes nothing.
use mathlib.Core.Path.{sym, ◌∙◌}
use native.Mathlib.Omega.{arith}
use Rattle.std.proofs.lemmas.Result.{err_from_is_err_and}
use Rattle.field.proofs.Fields.{modulus-some}
use Rattle.list_sum.proofs.Judged.{sum-refused, sum-misfit, sum_done}
use Rattle.list_sum.proofs.judge_sum.Goals as goal

pub returns-in_err-judge_lists : goal.returns-in_err-judge_lists
returns-in_err-judge_lists c =
    let p = err_from_is_err_and c.from_residual.result c.from_residual.ensures.1 in
    rw (p.1, p.2) (sum-refused _ _ (modulus-some _) _ _ _ (sym c.judge_lists.ensures ∙ c.in_err-judge_lists.was))

pub returns-then-out-max : goal.returns-then-out-max
returns-then-out-max c = sum-misfit _ _ (modulus-some _) _ _ _ (sym c.judge_lists.ensures ∙ c.in_ok-judge_lists.was) (λ q. omega arith)

pub returns : goal.returns
returns c = sum_done _ _ (modulus-some _) _ _ _ (sym c.judge_lists.ensures ∙ c.in_ok-judge_lists.was) (omega arith)

-- `list_value::judge_evaluate` meets its contract: the tests stand in the order of the numbers.
-- Assumes nothing.
use mathlib.Core.Path.{sym, ◌∙◌}
use native.Mathlib.Omega.{arith}
use Rattle.std.proofs.lemmas.Result.{err_from_is_err_and}
use Rattle.list_value.proofs.Judged.{evaluate-refused, evaluate-loose, evaluate-done}
use Rattle.list_value.proofs.judge_evaluate.Goals as goal

pub returns-in_err-judge_list : goal.returns-in_err-judge_list
returns-in_err-judge_list c =
    let p = err_from_is_err_and c.from_residual.result c.from_residual.ensures.1 in
    rw (p.1, p.2) (evaluate-refused _ _ _ _ (sym c.judge_list.ensures ∙ c.in_err-judge_list.was))

pub returns-then-modulus_of-x : goal.returns-then-modulus_of-x
returns-then-modulus_of-x c = evaluate-loose _ _ _ _ (sym c.judge_list.ensures ∙ c.in_ok-judge_list.was) (omega arith)

pub returns : goal.returns
returns c = evaluate-done _ _ _ _ (sym c.judge_list.ensures ∙ c.in_ok-judge_list.was) (omega arith)

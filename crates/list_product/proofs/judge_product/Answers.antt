-- `list_product::judge_product` meets its contract: the tests stand in the order of the numbers.
-- Assumes nothing.
use mathlib.Core.Path.{sym, ◌∙◌}
use native.Mathlib.Omega.{arith}
use Rattle.std.proofs.lemmas.Result.{err_from_is_err_and}
use Rattle.field.proofs.Fields.{modulus-some}
use Rattle.list_product.proofs.Judged.{product-refused, product-over, product-misfit, product-done}
use Rattle.list_product.proofs.judge_product.Goals as goal

pub returns-in_err-judge_lists : goal.returns-in_err-judge_lists
returns-in_err-judge_lists c =
    let p = err_from_is_err_and c.from_residual.result c.from_residual.ensures.1 in
    rw (p.1, p.2) (product-refused _ _ (modulus-some _) _ _ _ (sym c.judge_lists.ensures ∙ c.in_err-judge_lists.was))

pub returns-then-longest_of-f : goal.returns-then-longest_of-f
returns-then-longest_of-f c = product-over _ _ (modulus-some _) _ _ _ (sym c.judge_lists.ensures ∙ c.in_ok-judge_lists.was) (omega arith)

pub returns-then-out-f : goal.returns-then-out-f
returns-then-out-f c = product-misfit _ _ (modulus-some _) _ _ _ (sym c.judge_lists.ensures ∙ c.in_ok-judge_lists.was) (omega arith) c.if-out-f.true

pub returns : goal.returns
returns c = product-done _ _ (modulus-some _) _ _ _ (sym c.judge_lists.ensures ∙ c.in_ok-judge_lists.was) (omega arith) (omega arith)

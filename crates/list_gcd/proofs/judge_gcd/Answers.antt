-- `list_gcd::judge_gcd` meets its contract: the tests stand in the order of the numbers.
-- Assumes nothing.
use mathlib.Core.Path.{sym, ◌∙◌, ap}
use mathlib.Core.Bool.{not}
use native.Mathlib.Omega.{arith}
use lib.ListN.{length}
use Rattle.std.proofs.lemmas.Result.{err_from_is_err_and}
use borrow.Author.Tests.{ne_eqb, eq-eqb}
use Rattle.list_gcd.specs.Calls.{gcd_rows}
use Rattle.list_gcd.proofs.Ready.{judged-lists, judged-zero, judged-misfit, judged-done}
use Rattle.list_gcd.proofs.judge_gcd.Goals as goal

pub returns-in_err-judge_lists : goal.returns-in_err-judge_lists
unfolding gcd_rows
returns-in_err-judge_lists c =
    let p = err_from_is_err_and c.from_residual.result c.from_residual.ensures.1 in rw (p.1, p.2) (judged-lists _ _ _ _ _ (sym c.judge_lists.ensures ∙ c.in_err-judge_lists.was))

pub returns-then-both_zero : goal.returns-then-both_zero
unfolding gcd_rows
returns-then-both_zero c =
    judged-zero _ _ _ _ _ (sym c.judge_lists.ensures ∙ c.in_ok-judge_lists.was) (sym c.both_zero.ensures ∙ c.if-both_zero.true)

pub returns-then-h-longest_of : goal.returns-then-h-longest_of
unfolding gcd_rows
returns-then-h-longest_of c =
    judged-misfit _ _ _ _ _ (sym c.judge_lists.ensures ∙ c.in_ok-judge_lists.was) (sym c.both_zero.ensures ∙ c.if-both_zero.false) (ap not (ne_eqb (length c.args.h.now) _ (λ e. omega arith)))

pub returns : goal.returns
unfolding gcd_rows
returns c =
    judged-done _ _ _ _ _ (sym c.judge_lists.ensures ∙ c.in_ok-judge_lists.was) (sym c.both_zero.ensures ∙ c.if-both_zero.false) (ap not (eq-eqb (length c.args.h.now) _ (omega arith)))

-- `word_division::reduce_in` meets its contract. The loop's invariant: k more steps leave what the whole division leaves, and their digits,
-- before those in q from k on, are all its digits.
-- Assumes nothing.
use mathlib.Core.Path.{sym, ◌∙◌}
use native.Mathlib.Omega.{arith}
use Rattle.word_row.proofs.Loops.{part-row}
use Rattle.word_division.proofs.Loops.{reduced-turn, digits-turn, reduced-end, digits-end, digits-start}
use Rattle.word_division.proofs.reduce_in.Goals as goal

pub loop-k-preserved : goal.loop-k-preserved
loop-k-preserved c =
    let at = c.loop-k.invariant in
    let digit = c.mul-c.ensures in
    let turned = c.negate.ensures in
    let left = part-row _ _ _ _ _ c.add_row.ensures in (
      reduced-turn _ _ _ _ _ c.loop-k-test.true digit turned left ∙ at.0,
      digits-turn _ _ _ _ _ _ c.loop-k-test.true (omega arith) digit turned left ∙ at.1,
    )

pub returns-clause-left : goal.returns-clause-left
returns-clause-left c = sym (reduced-end _ _ _ _ _ c.loop-k-test.false) ∙ c.loop-k.invariant.0

pub returns-clause-quotient : goal.returns-clause-quotient
returns-clause-quotient c = sym (digits-end _ _ _ _ _ _ c.loop-k-test.false) ∙ c.loop-k.invariant.1 ∙ digits-start _ _ _ c.args.x.now c.args.q.now

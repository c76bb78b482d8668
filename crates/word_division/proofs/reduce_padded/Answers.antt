-- `word_division::reduce_padded` meets its contract. The loop's invariant: the words of x are below p, k more steps leave what the whole division
-- leaves, and their digits, before those in q from k on, are all its digits.
-- Assumes nothing.
use mathlib.Core.Path.{sym, ◌∙◌}
use Prim.Native.Nat.{◌<◌}
use native.Mathlib.Omega.{arith}
use Rattle.field.specs.Fields.{modulus}
use Rattle.field.proofs.Fields.{modulus-half}
use Rattle.word_row.proofs.RowWords.{tight-row_from}
use Rattle.word_row.proofs.Loops.{part-row}
use Rattle.word_division.proofs.Loops.{reduced-end, digits-end, digits-start}
use Rattle.word_division.proofs.Padded.{padded-reduced, padded-digits}
use Rattle.word_division.proofs.reduce_padded.Goals as goal

pub loop-k-preserved : goal.loop-k-preserved
loop-k-preserved c =
    let pos : 0 < modulus c.args.field = omega (arith, modulus-half c.args.field) in
    let pre = c.requires in
    let at = c.loop-k.invariant in
    let digit = c.mul.ensures in
    let left = part-row _ _ _ _ _ c.sub_row.ensures in (
      tight-row_from _ pos _ _ _ _ at.0 left,
      padded-reduced _ _ _ _ pos pre.le_n.1 pre.zero_from _ _ c.loop-k-test.true at.0 digit left ∙ at.1,
      padded-digits _ _ _ _ pos pre.le_n.1 pre.zero_from _ _ c.loop-k-test.true at.0 digit left _ (omega arith) ∙ at.2,
    )

pub returns-clause-left : goal.returns-clause-left
returns-clause-left c = sym (reduced-end _ _ _ _ _ c.loop-k-test.false) ∙ c.loop-k.invariant.1

pub returns-clause-quotient : goal.returns-clause-quotient
returns-clause-quotient c = sym (digits-end _ _ _ _ _ _ c.loop-k-test.false) ∙ c.loop-k.invariant.2 ∙ digits-start _ _ _ c.args.x.now c.args.q.now

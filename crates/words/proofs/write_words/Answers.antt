-- `words::write_words` meets its contract. The loop's invariant: the bytes of the words before word k are written.
-- Assumes nothing.
use mathlib.Core.Path.{sym, ◌∙◌}
use native.Mathlib.Omega.{arith}
use borrow.Author.Rules.{rules}
use lib.ListN.{length-set}
use Rattle.lists.proofs.Bytes.{length-bytes_of}
use Rattle.lists.proofs.Filled.{fill_start, fill_end}
use Rattle.words.proofs.Transfer.{two-more, even_is, odd-not, half-not, bytes_fit, bytes-not}
use Rattle.words.proofs.write_words.Goals as goal

pub returns-then-bytes-eq1 : goal.returns-then-bytes-eq1
returns-then-bytes-eq1 c = bytes-not _ _ (odd-not _ _ c.if-bytes-eq1.true)

pub returns-then-bytes-words : goal.returns-then-bytes-words
returns-then-bytes-words c = bytes-not _ _ (half-not _ _ c.if-bytes-words.true)

pub loop-k-init : goal.loop-k-init
loop-k-init c = (even_is _ _ c.if-bytes-eq1.false c.if-bytes-words.false, fill_start _ _)

pub loop-k-preserved : goal.loop-k-preserved
loop-k-preserved c = (
  simp length-set c.loop-k.invariant.0,
  two-more _ _ _ _ _ c.loop-k.invariant.1 c.loop-k.invariant.0 c.loop-k-test.true (search rules) (search rules),
)

pub returns : goal.returns
returns c =
    fill_end c.loop-k.invariant.1 (omega (arith, length-bytes_of c.args.words.now)) (omega arith)
    ∙ sym (bytes_fit c.args.words.now c.args.bytes.now (omega arith))

-- `words::write_words` meets its contract. The loop's invariant: the bytes of the words before word k are written.
-- Assumes nothing.
use Rattle.std.proofs.Common.{◌≡◌, ◌*◌, length}
use Rattle.lists.specs.Bytes.{bytes_of}
use Rattle.lists.proofs.Filled.{Filled}
use Rattle.words.proofs.write_words.Given as goal

abbrev pub invariant-loop-k : goal.invariant-loop-k
invariant-loop-k l = (length l.bytes ≡ 2 * length l.words) × Filled l.bytes (2 * l.k) (bytes_of l.words)

-- `bind_text::read_lines` meets its contract. The loop's invariant: `used` words and k degrees are read, and the iterator has the lines left.
-- Assumes nothing.
use mathlib.Core.Path.{◌≡◌}
use lib.ListN.{length}
use Prim.Native.Nat.{◌*◌}
use Rattle.refusal.specs.Limits.{max_lists, max_words}
use Rattle.bind_text.specs.Internal.{lines_left}
use Rattle.bind_text.proofs.Reading.{Partway}
use Rattle.bind_text.proofs.read_lines.Given as goal

abbrev pub invariant-loop-k : goal.invariant-loop-k
invariant-loop-k l = record {
  words_len : length l.words ≡ max_lists * max_words;
  degrees_len : length l.degrees ≡ max_lists;
  partway : Partway l.text l.words l.degrees l.used l.k-iterator.count (lines_left l.k-iterator.iter);
}

-- `album_writer::write_entries` meets its contract. The loop's invariant: the first k entries are written, and the next body starts at
-- `place`.
-- Assumes nothing.
use mathlib.Core.Path.{◌≡◌}
use mathlib.Core.List.{◌++◌}
use Prim.Native.Nat.{◌+◌, ◌*◌, ◌≤◌}
use lib.ListN.{take, drop}
use Rattle.refusal.specs.Limits.{max_words, entry_bytes}
use Rattle.lists.specs.Bytes.{bytes_of}
use Rattle.album_writer.specs.Internal.{entries_by}
use Rattle.album_writer.proofs.write_entries.Given as goal

abbrev pub invariant-loop-k : goal.invariant-loop-k
invariant-loop-k l =
    (l.place ≤ l.first + 2 * max_words * l.k)
    × (take (entry_bytes * l.k) l.out ++ bytes_of (entries_by l.place (drop l.k l.degrees)) ≡ bytes_of (entries_by l.first l.degrees))

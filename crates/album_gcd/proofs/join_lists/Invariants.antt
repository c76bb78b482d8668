-- `album_gcd::join_lists` meets its contract. The loop's invariant: `res` holds the result after the lists below k, and the two buffers keep
-- their length.
-- Assumes nothing.
use mathlib.Core.Path.{◌≡◌}
use lib.ListN.{length}
use Rattle.field.specs.Fields.{field_at, longest}
use Rattle.album_layout.specs.Layout.{lists_of}
use Rattle.album_gcd.proofs.Folding.{Folding}
use Rattle.album_gcd.proofs.join_lists.Given as goal

abbrev pub invariant-loop-k : goal.invariant-loop-k
invariant-loop-k l = (length l.list ≡ longest l.field) × (length l.last ≡ longest l.field) × Folding (field_at l.field) (longest l.field) (lists_of l.album) l.k l.res l.so_far.words l.so_far.rounds l.so_far.least

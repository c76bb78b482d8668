-- `album_layout::judge_layout` meets its contract. The loop's invariant: n is the number of lists, at most the limit, and the table of contents
-- lies in the album; the first k entries name the places where the bodies start and degrees of at most the limit, and the next body starts
-- at `at`.
-- Assumes nothing.
use mathlib.Core.Path.{◌≡◌}
use mathlib.Core.Bool.{true}
use Prim.Native.Nat.{◌+◌, ◌*◌, ◌≤◌}
use lib.ListN.{length}
use Rattle.refusal.specs.Limits.{max_degree, max_lists, max_words}
use Rattle.album_layout.specs.Layout.{count, entry_at, start_at, offsets_agree, degrees_fit}
use Rattle.album_layout.proofs.judge_layout.Given as goal

abbrev pub invariant-loop-k : goal.invariant-loop-k
invariant-loop-k l = (l.n ≡ count l.album) × (l.n ≤ max_lists) × (entry_at l.n ≤ length l.album) × (l.at ≡ start_at l.album l.k) × (l.at ≤ entry_at max_lists + 2 * max_words * l.k) × (offsets_agree l.album l.k ≡ true) × (degrees_fit max_degree l.album l.k ≡ true)

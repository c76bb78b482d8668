-- After k turns the slice is `after album out k`.
-- Assumes nothing.
use mathlib.Core.Path.{◌≡◌}
use Rattle.album_contents.proofs.Records.{after}
use Rattle.album_contents.proofs.contents.Given as goal

abbrev pub invariant-loop-k : goal.invariant-loop-k
invariant-loop-k l = l.out ≡ after l.album l.initial.out l.k

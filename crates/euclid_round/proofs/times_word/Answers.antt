-- `euclid_round::times_word` meets its contract. The loop's invariant: the words before it are multiplied, and the rest is as it was.
-- Assumes nothing.
use native.Mathlib.Omega.{arith}
use Rattle.euclid_round.specs.Round.{multiplied}
use Rattle.euclid_round.proofs.Partway.{finish}
use Rattle.euclid_round.proofs.times_word.Goals as goal

pub returns : goal.returns
unfolding multiplied
returns c = finish c.loop-word.invariant (omega arith)

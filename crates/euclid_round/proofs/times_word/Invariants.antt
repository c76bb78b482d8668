-- `euclid_round::times_word` meets its contract. The loop's invariant: the words before it are multiplied, and the rest is as it was.
-- Assumes nothing.
use Prim.Native.Nat.{◌*◌, ◌%◌}
use lib.ListN.{get_or}
use Rattle.field.specs.Fields.{modulus}
use Rattle.euclid_round.proofs.Partway.{Partway}
use Rattle.euclid_round.proofs.times_word.Given as goal

abbrev pub invariant-loop-word : goal.invariant-loop-word
invariant-loop-word l = Partway l.initial.x (λ j. (get_or l.initial.x j 0 * l.m) % modulus l.field) l.x l.word-index

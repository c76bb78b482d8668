-- `word_expansion_halves::fill_signs` meets its contract. The loop's invariant: the words below k are written, and the next sign is at hand.
-- Assumes nothing.
use mathlib.Core.Path.{◌≡◌}
use lib.ListN.{length}
use Rattle.lists.proofs.Filled.{Filled}
use Rattle.word_expansion_halves.specs.Halves.{sign_at, signs}
use Rattle.word_expansion_halves.proofs.fill_signs.Given as goal

abbrev pub invariant-loop-word : goal.invariant-loop-word
invariant-loop-word l = Filled l.x l.word-index (signs l.p l.plus (length l.initial.x)) × (l.sign ≡ sign_at l.p l.plus l.word-index)

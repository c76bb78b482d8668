-- `field::longest_of` meets its contract.
-- Assumes nothing.
use mathlib.Core.Path.{refl}
use Rattle.field.specs.Fields.{longest}
use Rattle.field.proofs.longest_of.Goals as goal

pub returns : goal.returns
unfolding longest
returns c = refl

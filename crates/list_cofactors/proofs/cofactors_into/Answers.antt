-- `list_cofactors::cofactors_into` meets its contract, whichever arrays are lent.
-- Assumes nothing.
use mathlib.Core.Path.{refl}
use native.Mathlib.Omega.{arith}
use Rattle.field.specs.Fields.{field_at}
use Rattle.field.proofs.Fields.{longest-more, longest-room}
use Rattle.list_cofactors.proofs.Written.{part-words}
use Rattle.list_cofactors.proofs.cofactors_into.Goals as goal

pub cofactors_sized-requires : goal.cofactors_sized-requires
cofactors_sized-requires c =
    let known = part-words (field_at c.args.field) _ (longest-more c.args.field) c.requires.ready c.buffer_words-n.ensures in record { ready = (known.2, known.0, known.1); sizes = (omega arith, omega arith, refl); slices = c.requires.slices }

pub cofactors_sized-requires-2 : goal.cofactors_sized-requires-2
cofactors_sized-requires-2 c =
    let known = part-words (field_at c.args.field) _ (longest-more c.args.field) c.requires.ready c.buffer_words-n.ensures in record { ready = (known.2, known.0, known.1); sizes = (omega (arith, longest-room c.args.field), omega arith, refl); slices = c.requires.slices }

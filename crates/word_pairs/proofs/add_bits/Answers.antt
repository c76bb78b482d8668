-- `word_pairs::add_bits` meets its contract: the bits are the integer, above -2^31, and 2^31, modulo 2^32.
-- Assumes nothing.
use Rattle.std.proofs.Common.{ap, ◌∙◌, arith, w32, of_z}
use mir.ValLaws.{to_z-of_z}
use Rattle.word_pairs.specs.Pairs.{up32}
use Rattle.word_pairs.proofs.Integers.{bits_is}
use Rattle.word_pairs.proofs.add_bits.Goals as goal

pub returns : goal.returns
returns c =
    let t = c.args.t in
    let back = to_z-of_z w32 t c.ranges.t in
    omega (arith, c.cast_unsigned.ensures ∙ ap (λ z. of_z w32 z) back ∙ bits_is t c.ranges.t, ap up32 back)

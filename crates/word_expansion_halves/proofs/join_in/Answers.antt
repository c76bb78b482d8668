-- `word_expansion_halves::join_in` meets its contract: the product with a power of 1 ± t, and the second part added to it.
-- Assumes nothing.
use mathlib.Core.Path.{◌≡◌, ◌∙◌, ap}
use Prim.Native.Nat.{◌-◌}
use native.Mathlib.Omega.{arith}
use lib.ListN.{length}
use lib.Seq.{length_front}
use Rattle.field.specs.Fields.{field_at}
use Rattle.word_expansion_halves.specs.Halves.{power_row}
use Rattle.word_expansion_halves.proofs.Parts.{join_is}
use Rattle.word_expansion_halves.proofs.join_in.Goals as goal

pub returns : goal.returns
returns c =
    let a = c.args in
    let room = c.requires.room in
    let first = c.fill_row in
    let kept = length_front a.out.now first.new.sign (length a.row.now) first.auto.sign ∙ room.3 in
    let degree : length a.row.now - 1 ≡ length a.x.now - a.h = omega arith in
    c.copy_from_slice.ensures.after
    ∙ join_is a.field a.plus a.h c.requires.x_in_bounds.0 c.requires.x_in_bounds.1 _ (room.0, room.1) kept
    (first.ensures ∙ ap (power_row (field_at a.field) a.plus) degree) c.convolve.ensures c.add_row.ensures

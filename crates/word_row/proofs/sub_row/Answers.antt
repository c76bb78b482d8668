-- `word_row::sub_row` meets its contract: g and s are the constants of -a · m.
-- Assumes nothing.
use Rattle.std.proofs.Common.{ap, ◌∙◌, le_refl, arith}
use Rattle.lists.proofs.Tight.{tight-at}
use Rattle.word_row.specs.Rows.{row, minus_product}
use Rattle.word_row.proofs.Loops.{finish}
use Rattle.word_row.proofs.Montgomery.{lift-at, minus-at, factor-below}
use Rattle.word_row.proofs.sub_row.Goals as goal

pub add_product_below-g-requires : goal.add_product_below-g-requires
add_product_below-g-requires c =
    let lifted = lift-at c.args.field _ c.modulus_of-p.ensures c.word_inverse_of-e.ensures c.requires.lift_value c.low_half.ensures in
    (lifted.half, factor-below lifted, omega (arith, lifted.half))

pub lifted_row-requires : goal.lifted_row-requires
lifted_row-requires c =
    let lifted = lift-at c.args.field _ c.modulus_of-p.ensures c.word_inverse_of-e.ensures c.requires.lift_value c.low_half.ensures in
    record { le_p = (lifted.half, c.add_product_below-g.ensures.0); n_in_bounds = (omega arith, omega arith); tight = tight-at c.modulus_of-p.ensures c.requires.tight }

pub returns : goal.returns
returns c =
    let a = c.args in
    let lifted = lift-at a.field _ c.modulus_of-p.ensures c.word_inverse_of-e.ensures c.requires.lift_value c.low_half.ensures in
    let turned = minus-at a.field _ a.a c.modulus_of-p.ensures c.word_inverse_of-e.ensures (c.add_product_below-g.ensures.1 _ _ lifted) c.low_half-s.ensures in
    finish _ _ _ _ _ _ _ c.min.ensures (le_refl _) (c.lifted_row.ensures _ _ turned)
    ∙ ap (λ p. row p a.x.now (minus_product p a.a a.m) a.y.now) c.modulus_of-p.ensures

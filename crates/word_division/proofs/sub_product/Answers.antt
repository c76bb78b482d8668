-- `word_division::sub_product` meets its contract. The loop's invariant: the product with the first k words of q is taken off, and the words of s
-- are below p.
-- Assumes nothing.
use mathlib.Core.Path.{refl}
use Prim.Native.Nat.{◌<◌}
use native.Mathlib.Omega.{arith}
use Rattle.field.specs.Fields.{modulus}
use Rattle.field.proofs.Fields.{modulus-half}
use Rattle.word_division.specs.Reduction.{less_product_to}
use Rattle.word_row.proofs.RowWords.{tight-row_from}
use Rattle.word_row.proofs.Loops.{part-row}
use Rattle.word_division.proofs.Loops.{less-turn, less-end}
use Rattle.word_division.proofs.Padded.{minus_one}
use Rattle.word_division.proofs.sub_product.Goals as goal

pub loop-k-init : goal.loop-k-init
unfolding less_product_to
loop-k-init c = (c.requires.tight, refl)

pub loop-k-preserved : goal.loop-k-preserved
loop-k-preserved c =
    let pos : 0 < modulus c.args.field = omega (arith, modulus-half c.args.field) in
    let at = c.loop-k.invariant in
    let left = part-row _ _ _ _ _ c.sub_row.ensures in
    (tight-row_from _ pos _ _ _ _ at.0 left, less-turn _ _ _ _ _ at.1 (minus_one _ _) left)

pub returns : goal.returns
returns c = less-end _ _ _ _ _ c.loop-k.auto.k-end c.loop-k-test.false c.loop-k.invariant.1

-- `line_values::multiply` meets its contract.
-- Assumes nothing.
use mathlib.Core.Path.{refl}
use native.Mathlib.Omega.{arith}
use lib.ListN.{length-take}
use Rattle.line_values.proofs.Operations.{over, product-fits-room, came-product}
use Rattle.line_values.proofs.multiply.Goals as goal

pub returns-then-longest_of-n : goal.returns-then-longest_of-n
returns-then-longest_of-n c = over c.args.field c.args.a.now c.args.b.now c.requires.0 c.requires.1 c.args.room.now c.requires.2 refl (omega arith)

pub slice_bounds-product_over-end : goal.slice_bounds-product_over-end
slice_bounds-product_over-end c = product-fits-room c.args.field c.args.a.now c.args.b.now c.requires.0 c.requires.1 c.args.room.now c.requires.2 refl (omega arith)

pub slice_bounds-product_over-end-2 : goal.slice_bounds-product_over-end-2
slice_bounds-product_over-end-2 c = simp length-take (omega (arith, product-fits-room c.args.field c.args.a.now c.args.b.now c.requires.0 c.requires.1 c.args.room.now c.requires.2 refl (omega arith)))

pub returns : goal.returns
returns c = came-product c.args.field c.args.a.now c.args.b.now c.requires.0 c.requires.1 c.args.room.now c.requires.2 refl (omega arith) c.product_over.ensures.writes

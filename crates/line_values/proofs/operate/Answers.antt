-- `line_values::operate` meets its contract, whichever operator it is.
-- Assumes nothing.
use native.Mathlib.Omega.{arith}
use lib.ListN.{length-take}
use Rattle.line_values.proofs.Operations.{operation-add, operation-subtract, operation-multiply, larger-fits, came-sum, came-difference}
use Rattle.line_values.proofs.operate.Goals as goal

pub slice_bounds-sum_over-end : goal.slice_bounds-sum_over-end
slice_bounds-sum_over-end c = larger-fits c.args.field c.args.a.now c.args.b.now c.requires.0 c.requires.1 c.args.room.now c.requires.2 c.larger-n.ensures

pub slice_bounds-sum_over-end-in-Add : goal.slice_bounds-sum_over-end-in-Add
slice_bounds-sum_over-end-in-Add c = simp length-take (omega (arith, larger-fits c.args.field c.args.a.now c.args.b.now c.requires.0 c.requires.1 c.args.room.now c.requires.2 c.larger-n.ensures))

pub returns-in-Add : goal.returns-in-Add
returns-in-Add c =
    rw (operation-add _ _ _ _ _ c.in-Add.is) (came-sum c.args.field c.args.a.now c.args.b.now c.requires.0 c.requires.1 c.args.room.now c.requires.2 c.larger-n.ensures c.sum_over.ensures.writes)

pub slice_bounds-difference_over-end : goal.slice_bounds-difference_over-end
slice_bounds-difference_over-end c = larger-fits c.args.field c.args.a.now c.args.b.now c.requires.0 c.requires.1 c.args.room.now c.requires.2 c.larger-n.ensures

pub slice_bounds-difference_over-end-in-Subtract : goal.slice_bounds-difference_over-end-in-Subtract
slice_bounds-difference_over-end-in-Subtract c = simp length-take (omega (arith, larger-fits c.args.field c.args.a.now c.args.b.now c.requires.0 c.requires.1 c.args.room.now c.requires.2 c.larger-n.ensures))

pub returns-in-Subtract : goal.returns-in-Subtract
returns-in-Subtract c =
    rw (operation-subtract _ _ _ _ _ c.in-Subtract.is) (came-difference c.args.field c.args.a.now c.args.b.now c.requires.0 c.requires.1 c.args.room.now c.requires.2 c.larger-n.ensures c.difference_over.ensures.writes)

pub returns-in_default : goal.returns-in_default
returns-in_default c = rw (operation-multiply _ _ _ _ _ c.in_default.not-Add c.in_default.not-Subtract) c.multiply.ensures

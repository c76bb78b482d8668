-- `line_values::Stack::derive_top` meets its contract.
-- Assumes nothing.
use native.Mathlib.Omega.{arith}
use Rattle.std.proofs.Common.{length-take}
use Rattle.line_values.proofs.Steps.{below, room-above, one-fits, derive-so}
use Rattle.line_values.proofs.Stack.derive_top.Goals as goal

pub slice_bounds-push-end : goal.slice_bounds-push-end
slice_bounds-push-end c =
    let few = one-fits c.args.self.now c.requires.lying.0 _ c.requires.lying.1 c.derivative_of_top-n.ensures in
    omega (arith, c.requires.room_len)

pub slice_bounds-push-end-2 : goal.slice_bounds-push-end-2
slice_bounds-push-end-2 c =
    let few = one-fits c.args.self.now c.requires.lying.0 _ c.requires.lying.1 c.derivative_of_top-n.ensures in
    simp length-take (omega (arith, c.requires.room_len))

pub push-requires-clause-words : goal.push-requires-clause-words
push-requires-clause-words c =
    let m = c.args.self.now in
    let y = c.requires.lying.0 in
    let few = one-fits m y _ c.requires.lying.1 c.derivative_of_top-n.ensures in
    let low = y.low in
    rw c.pop.ensures (simp length-take (room-above (below y c.requires.lying.1) (omega arith) _ (omega arith)))

pub returns : goal.returns
returns c =
    derive-so c.args.self.now c.requires.lying.0 _ c.requires.lying.1 c.derivative_of_top-n.ensures (rw c.pop.ensures at c.push.ensures)

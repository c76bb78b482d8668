-- `line_values::Stack::join_top` meets its contract.
-- Assumes nothing.
use native.Mathlib.Omega.{arith}
use Rattle.std.proofs.Common.{◌∙◌, ap, length-take}
use Rattle.std.proofs.lemmas.Result.{err_from_is_err_and}
use Rattle.lines.specs.Program.{byte_of}
use Rattle.line_values.specs.Internal.{popped}
use Rattle.line_values.proofs.Steps.{below, room-above, two-fit, join-so, join-refused}
use Rattle.line_values.proofs.Stack.join_top.Goals as goal

pub returns-in_err-n : goal.returns-in_err-n
returns-in_err-n c =
    let p = err_from_is_err_and c.from_residual.result c.from_residual.ensures.1 in
    rw (p.1, p.2) (join-refused c.args.self.now c.requires.lying.1 (byte_of c.args.operator) c.in_err-n.ensures)

pub pop-requires-2 : goal.pop-requires-2
pop-requires-2 c =
    let some = c.requires.lying.1 in
    rw c.pop.ensures (below c.requires.lying.0 (omega arith), omega arith)

pub slice_bounds-push-end : goal.slice_bounds-push-end
slice_bounds-push-end c =
    let few = two-fit c.args.self.now c.requires.lying.0 _ c.requires.lying.1 (byte_of c.args.operator) c.in_ok-n.ensures in
    omega (arith, c.requires.room_len)

pub slice_bounds-push-end-2 : goal.slice_bounds-push-end-2
slice_bounds-push-end-2 c =
    let few = two-fit c.args.self.now c.requires.lying.0 _ c.requires.lying.1 (byte_of c.args.operator) c.in_ok-n.ensures in
    simp length-take (omega (arith, c.requires.room_len))

pub push-requires-clause-words : goal.push-requires-clause-words
push-requires-clause-words c =
    let m = c.args.self.now in
    let y = c.requires.lying.0 in
    let few = two-fit m y _ c.requires.lying.1 (byte_of c.args.operator) c.in_ok-n.ensures in
    let low = y.low in
    rw (c.pop-2.ensures, c.pop.ensures)
    (simp length-take (room-above (below (below y (omega arith)) (omega arith)) (omega arith) _ (omega arith)))

pub returns : goal.returns
returns c =
    let gone = c.pop-2.ensures ∙ ap popped c.pop.ensures in
    join-so c.args.self.now c.requires.lying.0 _ c.requires.lying.1 (byte_of c.args.operator) c.in_ok-n.ensures (rw gone at c.push.ensures)

-- `line_values::Stack::derivative_of_top` meets its contract.
-- Assumes nothing.
use mathlib.Core.Path.{refl, ◌∙◌, ap}
use native.Mathlib.Omega.{arith}
use Prim.Native.Nat.{◌-◌, max}
use lib.ListN.{take, length-take}
use Rattle.field.proofs.Fields.{longest-room}
use Rattle.list_derivative.specs.Calls.{derivative_written}
use Rattle.line_values.proofs.Stacks.{tops, top-size, top-words}
use Rattle.line_values.proofs.Operations.{came-derivative}
use Rattle.line_values.proofs.Stack.derivative_of_top.Goals as goal

pub overflow_sub-from : goal.overflow_sub-from
overflow_sub-from c =
    let y = c.requires.lying.0 in
    let t = tops (longest-room c.args.self.now.field) y.st y.stacked c.requires.lying.1 in
    omega arith

pub overflow_sub-k-2 : goal.overflow_sub-k-2
overflow_sub-k-2 c =
    let y = c.requires.lying.0 in
    let t = tops (longest-room c.args.self.now.field) y.st y.stacked c.requires.lying.1 in
    omega arith

pub slice_bounds-derivative_over-end-2 : goal.slice_bounds-derivative_over-end-2
slice_bounds-derivative_over-end-2 c =
    let y = c.requires.lying.0 in
    let t = tops (longest-room c.args.self.now.field) y.st y.stacked c.requires.lying.1 in
    omega (arith, c.requires.room_len, c.larger-n.ensures, longest-room c.args.self.now.field)

pub slice_bounds-derivative_over-end-3 : goal.slice_bounds-derivative_over-end-3
slice_bounds-derivative_over-end-3 c =
    let y = c.requires.lying.0 in
    let t = tops (longest-room c.args.self.now.field) y.st y.stacked c.requires.lying.1 in
    simp length-take (omega (arith, c.requires.room_len, c.larger-n.ensures, longest-room c.args.self.now.field))

pub returns : goal.returns
returns c = λ a s h.
    let m = c.args.self.now in
    let room = c.args.room.now in
    came-derivative m.field a (h.lists.0) room c.requires.room_len
    (c.larger-n.ensures ∙ ap (λ k. max (k - 1) 1) (top-size a s h))
    (c.derivative_over.ensures.writes ∙ ap (λ l. derivative_written m.field l (take c.larger-n.result room)) (top-words a s h refl refl))

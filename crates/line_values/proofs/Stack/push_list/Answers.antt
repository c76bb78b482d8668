-- `line_values::Stack::push_list` meets its contract.
-- Assumes nothing.
use Rattle.std.proofs.Common.{rules}
use native.Mathlib.Omega.{arith}
use Rattle.field.proofs.Fields.{longest-room}
use Rattle.line_values.proofs.Stacks.{filled-low}
use Rattle.line_values.proofs.Steps.{push-few, push-so, high-push}
use Rattle.line_values.proofs.Stack.push_list.Goals as goal

pub slice_bounds-read_at-end : goal.slice_bounds-read_at-end
slice_bounds-read_at-end c =
    let m = c.args.self.now in
    let y = c.requires.0.lying in
    let high = high-push c.args.list m.top c.requires.1 c.requires.0.high in
    let low = filled-low (longest-room m.field) y.stacked in
    omega (arith, y.words-room, y.sizes_room)

pub bounds-self-self : goal.bounds-self-self
bounds-self-self c =
    let m = c.args.self.now in
    let y = c.requires.0.lying in
    let high = high-push c.args.list m.top c.requires.1 c.requires.0.high in
    omega (arith, y.sizes_room)

pub overflow_add-self-3 : goal.overflow_add-self-3
overflow_add-self-3 c =
    let m = c.args.self.now in
    let y = c.requires.0.lying in
    let high = high-push c.args.list m.top c.requires.1 c.requires.0.high in
    let low = filled-low (longest-room m.field) y.stacked in
    let bytes = c.type_inv.album in
    let read = rw c.from.ensures at c.read_at-n.ensures.answer in
    let few = push-few m y c.args.album.now c.args.list c.requires.0.passed (λ k. omega (arith, bytes k)) c.requires.1 (c.requires.0.there c.requires.1) high read in
    omega (arith, y.words-room)

pub returns : goal.returns
returns c =
    let m = c.args.self.now in
    let y = c.requires.0.lying in
    let high = high-push c.args.list m.top c.requires.1 c.requires.0.high in
    let bytes = c.type_inv.album in
    let read = rw c.from.ensures at c.read_at-n.ensures.answer in
    let left = rw c.from.ensures at c.read_at-n.ensures.writes in
    (search rules, push-so m y c.args.album.now c.args.list c.requires.0.passed (λ k. omega (arith, bytes k)) c.requires.1 (c.requires.0.there c.requires.1) high _ read left)

-- `line_values::Stack::operate_on_top` meets its contract.
-- Assumes nothing.
use mathlib.Core.Path.{refl}
use native.Mathlib.Omega.{arith}
use Rattle.field.proofs.Fields.{longest-room}
use Rattle.line_values.proofs.Stacks.{twos}
use Rattle.line_values.proofs.Steps.{join-lists, joins}
use Rattle.line_values.proofs.Stack.operate_on_top.Goals as goal

pub overflow_sub-between-2 : goal.overflow_sub-between-2
overflow_sub-between-2 c =
    let y = c.requires.lying.0 in
    let t = twos (longest-room c.args.self.now.field) y.st y.stacked c.requires.lying.1 in
    let first = t.first in
    omega arith

pub overflow_sub-from-2 : goal.overflow_sub-from-2
overflow_sub-from-2 c =
    let y = c.requires.lying.0 in
    let t = twos (longest-room c.args.self.now.field) y.st y.stacked c.requires.lying.1 in
    let first = t.first in
    omega arith

pub operate-requires : goal.operate-requires
operate-requires c =
    let y = c.requires.lying.0 in
    let two = join-lists c.args.self.now y.st y.stacked c.requires.lying.1 refl refl in
    (two.0, two.1, c.requires.room_len)

pub returns : goal.returns
returns c = λ b a s h.
    let two = joins c.args.self.now c.requires.lying.1 refl refl b a s h in
    rw (two.0, two.1) at c.operate.ensures

-- `line_values::Stack::pop` meets its contract.
-- Assumes nothing.
use native.Mathlib.Omega.{arith}
use Rattle.field.proofs.Fields.{longest-room}
use Rattle.line_values.proofs.Stacks.{tops}
use Rattle.line_values.proofs.Stack.pop.Goals as goal

pub overflow_sub-self-2 : goal.overflow_sub-self-2
overflow_sub-self-2 c =
    let y = c.requires.0 in
    let t = tops (longest-room c.args.self.now.field) y.st y.stacked c.requires.1 in
    omega arith

-- `list_derivative::derivative_into` meets its contract: a constant's derivative is one zero word.
-- Assumes nothing.
use native.Mathlib.Omega.{arith}
use Rattle.field.specs.Fields.{field_at}
use Rattle.list_derivative.proofs.Derived.{constant}
use Rattle.list_derivative.proofs.derivative_into.Goals as goal

pub returns-then-f-eq1 : goal.returns-then-f-eq1
returns-then-f-eq1 c = constant (field_at _) c.args.f.now c.args.out.now c.if-f-eq1.true (omega arith)

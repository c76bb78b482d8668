-- `field_inverse::inverts` meets its contract.
-- Assumes nothing.
use native.Mathlib.Omega.{arith}
use Rattle.field.specs.Fields.{modulus}
use borrow.Author.Tests.{le-ltb, lt-ltb}
use Rattle.field_inverse.proofs.inverts.Goals as goal

pub returns-then-modulus_of-b : goal.returns-then-modulus_of-b
returns-then-modulus_of-b c =
    let a = c.args in
    simp (le-ltb a.b (modulus a.field) (omega arith))

pub returns : goal.returns
returns c =
    let a = c.args in
    simp (lt-ltb a.b (modulus a.field) (omega arith), c.mul.ensures)

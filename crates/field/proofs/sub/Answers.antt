-- `field::sub` meets its contract.
-- Assumes nothing.
use mathlib.Core.Path.{◌∙◌, ap₂}
use Prim.Native.Nat.{ℕ, ◌+◌, ◌-◌, ◌%◌}
use native.Mathlib.Nat.{mod-lt}
use native.Mathlib.Omega.{arith}
use Rattle.field.specs.Fields.{modulus}
use Rattle.field.proofs.Fields.{modulus-some}
use Rattle.field.proofs.sub.Goals as goal

pub overflow_sub-p : goal.overflow_sub-p
overflow_sub-p c =
    let a = c.args in
    omega (arith, mod-lt a.y (modulus-some a.field))

pub returns : goal.returns
returns c =
    let a = c.args in
    c.remainder.ensures
    ∙ ap₂ (λ (p y : ℕ). (a.x + (p - y)) % modulus a.field) c.modulus_of-p.ensures c.remainder-less.ensures

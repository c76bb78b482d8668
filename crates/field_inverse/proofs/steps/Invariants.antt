-- The loop's invariant: Euclid's steps, the second remainder not 0. The measure is the second remainder.
-- Assumes nothing.
use Prim.Native.Nat.{◌<◌}
use Rattle.field.specs.Fields.{modulus}
use Rattle.field_inverse.proofs.Euclid.{Steps}
use Rattle.field_inverse.proofs.steps.Given as goal

abbrev pub invariant-loop-r1 : goal.invariant-loop-r1
invariant-loop-r1 l = Steps (modulus l.field) l.a l.r0 l.r1 l.t0 l.t1 × (0 < l.r1)

abbrev pub decreases-loop-r1 : goal.decreases-loop-r1
decreases-loop-r1 l = l.r1

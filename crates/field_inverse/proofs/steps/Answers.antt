-- `field_inverse::steps` meets its contract.
-- Assumes nothing.
use mathlib.Core.Path.{sym, subst}
use Prim.Native.Nat.{ℕ, ◌/◌, ◌%◌, ◌<◌}
use native.Mathlib.Nat.{mod-lt}
use native.Mathlib.Omega.{arith}
use lib.IntN.{ℤ, pos}
use Rattle.field.specs.Fields.{modulus, prime-at}
use Rattle.field.proofs.Fields.{modulus-high}
use Rattle.field_inverse.specs.Internal.{Leaves}
use Rattle.field_inverse.proofs.Euclid.{Steps, started, divided, falling, second-low, Stepped, stepped}
use Rattle.field_inverse.proofs.LastStep.{some_left, Ended, ended}
use Rattle.field_inverse.proofs.steps.Goals as goal

-- one of Euclid's steps
turn : (k a r0 r1 : ℕ) (t0 t1 : ℤ) → 0 < r1 → Steps (modulus k) a r0 r1 t0 t1 → Stepped (modulus k) a r1 (r0 / r1) (r0 % r1) t0 t1
turn k a r0 r1 t0 t1 some s =
    stepped (modulus k) (omega (arith, modulus-high k)) a r0 r1 (r0 / r1) (r0 % r1) t0 t1 (divided r0 r1 some (falling (modulus k) s)) s

-- what the last cofactor leaves modulo p
finish :
    (k a r0 r1 : ℕ) (t0 t1 : ℤ) (some : 0 < r1) (s : Steps (modulus k) a r0 r1 t0 t1)
    → Ended (modulus k) (prime-at k) r1 some (second-low (modulus k) s) a t1
finish k a r0 r1 t0 t1 some s = ended _ _ _ _ _ _ r0 t0 t1 s

pub loop-r1-init : goal.loop-r1-init
loop-r1-init c =
    let a : ℕ = c.args.a in
    let p : ℕ = modulus c.args.field in
    (subst (λ (r : ℕ). Steps p a r a (pos 0) (pos 1)) (sym c.modulus_of-r0.ensures) (started p a (omega arith) (omega arith)), omega arith)

pub overflow_cast-r1-in-loop-r1 : goal.overflow_cast-r1-in-loop-r1
overflow_cast-r1-in-loop-r1 c = record { fits = omega (arith, second-low (modulus c.args.field) c.loop-r1.invariant.0, modulus-high c.args.field) }

pub nonzero_div-q : goal.nonzero_div-q
nonzero_div-q c = omega arith

pub nonzero_rem-r2 : goal.nonzero_rem-r2
nonzero_rem-r2 c = omega arith

pub overflow_cast-t2 : goal.overflow_cast-t2
overflow_cast-t2 c = (turn c.args.field c.args.a _ _ _ _ c.loop-r1.invariant.1 c.loop-r1.invariant.0).cast

pub overflow_mul-t2 : goal.overflow_mul-t2
overflow_mul-t2 c = (turn c.args.field c.args.a _ _ _ _ c.loop-r1.invariant.1 c.loop-r1.invariant.0).mul

pub overflow_sub-t2 : goal.overflow_sub-t2
overflow_sub-t2 c = (turn c.args.field c.args.a _ _ _ _ c.loop-r1.invariant.1 c.loop-r1.invariant.0).sub

pub loop-r1-smaller : goal.loop-r1-smaller
loop-r1-smaller c = mod-lt c.loop-r1.r0 (omega arith)

pub loop-r1-preserved : goal.loop-r1-preserved
loop-r1-preserved c =
    let k : ℕ = c.args.field in
    let next = (turn k c.args.a _ _ _ _ c.loop-r1.invariant.1 c.loop-r1.invariant.0).again in
    (next, some_left (modulus k) (prime-at k) _ c.loop-r1.r1 _ _ _ (omega arith) next)

pub brought_back-cofactor-requires : goal.brought_back-cofactor-requires
brought_back-cofactor-requires c = (finish c.args.field c.args.a _ _ _ _ c.loop-r1.invariant.1 c.loop-r1.invariant.0).size

pub overflow_cast-result : goal.overflow_cast-result
overflow_cast-result c = record { fits = omega (arith, second-low (modulus c.args.field) c.loop-r1.invariant.0, modulus-high c.args.field) }

pub returns : goal.returns
returns c =
    let cofactor = (finish c.args.field c.args.a _ _ _ _ c.loop-r1.invariant.1 c.loop-r1.invariant.0).leaves in
    (c.loop-r1.invariant.1, omega arith, subst (λ (b : ℕ). Leaves (modulus c.args.field) c.args.a c.loop-r1.r1 b) (sym c.brought_back-cofactor.ensures) cofactor)

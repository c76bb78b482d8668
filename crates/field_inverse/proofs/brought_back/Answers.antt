-- `field_inverse::brought_back` meets its contract.
-- Assumes nothing.
use mathlib.Core.Path.{sym, ap, ◌∙◌}
use Prim.Native.Nat.{ℕ, ◌+◌, ◌-◌, ◌%◌}
use native.Mathlib.Omega.{arith}
use Rattle.field.specs.Fields.{modulus}
use Rattle.field.proofs.Fields.{modulus-high}
use Rattle.field_inverse.proofs.Signed.{Negated, negated, Kept, kept}
use Rattle.field_inverse.proofs.brought_back.Goals as goal

pub overflow_sub-t : goal.overflow_sub-t
overflow_sub-t c =
    let low : Negated c.args.t c.ranges.t = negated _ _ (omega (arith, modulus-high c.args.field)) c.if-t-lt0.true in
    low.sub

pub overflow_cast-t : goal.overflow_cast-t
overflow_cast-t c =
    let low : Negated c.args.t c.ranges.t = negated _ _ (omega (arith, modulus-high c.args.field)) c.if-t-lt0.true in
    low.cast

pub overflow_cast-t-else-t-lt0 : goal.overflow_cast-t-else-t-lt0
overflow_cast-t-else-t-lt0 c =
    let high : Kept c.args.t c.ranges.t = kept _ _ (omega (arith, modulus-high c.args.field)) c.if-t-lt0.false in
    high.cast

pub returns-then-t-lt0 : goal.returns-then-t-lt0
returns-then-t-lt0 c =
    let low : Negated c.args.t c.ranges.t = negated _ _ (omega (arith, modulus-high c.args.field)) c.if-t-lt0.true in
    let p : ℕ = modulus c.args.field in
    c.sub.ensures ∙ ap (λ (x : ℕ). (0 + (p - x % p)) % p) c.reduce.ensures ∙ sym (low.is p)

pub returns-else-t-lt0 : goal.returns-else-t-lt0
returns-else-t-lt0 c =
    let high : Kept c.args.t c.ranges.t = kept _ _ (omega (arith, modulus-high c.args.field)) c.if-t-lt0.false in
    c.reduce-else-t-lt0.ensures ∙ sym (high.is (modulus c.args.field))

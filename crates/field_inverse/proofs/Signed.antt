-- Integers of a known sign on the machine: what a step of Euclid's does to its cofactors fits 32 bits.
--     Less              the machine's t0 - q·t1: each operation fits, and what comes out
--     Negated, Kept     what the machine makes of a negative integer, and of one that is not
-- Theorems:
--     less              the machine's t0 - q·t1 is that of the integers
--     negated, kept     a cofactor brought back to a word
-- Assumes nothing.
use mathlib.Core.Path.{◌≡◌, refl, sym, ap, ◌∙◌, subst}
use mathlib.Core.Bool.{Bool, true, false, cond}
use Prim.Native.Nat.{ℕ, zero, suc, ◌+◌, ◌-◌, ◌*◌, ◌%◌, ◌≤◌}
use native.Mathlib.Nat.{mul-zero, zero-add, mod-mod}
use native.Mathlib.Omega.{arith}
use lib.Dec.{T}
use lib.IntN.{ℤ, pos, negsuc, neg_ℤ, neg_ℤ-neg_ℤ, neg_ℤ-+ℤ, nat_abs, ◌+ℤ◌, ◌-ℤ◌, ◌*ℤ◌}
use lib.Signed.{lt_z, non_neg}
use borrow.Author.Tests.{le-ltb}
use mir.Syntax.{w32, w64}
use mir.Val.{to_z, of_z, SFits, Fits}
use mir.ValLaws.{to_z-of_z, to_z_pos}
use Rattle.field_inverse.specs.Internal.{residue_of}

true-false : true ≡ false → ⊥
true-false e = let z : ◌≡◌ {A = ℕ} 1 0 = ap (λ (b : Bool). cond b 1 0) e in omega arith

pub fits-pos : {n : ℕ} → n ≤ 65536 → SFits w32 (pos n)
fits-pos h = record { sfits = omega arith }

pub fits_neg : (n : ℕ) → n ≤ 65536 → SFits w32 (neg_ℤ (pos n))
fits_neg zero h = record { sfits = omega arith }
fits_neg (suc n) h = record { sfits = omega arith }

pub times-neg : (q m : ℕ) → pos q *ℤ neg_ℤ (pos m) ≡ neg_ℤ (pos (q * m))
times-neg q zero = ap pos (mul-zero q) ∙ ap (λ (n : ℕ). neg_ℤ (pos n)) (sym (mul-zero q))
times-neg q (suc m) = refl

pub neg-less : (m k : ℕ) → neg_ℤ (pos m) -ℤ pos k ≡ neg_ℤ (pos (m + k))
neg-less m k = sym (neg_ℤ-+ℤ (pos m) (pos k))

pub pos-less : (m k : ℕ) → pos m -ℤ neg_ℤ (pos k) ≡ pos (m + k)
pos-less m k = ap (λ (z : ℤ). pos m +ℤ z) (neg_ℤ-neg_ℤ (pos k))

-- the machine's t0 - q * t1: each operation fits, and what comes out
pub record Less (q : ℕ) (t0 t1 z : ℤ) : Type 0 where
  pub mul : SFits w32 (to_z w32 q *ℤ t1)
  pub sub : SFits w32 (t0 -ℤ to_z w32 (of_z w32 (to_z w32 q *ℤ t1)))
  pub out : to_z w32 (of_z w32 (t0 -ℤ to_z w32 (of_z w32 (to_z w32 q *ℤ t1)))) ≡ z

pub less :
    (q : ℕ) (t0 t1 : ℤ) {z0 z1 zp z : ℤ}
    → q ≤ 65536
    → t0 ≡ z0
    → t1 ≡ z1
    → pos q *ℤ z1 ≡ zp
    → SFits w32 zp
    → z0 -ℤ zp ≡ z
    → SFits w32 z
    → Less q t0 t1 z
less q t0 t1 {z0} {z1} {zp} {z} hq e0 e1 ep fp es fs = record { mul = mul; sub = sub; out = to_z-of_z w32 _ sub ∙ diff }
  where
    prod : to_z w32 q *ℤ t1 ≡ zp
    prod = ap (λ (x : ℤ). x *ℤ t1) (to_z_pos w32 q (omega arith)) ∙ ap (λ (x : ℤ). pos q *ℤ x) e1 ∙ ep

    mul : SFits w32 (to_z w32 q *ℤ t1)
    mul = subst (λ (x : ℤ). SFits w32 x) (sym prod) fp

    diff : t0 -ℤ to_z w32 (of_z w32 (to_z w32 q *ℤ t1)) ≡ z
    diff =
        ap (λ (x : ℤ). x -ℤ to_z w32 (of_z w32 (to_z w32 q *ℤ t1))) e0
        ∙ ap (λ (x : ℤ). z0 -ℤ x) (to_z-of_z w32 (to_z w32 q *ℤ t1) mul ∙ prod)
        ∙ es

    sub : SFits w32 (t0 -ℤ to_z w32 (of_z w32 (to_z w32 q *ℤ t1)))
    sub = subst (λ (x : ℤ). SFits w32 x) (sym diff) fs

-- A negative integer, negated.
module _ (t : ℤ) (fits : SFits w32 t) where
  same : to_z w32 (of_z w32 t) ≡ t
  same = to_z-of_z w32 t fits

  -- what the machine makes of 0 - t
  abbrev negative : ℤ
  negative = to_z w32 (of_z w32 (pos 0 -ℤ to_z w32 (of_z w32 t)))

  pub record Negated : Type 0 where
    pub sub : SFits w32 (pos 0 -ℤ to_z w32 (of_z w32 t))
    pub cast : T (non_neg negative) × Fits w64 (nat_abs negative)
    pub is : (p : ℕ) → residue_of p t ≡ (0 + (p - nat_abs negative % p % p)) % p

  pub record Kept : Type 0 where
    pub cast : T (non_neg (to_z w32 (of_z w32 t))) × Fits w64 (nat_abs (to_z w32 (of_z w32 t)))
    pub is : (p : ℕ) → residue_of p t ≡ nat_abs (to_z w32 (of_z w32 t)) % p

pub negated : (t : ℤ) (fits : SFits w32 t) → nat_abs t ≤ 65536 → lt_z (to_z w32 (of_z w32 t)) (pos 0) ≡ true → Negated t fits
unfolding residue_of
negated (pos n) fits h e = absurd (true-false (sym e ∙ ap (λ (z : ℤ). lt_z z (pos 0)) (same (pos n) fits) ∙ le-ltb n 0 (omega arith)))
negated (negsuc n) fits h e =
    let minus : pos 0 -ℤ to_z w32 (of_z w32 (negsuc n)) ≡ pos (suc n) = ap (λ (z : ℤ). pos 0 -ℤ z) (same (negsuc n) fits) ∙ ap pos (omega arith) in
    let sub : SFits w32 (pos 0 -ℤ to_z w32 (of_z w32 (negsuc n))) = subst (λ (z : ℤ). SFits w32 z) (sym minus) (fits-pos h) in
    let out : negative (negsuc n) fits ≡ pos (suc n) = to_z-of_z w32 _ sub ∙ minus in
    record {
      sub = sub;
      cast = subst (λ (z : ℤ). T (non_neg z) × Fits w64 (nat_abs z)) (sym out) (tt, record { fits = omega arith });
      is = λ p. sym (ap (λ (z : ℤ). (0 + (p - nat_abs z % p % p)) % p) out ∙ ap (λ (m : ℕ). (0 + (p - m)) % p) (mod-mod (suc n) p) ∙ ap (λ (m : ℕ). m % p) (zero-add (p - suc n % p)));
    }

pub kept : (t : ℤ) (fits : SFits w32 t) → nat_abs t ≤ 65536 → lt_z (to_z w32 (of_z w32 t)) (pos 0) ≡ false → Kept t fits
unfolding residue_of
kept (pos n) fits h e =
    record {
      cast = subst (λ (z : ℤ). T (non_neg z) × Fits w64 (nat_abs z)) (sym (same (pos n) fits)) (tt, record { fits = omega arith });
      is = λ p. sym (ap (λ (z : ℤ). nat_abs z % p) (same (pos n) fits));
    }
kept (negsuc n) fits h e = absurd (true-false (sym (ap (λ (z : ℤ). lt_z z (pos 0)) (same (negsuc n) fits)) ∙ e))

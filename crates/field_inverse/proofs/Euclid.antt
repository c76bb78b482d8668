-- Euclid's steps on p and a, with cofactors of alternating sign: each remainder is its cofactor times a, but for multiples of p.
--     Divided         r0 = q · r1 + r2, one step on whole numbers
--     Common          two remainders in turn, and the sizes of their cofactors
--     Up, Down        with which signs; Steps: one of the two
--     Stepped         what one more step asks of the machine, and keeps
-- Theorems:
--     started         the steps before the first
--     stepped         one more step
-- Assumes nothing.
use mathlib.Core.Path.{◌≡◌, refl, ap}
use mathlib.Core.Logic.{◌⊎◌, inl, inr}
use Prim.Native.Nat.{ℕ, ◌+◌, ◌*◌, ◌/◌, ◌%◌, ◌≤◌, ◌<◌}
use native.Mathlib.Nat.{mul-le-mul_right, mul-le-mul_left, div-add-mod', mod-lt}
use native.Mathlib.Decide.{dec_lt}
use native.Mathlib.Omega.{arith}
use lib.IntN.{ℤ, pos, neg_ℤ, ◌-ℤ◌, ◌*ℤ◌}
use mir.Syntax.{w32}
use mir.Val.{to_z, of_z, SFits}
use Rattle.field_inverse.proofs.Signed.{fits-pos, fits_neg, times-neg, neg-less, pos-less, Less, less}

-- r0 is q · r1 + r2
pub record Divided (r0 r1 q r2 : ℕ) : Type 0 where
  pub sum : q * r1 + r2 ≡ r0
  pub rest : r2 < r1
  pub some : 1 ≤ q

pub divided : (r0 r1 : ℕ) → 0 < r1 → r1 < r0 → Divided r0 r1 (r0 / r1) (r0 % r1)
divided r0 r1 h l = record { sum = div-add-mod' r0 r1; rest = mod-lt r0 h; some = some (dec_lt 0 (r0 / r1)) }
  where
    some : Dec (0 < r0 / r1) → 1 ≤ r0 / r1
    some (yes x) = x
    some (no x) = omega (arith, div-add-mod' r0 r1, mod-lt r0 h, mul-le-mul_right r1 (none x))
      where
        none : (0 < r0 / r1 → ⊥) → r0 / r1 ≤ 0
        none x = omega arith

module _ (p : ℕ) where
  -- two remainders r0 and r1 in turn, and the sizes of their cofactors
  pub record Common (r0 r1 m0 m1 : ℕ) : Type 0 where
    pub falls : r1 < r0
    pub top : r0 ≤ p
    pub more : r0 < p + r1
    pub whole : r0 * m1 + r1 * m0 ≡ p
    pub order : m0 ≤ m1

  pub record Up (a r0 r1 : ℕ) (t0 t1 : ℤ) : Type 0 where
    pub m0 : ℕ
    pub m1 : ℕ
    pub k0 : ℕ
    pub k1 : ℕ
    pub sign0 : t0 ≡ neg_ℤ (pos m0)
    pub sign1 : t1 ≡ pos m1
    pub common : Common r0 r1 m0 m1
    pub left : r0 + m0 * a ≡ k0 * p
    pub right : r1 + k1 * p ≡ m1 * a

  pub record Down (a r0 r1 : ℕ) (t0 t1 : ℤ) : Type 0 where
    pub m0 : ℕ
    pub m1 : ℕ
    pub k0 : ℕ
    pub k1 : ℕ
    pub sign0 : t0 ≡ pos m0
    pub sign1 : t1 ≡ neg_ℤ (pos m1)
    pub common : Common r0 r1 m0 m1
    pub left : r0 + k0 * p ≡ m0 * a
    pub right : r1 + m1 * a ≡ k1 * p

  abbrev pub Steps : ℕ → ℕ → ℕ → ℤ → ℤ → Type 0
  Steps a r0 r1 t0 t1 = Up a r0 r1 t0 t1 ⊎ Down a r0 r1 t0 t1

  pub falling : {a r0 r1 : ℕ} {t0 t1 : ℤ} → Steps a r0 r1 t0 t1 → r1 < r0
  falling (inl u) = u.common.falls
  falling (inr u) = u.common.falls

  pub second-low : {a r0 r1 : ℕ} {t0 t1 : ℤ} → Steps a r0 r1 t0 t1 → r1 < p
  second-low (inl u) = omega (arith, u.common.falls, u.common.top)
  second-low (inr u) = omega (arith, u.common.falls, u.common.top)

  pub started : (a : ℕ) → 0 < a → a < p → Steps a p a (pos 0) (pos 1)
  started a h l =
      inl (record {
        m0 = 0;
        m1 = 1;
        k0 = 1;
        k1 = 0;
        sign0 = refl;
        sign1 = refl;
        common = record { falls = l; top = omega arith; more = omega arith; whole = omega arith; order = omega arith };
        left = omega arith;
        right = omega arith;
      })

  module _ {r0 r1 m0 m1 : ℕ} (q r2 : ℕ) (d : Divided r0 r1 q r2) (s : Common r0 r1 m0 m1) where
    next : Common r1 r2 m1 (m0 + q * m1)
    next = record {
      falls = d.rest;
      top = omega arith;
      more = omega arith;
      whole = omega (arith, ap (λ (i : ℕ). i * m1) d.sum, s.whole);
      order = omega (arith, mul-le-mul_right m1 d.some);
    }

    one : 1 ≤ r1
    one = omega (arith, d.rest)

    bound : m0 + q * m1 ≤ p
    bound = omega (arith, mul-le-mul_right (m0 + q * m1) one, next.whole)

    q-bound : q ≤ p
    q-bound = omega (arith, mul-le-mul_left q one, d.sum, s.top)

  -- what a turn of the loop asks and keeps
  pub record Stepped (a r1 q r2 : ℕ) (t0 t1 : ℤ) : Type 0 where
    pub cast : SFits w32 (pos q)
    pub mul : SFits w32 (to_z w32 q *ℤ t1)
    pub sub : SFits w32 (t0 -ℤ to_z w32 (of_z w32 (to_z w32 q *ℤ t1)))
    pub again : Steps a r1 r2 t1 (to_z w32 (of_z w32 (t0 -ℤ to_z w32 (of_z w32 (to_z w32 q *ℤ t1)))))

  pub stepped : p ≤ 65536 → (a r0 r1 q r2 : ℕ) (t0 t1 : ℤ) → Divided r0 r1 q r2 → Steps a r0 r1 t0 t1 → Stepped a r1 q r2 t0 t1
  stepped fit a r0 r1 q r2 t0 t1 d (inl u) =
      let sizes : Common r0 r1 u.m0 u.m1 = u.common in
      let low-size : u.m0 + q * u.m1 ≤ p = bound q r2 d sizes in
      let low-quotient : q ≤ p = q-bound q r2 d sizes in
      let made : Less q t0 t1 (neg_ℤ (pos (u.m0 + q * u.m1))) =
      less q t0 t1 (omega arith) u.sign0 u.sign1
      refl (fits-pos (omega arith))
      (neg-less u.m0 (q * u.m1)) (fits_neg (u.m0 + q * u.m1) (omega arith)) in
      record {
        cast = fits-pos (omega arith);
        mul = made.mul;
        sub = made.sub;
        again = inr (record {
          m0 = u.m1;
          m1 = u.m0 + q * u.m1;
          k0 = u.k1;
          k1 = u.k0 + q * u.k1;
          sign0 = u.sign1;
          sign1 = made.out;
          common = next q r2 d sizes;
          left = u.right;
          right = omega (arith, u.left, ap (λ (i : ℕ). q * i) u.right, d.sum);
        });
      }
  stepped fit a r0 r1 q r2 t0 t1 d (inr u) =
      let sizes : Common r0 r1 u.m0 u.m1 = u.common in
      let low-size : u.m0 + q * u.m1 ≤ p = bound q r2 d sizes in
      let low-quotient : q ≤ p = q-bound q r2 d sizes in
      let made : Less q t0 t1 (pos (u.m0 + q * u.m1)) =
      less q t0 t1 (omega arith) u.sign0 u.sign1
      (times-neg q u.m1) (fits_neg (q * u.m1) (omega arith))
      (pos-less u.m0 (q * u.m1)) (fits-pos (omega arith)) in
      record {
        cast = fits-pos (omega arith);
        mul = made.mul;
        sub = made.sub;
        again = inl (record {
          m0 = u.m1;
          m1 = u.m0 + q * u.m1;
          k0 = u.k1;
          k1 = u.k0 + q * u.k1;
          sign0 = u.sign1;
          sign1 = made.out;
          common = next q r2 d sizes;
          left = u.right;
          right = omega (arith, u.left, ap (λ (i : ℕ). q * i) u.right, d.sum);
        });
      }

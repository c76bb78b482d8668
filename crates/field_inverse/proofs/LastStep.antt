-- How Euclid's steps on a prime p and a end: at a remainder that is not 0, with a cofactor that leaves it.
--     Ended           the cofactor is no larger than p, and its product with a leaves the remainder
-- Theorems:
--     some_left       after a remainder above 1 comes one that is not 0
--     ended           at each remainder that is not 0 the cofactor is so
-- Assumes nothing.
use mathlib.Core.Path.{◌≡◌, refl, sym, ap, ◌∙◌, subst}
use mathlib.Core.Logic.{◌⊎◌, inl, inr}
use Prim.Native.Nat.{ℕ, zero, suc, ◌+◌, ◌*◌, ◌-◌, ◌/◌, ◌%◌, ◌≤◌, ◌<◌, ◌∣◌}
use native.Mathlib.Nat.{zero-mod, mul-le-mul_right, mul-le-mul_left, div-add-mod', mod-lt, mod-eq_of_lt, dvd-mul_right, add-mul-mod_self_right}
use native.Mathlib.Omega.{arith}
use lib.IntN.{ℤ, pos, neg_ℤ, nat_abs}
use Rattle.algebra.specs.Prime.{Prime}
use Rattle.field_inverse.specs.Internal.{residue_of, Leaves}
use Rattle.field_inverse.proofs.Euclid.{Common, Steps}

-- a divisor of p below p is 1
divisor : (p : ℕ) → Prime p → (d e : ℕ) → d * e ≡ p → d < p → d ≡ 1
divisor p prime d e h l = pick (prime.only d (subst (λ (n : ℕ). d ∣ n) h (dvd-mul_right d e)))
  where
    pick : (d ≡ 1) ⊎ (d ≡ p) → d ≡ 1
    pick (inl x) = x
    pick (inr x) = absurd (omega arith)

-- the products at the end, where d and n are the quotient and the remainder of the cofactor's size m
neg-product : (p a b n d m k r : ℕ) → b + n ≡ p → d * p + n ≡ m → r + m * a ≡ k * p → a * b + k * p ≡ r + (a + a * d) * p
neg-product p a b n d m k r h e f = omega (arith, ap (λ (i : ℕ). a * i) h, ap (λ (i : ℕ). a * i) e)

pos-product : (p a n d m k r : ℕ) → d * p + n ≡ m → r + k * p ≡ m * a → a * n + a * d * p ≡ r + k * p
pos-product p a n d m k r e f = omega (arith, ap (λ (i : ℕ). a * i) e)

small : (p : ℕ) {r0 r1 m0 m1 : ℕ} → Common p r0 r1 m0 m1 → m1 ≤ p
small p {r0} {r1} {m0} {m1} s = omega (arith, s.whole, mul-le-mul_right m1 some)
  where
    some : 1 ≤ r0
    some = omega (arith, s.falls)

positive : (p : ℕ) → Prime p → 0 < p
positive p prime = let above-1 : 1 < p = prime.big in omega arith

size-neg : (m : ℕ) {p : ℕ} → m ≤ p → nat_abs (neg_ℤ (pos m)) ≤ p
size-neg zero h = h
size-neg (suc m) h = h

-- the second cofactor is not 0
some_size : (p : ℕ) → Prime p → {r0 r1 m0 : ℕ} (m1 : ℕ) → Common p r0 r1 m0 m1 → 0 < m1
some_size p prime {r0} {r1} {m0} zero s =
    absurd (omega (arith, positive p prime, s.whole, s.order, mul-le-mul_left r1 s.order))
some_size p prime (suc m1) s = omega arith

module _ (p : ℕ) (prime : Prime p) where
  -- where the second remainder is 0, the first is 1
  last-is-one : (a r0 : ℕ) (t0 t1 : ℤ) → Steps p a r0 0 t0 t1 → r0 ≡ 1
  last-is-one a r0 t0 t1 (inl u) = divisor p prime r0 u.m1 (omega (arith, u.common.whole)) (omega (arith, u.common.more))
  last-is-one a r0 t0 t1 (inr u) = divisor p prime r0 u.m1 (omega (arith, u.common.whole)) (omega (arith, u.common.more))

  -- so a remainder after one above 1 is not 0
  pub some_left : (a r0 r1 : ℕ) (t0 t1 : ℤ) → 1 < r0 → Steps p a r0 r1 t0 t1 → 0 < r1
  some_left a r0 zero t0 t1 h s = absurd (omega (arith, last-is-one a r0 t0 t1 s))
  some_left a r0 (suc r1) t0 t1 h s = omega arith

  module _ (r : ℕ) (some : 0 < r) (less : r < p) (a : ℕ) where
    -- a product that is r but for multiples of p leaves r
    leaves : (x k l : ℕ) → x + k * p ≡ r + l * p → x % p ≡ r
    leaves x k l e =
        sym (add-mul-mod_self_right x k p)
        ∙ ap (λ (n : ℕ). n % p) e
        ∙ add-mul-mod_self_right r l p
        ∙ mod-eq_of_lt less

    -- the cofactor's size is no multiple of p
    neg-some : (n d m k : ℕ) → d * p + n ≡ m → r + m * a ≡ k * p → 0 < n
    neg-some zero d m k e f = absurd (omega (arith, leaves 0 k (d * a) (omega (arith, ap (λ (i : ℕ). i * a) e)), zero-mod p))
    neg-some (suc n) d m k e f = omega arith

    -- what a cofactor leaves that is not negative, and one that is
    above : (m k : ℕ) → r + k * p ≡ m * a → Leaves p a r (m % p)
    above m k e =
        record {
          high = mod-lt m (positive p prime);
          is = leaves (a * (m % p)) (a * (m / p)) k (pos-product p a (m % p) (m / p) m k r (div-add-mod' m p) e);
        }

    below : (m k : ℕ) → r + m * a ≡ k * p → Leaves p a r ((p - m % p) % p)
    below m k e =
        let n : ℕ = m % p in
        let below-p : n < p = mod-lt m (positive p prime) in
        let more : 0 < n = neg-some n (m / p) m k (div-add-mod' m p) e in
        subst (λ (b : ℕ). Leaves p a r b) (sym (mod-eq_of_lt (omega arith)))
        (record {
          high = omega arith;
          is = leaves (a * (p - n)) k (a + a * (m / p)) (neg-product p a (p - n) n (m / p) m k r (omega arith) (div-add-mod' m p) e);
        })

    of_negative : (m : ℕ) → 0 < m → residue_of p (neg_ℤ (pos m)) ≡ (p - m % p) % p
    unfolding residue_of
    of_negative zero h = absurd (omega arith)
    of_negative (suc m) h = refl

    pub record Ended (t1 : ℤ) : Type 0 where
      pub size : nat_abs t1 ≤ p
      pub leaves : Leaves p a r (residue_of p t1)

    pub ended : (r0 : ℕ) (t0 t1 : ℤ) → Steps p a r0 r t0 t1 → Ended t1
    unfolding residue_of
    ended r0 t0 t1 (inl u) =
        let sign : t1 ≡ pos u.m1 = u.sign1 in
        record {
          size = subst (λ (z : ℤ). nat_abs z ≤ p) (sym sign) (small p u.common);
          leaves = subst (λ (z : ℤ). Leaves p a r (residue_of p z)) (sym sign) (above u.m1 u.k1 u.right);
        }
    ended r0 t0 t1 (inr u) =
        let sign : t1 ≡ neg_ℤ (pos u.m1) = u.sign1 in
        let more : 0 < u.m1 = some_size p prime u.m1 u.common in
        record {
          size = subst (λ (z : ℤ). nat_abs z ≤ p) (sym sign) (size-neg u.m1 (small p u.common));
          leaves = subst (λ (b : ℕ). Leaves p a r b) (sym (ap (residue_of p) sign ∙ of_negative u.m1 more)) (below u.m1 u.k1 u.right);
        }

-- The laws of Z/p that make it a field for a prime p.
--     value_mod_lt                                          the number that is an element is below p
--     value_mod-residue_mod, residue_mod-value_mod          residue and number undo each other
--     residue_mod_eq, residue_mod_injective                 two numbers have one residue where they leave the same remainder by p, and only there
--     residue_mod-add, residue_mod-mul, residue_mod-neg     the residue of a sum, a product and a negative is that of the residues
--     euclid-inverts                                        where only 1 divides both numbers, Euclid's steps end with the inverse
--     mul-inverse_in                                        a times its inverse is 1, for each a but 0
--     one≢zero                                              1 is not 0
-- Assumes nothing.
use Rattle.std.specs.Prelude.{◌≡◌, ◌⊎◌}
use Rattle.std.proofs.Math.Path.{refl, sym, ap}
use Rattle.std.proofs.Common.{◌∙◌, subst, inl, inr}
use Prim.Native.Nat.{ℕ, zero, suc, ◌+◌, ◌*◌, ◌-◌, ◌%◌, ◌/◌, ◌<◌, ◌≤◌, ◌∣◌}
use Rattle.std.proofs.Math.Nat as N
use native.Mathlib.Omega.{arith}
use Rattle.algebra.specs.RingLaws as R
use Rattle.algebra.specs.RingLaws.{RING}
use Rattle.algebra.specs.Prime.{Prime}
use Rattle.algebra.specs.Modular.{ring-mod, euclid_mod, inverse_mod, residue_mod, value_mod, inverse_in}
use Rattle.algebra.specs.ResiduesLaws.{red_eq, red_of, add-red, mul-red, pos_of}

module _ (p : ℕ) (pos : 0 < p) where
  open ring-mod p pos use {Carrier, one as 𝟙, zero as 𝟘, add as ◌⊕◌, mul as ◌⊗◌, neg as ⊖◌}

  infixl 65 ◌⊕◌
  infixl 70 ◌⊗◌
  infix 80 ⊖◌
  pub value_mod_lt : (a : Carrier) → value_mod p pos a < p
  unfolding ring-mod value_mod
  value_mod_lt a = a.1

  pub value_mod-residue_mod : (n : ℕ) → value_mod p pos (residue_mod p pos n) ≡ n % p
  unfolding ring-mod value_mod residue_mod
  value_mod-residue_mod n = refl

  pub residue_mod-value_mod : (a : Carrier) → residue_mod p pos (value_mod p pos a) ≡ a
  unfolding ring-mod value_mod residue_mod
  residue_mod-value_mod a = red_of p pos a

  pub residue_mod_eq : (a b : ℕ) → a % p ≡ b % p → residue_mod p pos a ≡ residue_mod p pos b
  unfolding ring-mod residue_mod
  residue_mod_eq a b h = red_eq p pos a b h

  pub residue_mod_injective : (a b : ℕ) → residue_mod p pos a ≡ residue_mod p pos b → a % p ≡ b % p
  residue_mod_injective a b h = sym (value_mod-residue_mod a) ∙ ap (value_mod p pos) h ∙ value_mod-residue_mod b

  pub residue_mod-add : (a b : ℕ) → residue_mod p pos (a + b) ≡ residue_mod p pos a ⊕ residue_mod p pos b
  unfolding ring-mod residue_mod
  residue_mod-add a b = sym (add-red p pos a b)

  pub residue_mod-mul : (a b : ℕ) → residue_mod p pos (a * b) ≡ residue_mod p pos a ⊗ residue_mod p pos b
  unfolding ring-mod residue_mod
  residue_mod-mul a b = sym (mul-red p pos a b)

  pub residue_mod-mod : (a : ℕ) → residue_mod p pos (a % p) ≡ residue_mod p pos a
  residue_mod-mod a = residue_mod_eq (a % p) a (N.mod-mod a p)

  pub residue_mod-neg : (a : ℕ) → residue_mod p pos (p - a % p) ≡ ⊖ residue_mod p pos a
  unfolding ring-mod residue_mod
  residue_mod-neg a = refl

  pub residue_mod-zero : residue_mod p pos 0 ≡ 𝟘
  unfolding ring-mod residue_mod
  residue_mod-zero = refl

  pub residue_mod-one : residue_mod p pos 1 ≡ 𝟙
  unfolding ring-mod residue_mod
  residue_mod-one = refl

  euclid-step : (r0 m s0 s1 : ℕ) (x : Carrier) → residue_mod p pos r0 ≡ residue_mod p pos s0 ⊗ x → residue_mod p pos m ≡ residue_mod p pos s1 ⊗ x
      → residue_mod p pos (r0 % m) ≡ residue_mod p pos ((s0 + (p - (r0 / m * s1) % p)) % p) ⊗ x
  euclid-step r0 m s0 s1 x h0 h1 =
      R.move (ring-mod p pos) (residue_mod p pos (r0 % m)) (residue_mod p pos (r0 / m) ⊗ residue_mod p pos m) (residue_mod p pos r0) e
      ∙ rw (h0, h1, residue_mod-mod, residue_mod-add, residue_mod-neg, residue_mod-mul) (simp RING)
    where
      e : residue_mod p pos (r0 % m) ⊕ residue_mod p pos (r0 / m) ⊗ residue_mod p pos m ≡ residue_mod p pos r0
      e =
          sym (residue_mod-add (r0 % m) (r0 / m * m) ∙ ap (λ y. residue_mod p pos (r0 % m) ⊕ y) (residue_mod-mul (r0 / m) m))
          ∙ ap (residue_mod p pos) (N.mod-add-div' r0 m)

  -- where only 1 divides r0 and r1, the answer is 1/x
  euclid-inverts : (k r0 r1 s0 s1 : ℕ) (x : Carrier) → r1 ≤ k → residue_mod p pos r0 ≡ residue_mod p pos s0 ⊗ x → residue_mod p pos r1 ≡ residue_mod p pos s1 ⊗ x
      → ((d : ℕ) → d ∣ r0 → d ∣ r1 → d ≡ 1) → 𝟙 ≡ residue_mod p pos (euclid_mod p k r0 r1 s0 s1) ⊗ x
  unfolding euclid_mod
  euclid-inverts zero r0 r1 s0 s1 x l h0 h1 c =
      sym residue_mod-one ∙ ap (residue_mod p pos) (sym (c r0 (N.dvd_refl r0) (subst (λ y. r0 ∣ y) z (N.dvd-zero r0)))) ∙ h0
    where
      z : 0 ≡ r1
      z = omega arith
  euclid-inverts (suc k) r0 zero s0 s1 x l h0 h1 c =
      sym residue_mod-one ∙ ap (residue_mod p pos) (sym (c r0 (N.dvd_refl r0) (N.dvd-zero r0))) ∙ h0
  euclid-inverts (suc k) r0 (suc r1) s0 s1 x l h0 h1 c =
      let smaller : r0 % suc r1 < suc r1 = N.mod-lt r0 (N.zero-lt-suc r1) in
      euclid-inverts k (suc r1) (r0 % suc r1) s1 ((s0 + (p - (r0 / suc r1 * s1) % p)) % p) x (omega arith) h1
      (euclid-step r0 (suc r1) s0 s1 x h0 h1) (λ d a b. c d ((N.dvd-mod_iff d a).0 b) a)

module _ (p : ℕ) (prime : Prime p) where
  open ring-mod p (pos_of p prime) use {Carrier, one as 𝟙, zero as 𝟘, mul as ◌⊗◌}

  infixl 70 ◌⊗◌
  pub mul-inverse_in : (a : Carrier) → ¬ (a ≡ 𝟘) → a ⊗ inverse_in p prime a ≡ 𝟙
  unfolding inverse_in inverse_mod
  mul-inverse_in a n =
      R.mul_comm (ring-mod p (pos_of p prime)) a (inverse_in p prime a)
      ∙ sym (euclid-inverts p (pos_of p prime) p p v 0 1 a (N.le_of_lt (value_mod_lt p (pos_of p prime) a)) first second coprime)
    where
      v : ℕ
      v = value_mod p (pos_of p prime) a

      first : residue_mod p (pos_of p prime) p ≡ residue_mod p (pos_of p prime) 0 ⊗ a
      first =
          residue_mod_eq p (pos_of p prime) p 0 (N.mod_self p ∙ sym (N.zero-mod p)) ∙ rw (residue_mod-zero p (pos_of p prime)) (simp RING)

      second : residue_mod p (pos_of p prime) v ≡ residue_mod p (pos_of p prime) 1 ⊗ a
      second = residue_mod-value_mod p (pos_of p prime) a ∙ rw (residue_mod-one p (pos_of p prime)) (simp RING)

      nonzero : ¬ (v ≡ 0)
      nonzero e =
          n (sym (residue_mod-value_mod p (pos_of p prime) a) ∙ ap (residue_mod p (pos_of p prime)) e ∙ residue_mod-zero p (pos_of p prime))

      coprime : (d : ℕ) → d ∣ p → d ∣ v → d ≡ 1
      coprime d dp dv = go (prime.only d dp)
        where
          go : (d ≡ 1) ⊎ (d ≡ p) → d ≡ 1
          go (inl e) = e
          go (inr e) =
              let at_most : d ≤ v = N.le_of_dvd (N.pos_of_ne-zero nonzero) dv in
              let below = value_mod_lt p (pos_of p prime) a in
              absurd (omega arith)

  pub one≢zero : ¬ (𝟙 ≡ 𝟘)
  one≢zero e =
      let remainders : 1 % p ≡ 0 % p = residue_mod_injective p (pos_of p prime) 1 0 (residue_mod-one p (pos_of p prime) ∙ e ∙ sym (residue_mod-zero p (pos_of p prime))) in
      let equal : ◌≡◌ {A = ℕ} 1 0 = sym (N.mod-eq_of_lt prime.big) ∙ remainders ∙ N.zero-mod p in
      omega arith

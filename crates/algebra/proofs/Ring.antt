-- Powers in a commutative ring, and products in a field.
--     pow-zero, pow-suc, pow-next     a^0 = 1, a^(n+1) = a · a^n = a^n · a
--     pow-add                         a^(n+m) = a^n · a^m
--     pow-mul                         (a^n)^m = a^(n·m)
--     mul_left_cancel                 in a field a factor that is not 0 cancels
--     zero-of-mul                     in a field, where a·b = 0 and a is not 0, b is 0
-- Assumes nothing.
use mathlib.Core.Path.{◌≡◌, refl, sym, ◌∙◌, ap}
use Prim.Native.Nat as ℕ·
use Prim.Native.Nat.{ℕ}
use native.Mathlib.Nat as N
use native.Mathlib.Numerals.{add-one}
use Rattle.algebra.specs.Ring.{CommRing, IsField, pow}
use Rattle.algebra.specs.RingLaws.{mul_assoc, mul_comm, mul-zero, one-mul}

module _ (R : CommRing) where
  open R use {Carrier, one, mul as ◌*◌}

  infixl 70 ◌*◌
  pub pow-zero : (a : Carrier) → pow R a 0 ≡ one
  unfolding pow
  pow-zero a = refl

  pub pow-suc : (a : Carrier) (n : ℕ) → pow R a (ℕ.suc n) ≡ a * pow R a n
  unfolding pow
  pow-suc a n = refl

  pub pow-add : (a : Carrier) (n m : ℕ) → pow R a (ℕ·.◌+◌ n m) ≡ pow R a n * pow R a m
  pow-add a ℕ.zero m = ap (pow R a) (N.zero-add m) ∙ sym (rw pow-zero (one-mul R (pow R a m)))
  pow-add a (ℕ.suc n) m =
      ap (pow R a) (N.suc-add n m) ∙ pow-suc a (ℕ·.◌+◌ n m) ∙ ap (λ x. a * x) (pow-add a n m)
      ∙ rw (pow-suc a n) (sym (mul_assoc R a (pow R a n) (pow R a m)))

  pub pow-next : (a : Carrier) (n : ℕ) → pow R a n * a ≡ pow R a (ℕ·.◌+◌ n 1)
  pow-next a n = mul_comm R (pow R a n) a ∙ sym (pow-suc a n) ∙ ap (pow R a) (sym (add-one n))

  pub pow-mul : (a : Carrier) (n m : ℕ) → pow R (pow R a n) m ≡ pow R a (ℕ·.◌*◌ n m)
  pow-mul a n ℕ.zero = pow-zero (pow R a n) ∙ sym (ap (pow R a) (N.mul-zero n) ∙ pow-zero a)
  pow-mul a n (ℕ.suc m) =
      pow-suc (pow R a n) m ∙ ap (λ x. pow R a n * x) (pow-mul a n m) ∙ sym (pow-add a n (ℕ·.◌*◌ n m))
      ∙ ap (pow R a) (N.add_comm n (ℕ·.◌*◌ n m) ∙ sym (N.mul-suc n m))

module _ (Rg : CommRing) (K : IsField Rg) where
  open Rg use {Carrier, zero, mul as ◌*◌}

  infixl 70 ◌*◌
  pub mul_left_cancel : (a b c : Carrier) → ¬ (a ≡ zero) → a * b ≡ a * c → b ≡ c
  mul_left_cancel a b c n h = sym (go b) ∙ ap (λ x. K.inv a * x) h ∙ go c
    where
      go : (x : Carrier) → K.inv a * (a * x) ≡ x
      go x = sym (mul_assoc Rg (K.inv a) a x) ∙ ap (λ y. y * x) (mul_comm Rg (K.inv a) a ∙ K.mul-inv a n) ∙ one-mul Rg x

  pub zero-of-mul : (a b : Carrier) → ¬ (a ≡ zero) → a * b ≡ zero → b ≡ zero
  zero-of-mul a b na h = mul_left_cancel a b zero na (h ∙ sym (mul-zero Rg a))

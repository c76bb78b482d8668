-- The operations modulo p keep the laws of a commutative ring. Every element is n modulo p for a number n, so each law is one of numbers.
--     mul_mod_left, mul_mod_right     a factor may be reduced first
--     red_eq                          two numbers with one remainder by p are one element
--     add-red, mul-red                sum and product of n and m modulo p are n + m and n · m modulo p
--     add_assoc, …                    the laws of a commutative ring
--     pos_of                          a prime is above 0
-- Assumes nothing.
use Rattle.std.specs.Prelude.{◌≡◌}
use Rattle.std.proofs.Math.Path.{sym, ap}
use Rattle.std.proofs.Common.{◌∙◌, subst, arith}
use Prim.Native.Nat.{ℕ, ◌+◌, ◌*◌, ◌-◌, ◌%◌, ◌/◌, ◌<◌, Fin}
use Rattle.std.proofs.Math.Nat as N
use Rattle.algebra.specs.Prime.{Prime}
use Rattle.algebra.specs.Residues.{red, add, mul, neg}

pub mul_mod_left : (a b m : ℕ) → (a % m * b) % m ≡ (a * b) % m
mul_mod_left a b m = sym (N.add-mul-mod_self_left (a % m * b) m (a / m * b)) ∙ ap (λ x. x % m) go
  where
    go : a % m * b + m * (a / m * b) ≡ a * b
    go =
        ap (λ x. a % m * b + x) (sym (N.mul_assoc m (a / m) b)) ∙ sym (N.add-mul (a % m) (m * (a / m)) b)
        ∙ ap (λ x. x * b) (N.mod-add-div a m)

pub mul_mod_right : (a b m : ℕ) → (a * (b % m)) % m ≡ (a * b) % m
mul_mod_right a b m =
    ap (λ x. x % m) (N.mul_comm a (b % m)) ∙ mul_mod_left b a m ∙ ap (λ x. x % m) (N.mul_comm b a)

module _ (p : ℕ) (pos : 0 < p) where
  pub red_eq : (a b : ℕ) → a % p ≡ b % p → red p pos a ≡ red p pos b
  unfolding red
  red_eq a b h = native.Mathlib.Fin.val_path {n = p} {i = red p pos a} {j = red p pos b} h

  pub red_of : (a : Fin p) → red p pos a.0 ≡ a
  unfolding red
  red_of a = native.Mathlib.Fin.val_path {n = p} {i = red p pos a.0} {j = a} (N.mod-eq_of_lt a.1)

  pub add-red : (a b : ℕ) → add p pos (red p pos a) (red p pos b) ≡ red p pos (a + b)
  unfolding add red
  add-red a b = red_eq (a % p + b % p) (a + b) (sym (N.add-mod a b p))

  pub mul-red : (a b : ℕ) → mul p pos (red p pos a) (red p pos b) ≡ red p pos (a * b)
  unfolding mul red
  mul-red a b = red_eq (a % p * (b % p)) (a * b) (mul_mod_right (a % p) b p ∙ mul_mod_left a b p)

  -- every element is red n, so each law is one of ℕ
  ind : (P : Fin p → Type 0) → ((n : ℕ) → P (red p pos n)) → (a : Fin p) → P a
  ind P h a = subst P (red_of a) (h a.0)

  pub add_assoc : (a b c : Fin p) → add p pos (add p pos a b) c ≡ add p pos a (add p pos b c)
  add_assoc = ind _ λ a. ind _ λ b. ind _ λ c. simp (add-red, N.add_assoc)

  pub add_comm : (a b : Fin p) → add p pos a b ≡ add p pos b a
  add_comm = ind _ λ a. ind _ λ b. simp (add-red) (ap (red p pos) (N.add_comm a b))

  pub mul_assoc : (a b c : Fin p) → mul p pos (mul p pos a b) c ≡ mul p pos a (mul p pos b c)
  mul_assoc = ind _ λ a. ind _ λ b. ind _ λ c. simp (mul-red, N.mul_assoc)

  pub mul_comm : (a b : Fin p) → mul p pos a b ≡ mul p pos b a
  mul_comm = ind _ λ a. ind _ λ b. simp (mul-red) (ap (red p pos) (N.mul_comm a b))

  pub mul-add : (a b c : Fin p) → mul p pos a (add p pos b c) ≡ add p pos (mul p pos a b) (mul p pos a c)
  mul-add = ind _ λ a. ind _ λ b. ind _ λ c. simp (mul-red, add-red, N.mul-add)

  pub add-zero : (a : Fin p) → add p pos a (red p pos 0) ≡ a
  add-zero = ind _ λ a. simp (add-red, N.add-zero)

  pub mul-one : (a : Fin p) → mul p pos a (red p pos 1) ≡ a
  mul-one = ind _ λ a. simp (mul-red, N.mul-one)

  pub add-neg : (a : Fin p) → add p pos a (neg p pos a) ≡ red p pos 0
  unfolding neg
  add-neg a =
      ap (λ x. add p pos x (red p pos (p - a.0))) (sym (red_of a)) ∙ add-red a.0 (p - a.0)
      ∙ red_eq (a.0 + (p - a.0)) 0
      (ap (λ x. x % p) (N.add-sub_of_le (N.le_of_lt a.1)) ∙ N.mod_self p ∙ sym (N.zero-mod p))

module _ (p : ℕ) (prime : Prime p) where
  pub pos_of : 0 < p
  pos_of = let h = prime.big in omega arith

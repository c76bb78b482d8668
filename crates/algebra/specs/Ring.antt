-- Commutative rings and fields.
--     CommRing      a commutative ring
--     IsField R     R is a field: 1/a for each a but 0, 1 is not 0, and equality is decided
--     pow R a n     a^n
-- Theorems (proofs/Ring):
--     pow-add         a^(n+m) = a^n · a^m
--     pow-mul         (a^n)^m = a^(n·m)
--     zero-of-mul     in a field, where a·b = 0 and a is not 0, b is 0
-- Rules for equations of a ring (specs/RingLaws):
--     RING     they bring both sides to one form: `simp RING`
-- Assumes nothing.
use Rattle.std.specs.Prelude.{◌≡◌, ℕ}

pub record CommRing : Type 1 where
  pub Carrier : Type 0
  pub is_set : IsSet Carrier
  pub zero : Carrier
  pub one : Carrier
  pub neg : Carrier → Carrier
  pub add : Carrier → Carrier → Carrier
  pub mul : Carrier → Carrier → Carrier
  pub add_assoc : (a b c : Carrier) → add (add a b) c ≡ add a (add b c)
  pub add_comm : (a b : Carrier) → add a b ≡ add b a
  pub add-zero : (a : Carrier) → add a zero ≡ a
  pub add-neg : (a : Carrier) → add a (neg a) ≡ zero
  pub mul_assoc : (a b c : Carrier) → mul (mul a b) c ≡ mul a (mul b c)
  pub mul_comm : (a b : Carrier) → mul a b ≡ mul b a
  pub mul-one : (a : Carrier) → mul a one ≡ a
  pub mul-add : (a b c : Carrier) → mul a (add b c) ≡ add (mul a b) (mul a c)

module _ (R : CommRing) where
  open R use {Carrier, zero, one, mul as ◌*◌}

  infixl 70 ◌*◌
  unfoldable pub pow : Carrier → ℕ → Carrier
  pow a ℕ.zero = one
  pow a (ℕ.suc n) = a * pow a n

pub record IsField (Rg : CommRing) : Type 0 where
  pub inv : Rg.Carrier → Rg.Carrier
  pub mul-inv : (a : Rg.Carrier) → ¬ (a ≡ Rg.zero) → Rg.mul a (inv a) ≡ Rg.one
  pub one≢zero : ¬ (Rg.one ≡ Rg.zero)
  pub dec : Discrete Rg.Carrier

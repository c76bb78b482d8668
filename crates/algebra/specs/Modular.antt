-- The numbers modulo p, a commutative ring, and the inverse modulo a prime p by Euclid's algorithm.
--     ring-mod p pos          the ring Z/p, for 0 < p: its elements are the numbers below p
--     residue_mod p pos n     the element of Z/p that n stands for
--     value_mod p pos a       the number below p that is the element a
--     euclid_mod              Euclid's steps on whole numbers, with one cofactor modulo p
--     inverse_mod p a         the inverse of a modulo p, by these steps
--     inverse_in              the inverse in Z/p, p prime
--     equal                   equality in Z/p is decided
-- Theorems (specs/ModularLaws):
--     residue_mod-add, residue_mod-mul, residue_mod-neg     the residue of a sum, a product and a negative is that of the residues
--     residue_mod_injective                                 two numbers with one residue leave the same remainder by p
--     mul-inverse_in                                        a times its inverse is 1, for each a but 0
-- Assumes nothing.
use mathlib.Core.HLevel.{hedberg}
use Prim.Native.Nat.{ℕ, zero, suc, ◌+◌, ◌*◌, ◌-◌, ◌%◌, ◌/◌, ◌<◌, Fin}
use Rattle.std.proofs.Math.Decide.{Fin-discrete}
use Rattle.algebra.specs.Ring.{CommRing}
use Rattle.algebra.specs.Prime.{Prime}
use Rattle.algebra.specs.Residues.{red, add, mul, neg}
use Rattle.algebra.specs.ResiduesLaws.{add_assoc, add_comm, mul_assoc, mul_comm, mul-add, add-zero, mul-one, add-neg, pos_of}

module _ (p : ℕ) (pos : 0 < p) where
  -- shut, so that `simp RING` finds the ring in a goal
  unfoldable pub ring-mod : CommRing
  unfolding red add mul neg
  ring-mod = record {
    Carrier = Fin p;
    is_set = hedberg (Fin-discrete p);
    zero = red p pos 0;
    one = red p pos 1;
    neg = neg p pos;
    add = add p pos;
    mul = mul p pos;
    add_assoc = add_assoc p pos;
    add_comm = add_comm p pos;
    add-zero = add-zero p pos;
    add-neg = add-neg p pos;
    mul_assoc = mul_assoc p pos;
    mul_comm = mul_comm p pos;
    mul-one = mul-one p pos;
    mul-add = mul-add p pos;
  }

-- r0 = s0 · x and r1 = s1 · x modulo p, through each step; `k` steps at most
unfoldable pub euclid_mod : (p k r0 r1 s0 s1 : ℕ) → ℕ
euclid_mod p zero r0 r1 s0 s1 = s0
euclid_mod p (suc k) r0 zero s0 s1 = s0
euclid_mod p (suc k) r0 (suc r1) s0 s1 =
    euclid_mod p k (suc r1) (r0 % suc r1) s1 ((s0 + (p - (r0 / suc r1 * s1) % p)) % p)

unfoldable pub inverse_mod : (p a : ℕ) → ℕ
inverse_mod p a = euclid_mod p p p a 0 1

module _ (p : ℕ) (pos : 0 < p) where
  open ring-mod p pos use {Carrier}

  unfoldable pub residue_mod : ℕ → Carrier
  unfolding ring-mod
  residue_mod n = red p pos n

  unfoldable pub value_mod : Carrier → ℕ
  unfolding ring-mod
  value_mod a = a.0

module _ (p : ℕ) (prime : Prime p) where
  open ring-mod p (pos_of p prime) use {Carrier}

  unfoldable pub inverse_in : Carrier → Carrier
  inverse_in a = residue_mod p (pos_of p prime) (inverse_mod p (value_mod p (pos_of p prime) a))

  unfoldable pub equal : Discrete Carrier
  unfolding ring-mod Fin-discrete
  equal = Fin-discrete p

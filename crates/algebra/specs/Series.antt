-- Formal series over a commutative ring R.
--     series_ring R                the sequences in R, added term by term and multiplied by cauchy: a commutative ring
--     SeriesRing R                 a ring whose elements, the series, are known by their coefficients in R
--     series R                     the one instance, series_ring
--     C c                          the constant c
--     t                            the variable
--     tail s                       s without its first coefficient, divided by t
--     constant_at, variable_at     the coefficients of C c and of t
-- Every theorem is over any X : SeriesRing R: its ring is then a variable's, and `simp RING` finds it.
-- Theorems (proofs/Series):
--     split               s = s_0 + t · tail s
--     coeff-C-mul         coefficient n of c · s is c · s_n
--     coeff-t-mul-suc     coefficient n + 1 of t · s is s_n
-- Assumes nothing.
use Rattle.std.specs.Prelude.{◌≡◌, refl}
use Rattle.std.proofs.Common.{◌∙◌}
use Rattle.std.proofs.Math.Path.{fun_ext}
use mathlib.Core.HLevel.{Π_set}
use Prim.Native.Nat.{ℕ, zero, suc}
use Rattle.algebra.specs.RingLaws as R
use Rattle.algebra.specs.Ring.{CommRing}
use Rattle.algebra.specs.Sequences.{Sequence, sadd, sneg, szero, sone, cauchy}
use Rattle.algebra.specs.SequencesLaws.{cauchy_comm, cauchy-add, cauchy_assoc, cauchy-one}

module _ (Rg : CommRing) where
  open Rg use {Carrier}

  unfoldable pub series_ring : CommRing
  unfolding sadd sneg szero
  series_ring = record {
    Carrier = Sequence Rg;
    is_set = Π_set (λ n. Rg.is_set);
    zero = szero Rg;
    one = sone Rg;
    neg = sneg Rg;
    add = sadd Rg;
    mul = cauchy Rg;
    add_assoc = λ f g h. fun_ext λ n. R.add_assoc Rg _ _ _;
    add_comm = λ f g. fun_ext λ n. R.add_comm Rg _ _;
    add-zero = λ f. fun_ext λ n. R.add-zero Rg _;
    add-neg = λ f. fun_ext λ n. R.add-neg Rg _;
    mul_assoc = λ f g h. fun_ext (cauchy_assoc Rg f g h);
    mul_comm = λ f g. fun_ext (cauchy_comm Rg f g);
    mul-one = λ f. fun_ext λ n. cauchy_comm Rg f (sone Rg) n ∙ cauchy-one Rg f n;
    mul-add = λ f g h. fun_ext (cauchy-add Rg f g h);
  }

pub record SeriesRing (Rg : CommRing) : Type 1 where
  pub ring : CommRing
  pub coeff : ring.Carrier → ℕ → Rg.Carrier
  pub mk : (ℕ → Rg.Carrier) → ring.Carrier
  pub coeff-mk : (f : ℕ → Rg.Carrier) (n : ℕ) → coeff (mk f) n ≡ f n
  pub ext : (a b : ring.Carrier) → ((n : ℕ) → coeff a n ≡ coeff b n) → a ≡ b
  pub coeff-add : (a b : ring.Carrier) (n : ℕ) → coeff (ring.add a b) n ≡ Rg.add (coeff a n) (coeff b n)
  pub coeff-neg : (a : ring.Carrier) (n : ℕ) → coeff (ring.neg a) n ≡ Rg.neg (coeff a n)
  pub coeff-0 : (n : ℕ) → coeff ring.zero n ≡ Rg.zero
  pub coeff-1_zero : coeff ring.one 0 ≡ Rg.one
  pub coeff-1_suc : (n : ℕ) → coeff ring.one (suc n) ≡ Rg.zero
  pub coeff-mul-zero : (a b : ring.Carrier) → coeff (ring.mul a b) 0 ≡ Rg.mul (coeff a 0) (coeff b 0)
  pub coeff-mul-suc : (a b : ring.Carrier) (n : ℕ)
      → coeff (ring.mul a b) (suc n) ≡ Rg.add (Rg.mul (coeff a 0) (coeff b (suc n))) (coeff (ring.mul (mk (λ k. coeff a (suc k))) b) n)

unfoldable pub series : (Rg : CommRing) → SeriesRing Rg
unfolding series_ring cauchy sadd sneg szero sone
series Rg = record {
  ring = series_ring Rg;
  coeff = λ s n. s n;
  mk = λ f. f;
  coeff-mk = λ f n. refl;
  ext = λ a b h. fun_ext h;
  coeff-add = λ a b n. refl;
  coeff-neg = λ a n. refl;
  coeff-0 = λ n. refl;
  coeff-1_zero = refl;
  coeff-1_suc = λ n. refl;
  coeff-mul-zero = λ a b. refl;
  coeff-mul-suc = λ a b n. refl;
}

unfoldable pub constant_at : {A : Type 0} → A → A → ℕ → A
constant_at z c zero = c
constant_at z c (suc n) = z

unfoldable pub variable_at : {A : Type 0} → A → A → ℕ → A
variable_at z o zero = z
variable_at z o (suc n) = constant_at z o n

module _ {Rg : CommRing} (X : SeriesRing Rg) where
  open Rg use {Carrier, zero as 𝟘, one as 𝟙}
  open X.ring use {Carrier as S}
  open X use {coeff, mk}

  unfoldable pub tail : S → S
  tail s = mk (λ k. coeff s (suc k))

  unfoldable pub C : Carrier → S
  C c = mk (constant_at 𝟘 c)

  unfoldable pub t : S
  t = mk (variable_at 𝟘 𝟙)

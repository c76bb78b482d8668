-- The significant words of a list stand for the same series as the list, and their number is the size of that series.
-- Theorems:
--     get_or-significant, length-significant    the significant words are all that a list says
--     below-series_of                           no coefficient is past the words
--     significant-size, significant-series      the number of significant words is the size of the series
-- Assumes nothing.
use mathlib.Core.Path.{◌≡◌, refl, sym, ◌∙◌, ap}
use mathlib.Core.List.{List}
use Prim.Native.Nat.{ℕ, ◌<◌}
use native.Mathlib.Decide.{dec_lt}
use native.Mathlib.Omega.{arith}
use lib.ListN.{length, get_or, take, length-take, get_or-eq_default}
use lib.Seq.{get_or-take, length-take-le}
use Rattle.algebra.specs.Polynomial.{Below}
use Rattle.algebra.specs.Degree.{size}
use Rattle.algebra.specs.PrimeField.{PrimeField, scalar_field, residue}
use Rattle.algebra.proofs.PrimeField.{residue-0}
use Rattle.lists.specs.Degrees.{significant}
use Rattle.lists.proofs.Extents.{significant-le, after-significant, significant_in-size}
use Rattle.lists.specs.Words.{series_of}
use Rattle.lists.proofs.Words.{coeff-series_of, Carries, carries-series_of, carries-zero, carries-nonzero}

-- the significant words are all that a list says
pub get_or-significant : (c : List ℕ) (k : ℕ) → get_or (take (significant c) c) k 0 ≡ get_or c k 0
get_or-significant c k = go (dec_lt k (significant c))
  where
    go : Dec (k < significant c) → get_or (take (significant c) c) k 0 ≡ get_or c k 0
    go (yes h) = get_or-take (significant c) c k 0 h
    go (no h) =
        get_or-eq_default (take (significant c) c) 0 (simp length-take (omega arith)) ∙ sym (after-significant c k (omega arith))

pub length-significant : (c : List ℕ) → length (take (significant c) c) ≡ significant c
length-significant c = length-take-le (significant c) c (significant-le c)

module _ (F : PrimeField) where
  open F.series.ring use {Carrier as S}

  pub below-series_of : (x : List ℕ) → Below F.series (length x) (series_of F x)
  below-series_of x =
      record { at = λ k l. coeff-series_of F x k ∙ ap (residue F) (get_or-eq_default x 0 l) ∙ residue-0 F }

  pub significant-size : (n : ℕ) {x : List ℕ} {s : S} → Carries F x s → length x ≡ n → significant x ≡ size F.series (scalar_field F) n s
  unfolding significant
  significant-size n {x} {s} c e =
      significant_in-size F (length x) x s (λ k l. carries-zero F c k) (λ k l. carries-nonzero F c k) ∙ ap (λ i. size F.series (scalar_field F) i s) e

  pub significant-series : (x : List ℕ) → ((k : ℕ) → get_or x k 0 < F.p)
      → significant x ≡ size F.series (scalar_field F) (length x) (series_of F x)
  significant-series x lx = significant-size (length x) (carries-series_of F lx) refl

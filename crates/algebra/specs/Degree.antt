-- The degree of a polynomial, and its number of coefficients.
--     Degree d s     s is a polynomial of degree d: s_d is its last coefficient that is not 0. The extent of a nonzero list is the
--                    degree of its scaled form.
--     size n s       the number of coefficients of s up to the last one that is not 0, among the first n: the degree and 1, or 0
--                    where all n are 0
-- Theorems (proofs/Degree):
--     degree-of, degree-unique     every polynomial but 0 has one degree
--     degree-mul                   over a field the degrees of a product add
--     size-extent, size_of         a size d + 1 is a degree d, and conversely
--     size-least                   no bound is below the size
-- Assumes nothing.
use Rattle.std.specs.Prelude.{◌≡◌, ℕ, zero, suc}
use Rattle.algebra.specs.Ring.{CommRing, IsField}
use Rattle.algebra.specs.Series.{SeriesRing}
use Rattle.algebra.specs.Polynomial.{Below}

module _ {Rg : CommRing} (X : SeriesRing Rg) where
  open Rg use {zero as 𝟘}
  open X.ring use {Carrier as S}

  pub record Degree (d : ℕ) (s : S) : Type 0 where
    pub below : Below X (suc d) s
    pub top : ¬ (X.coeff s d ≡ 𝟘)

module _ {Rg : CommRing} (X : SeriesRing Rg) (K : IsField Rg) where
  open Rg use {zero as 𝟘}
  open X.ring use {Carrier as S}

  unfoldable pub size : ℕ → S → ℕ
  size zero s = 0
  size (suc n) s = elim (K.dec (X.coeff s n) 𝟘) [ yes e ↦ size n s | no e ↦ suc n ]

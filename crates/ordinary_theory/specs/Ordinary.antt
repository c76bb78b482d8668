-- Division in the usual sense (order 2 of document 02) of a list g by a list f that is not zero, both as polynomials in t.
--     ordinary_quotient g f      q, of g's own naive degree: the quotient of g's polynomial by f's
--     ordinary_remainder g f     r, of g's own naive degree: the remainder
--     Identity                   g = q·f + r as polynomials in t
--     ZeroOrSmaller              r is 0 or has a smaller degree in t than f
--     OrdinarySo                 q and r are as long as g, the identity holds, r is 0 or of smaller degree in t than f, and no other two
--                               lists of coefficients, in these lengths, are so
--     Dividable                 what the division asks: two lists of coefficients, the first with words, the second not zero
-- Theorems (proofs/Ordinary):
--     ordinary-so                        the quotient and the remainder are so
--     ordinary-unique                    no other two polynomials, of any degree, with that identity have a remainder below f
--     constant-divides                   where f has degree 0 in t, r is 0
--     quotient-none, remainder-none      where g has a smaller degree in t than f, a zero g too, q is zero and r is g word for word
-- Assumes nothing.
use Rattle.std.specs.Prelude.{◌≡◌, ◌⊎◌, List, ℕ, ◌<◌, length}
use Rattle.algebra.specs.Euclid.{quotient_by, remainder_by}
use Rattle.algebra.specs.PrimeField.{PrimeField, scalar_field}
use Rattle.lists.specs.Degrees.{naive_degree, significant}
use Rattle.lists.specs.Lists.{Coefficients, meaning}
use Rattle.ordinary_theory.specs.InT.{degree_in_t, list_of}

module _ (F : PrimeField) where
  open F.series.ring use {zero as 0ˢ, add as ◌+ˢ◌, mul as ◌*ˢ◌}

  infixl 65 ◌+ˢ◌
  infixl 70 ◌*ˢ◌
  unfoldable pub ordinary_quotient : (g f : List ℕ) → List ℕ
  ordinary_quotient g f =
      list_of F (naive_degree g) (quotient_by F.series (scalar_field F) (length g) (degree_in_t F f) (meaning F g) (meaning F f))

  unfoldable pub ordinary_remainder : (g f : List ℕ) → List ℕ
  ordinary_remainder g f =
      list_of F (naive_degree g) (remainder_by F.series (scalar_field F) (length g) (degree_in_t F f) (meaning F g) (meaning F f))

  unfoldable pub Identity : (g f q r : List ℕ) → Type 0
  Identity g f q r = meaning F g ≡ meaning F q *ˢ meaning F f +ˢ meaning F r

  unfoldable pub ZeroOrSmaller : (r f : List ℕ) → Type 0
  ZeroOrSmaller r f = (meaning F r ≡ 0ˢ) ⊎ (degree_in_t F r < degree_in_t F f)

  pub record OrdinarySo (g f q r : List ℕ) : Type 0 where
    pub quotient-words : length q ≡ length g
    pub remainder-words : length r ≡ length g
    pub holds : Identity g f q r
    pub smaller : ZeroOrSmaller r f
    pub only : (q' r' : List ℕ) → Coefficients F q' → Coefficients F r' → length q' ≡ length q → length r' ≡ length r →
        Identity g f q' r' → ZeroOrSmaller r' f → (q' ≡ q) × (r' ≡ r)

  pub record Dividable (g f : List ℕ) : Type 0 where
    pub dividend : Coefficients F g
    pub divisor : Coefficients F f
    pub some : 0 < length g
    pub nonzero : ¬ (significant f ≡ 0)

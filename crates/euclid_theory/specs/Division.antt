-- Division of lists, as document 01 has it (Proposition 4.1 of document 000): g, of naive degree e, by f, of naive degree d.
--     steps           e - d + 1, the number of words of the quotient
--     quotient_of      q, of e - d + 1 words: its scaled form is the quotient of g's scaled form by f's
--     remainder_of     r, of d words: its scaled form is the remainder
--     Equation         g = q·f + (1-t)^(e-d+1)·r as polynomials in t
--     Divisible        what a division asks: f has words, g has no fewer, and f's last word is not 0
-- Theorems, in proofs/Division:
--     division-identity     the equation holds
--     division-only         with any other coefficients, in the same two lengths, it fails
--     meaning-at-1          f(1), the value of f's polynomial at 1, is the last word of f
-- Assumes nothing.
use Rattle.std.specs.Prelude.{◌≡◌, List, ℕ, suc, ◌-◌, ◌≤◌, ◌<◌, get_or, length}
use Rattle.algebra.specs.OneMinusT.{⟨1-t⟩^}
use Rattle.algebra.specs.PrimeField.{PrimeField, scalar_field}
use Rattle.algebra.specs.Division.{quotient, remainder}
use Rattle.lists.specs.Degrees.{naive_degree}
use Rattle.lists.specs.Lists.{Coefficients, meaning, scaled, unscaled}

unfoldable pub steps : (g f : List ℕ) → ℕ
steps g f = suc (naive_degree g - naive_degree f)

module _ (F : PrimeField) where
  open F.series.ring use {add as ◌+ˢ◌, mul as ◌*ˢ◌}

  infixl 65 ◌+ˢ◌
  infixl 70 ◌*ˢ◌
  unfoldable pub quotient_of : (g f : List ℕ) → List ℕ
  quotient_of g f =
      unscaled F (steps g f) (quotient F.series (scalar_field F) (steps g f) (naive_degree f) (scaled F g) (scaled F f))

  unfoldable pub remainder_of : (g f : List ℕ) → List ℕ
  remainder_of g f =
      unscaled F (naive_degree f) (remainder F.series (scalar_field F) (steps g f) (naive_degree f) (scaled F g) (scaled F f))

  unfoldable pub Equation : (g f q r : List ℕ) → Type 0
  Equation g f q r = meaning F g ≡ meaning F q *ˢ meaning F f +ˢ ⟨1-t⟩^ F.series (steps g f) *ˢ meaning F r

  pub record Divisible (g f : List ℕ) : Type 0 where
    pub dividend : Coefficients F g
    pub divisor : Coefficients F f
    pub some : 0 < length f
    pub order : length f ≤ length g
    pub end : ¬ (get_or f (naive_degree f) 0 ≡ 0)

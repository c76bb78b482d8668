-- The quotients of Euclid's rounds, as they are kept for the way back to the cofactors.
--     before qs z           the answer on the pair before rounds with the quotients qs, the last one first, where z is that on the pair after them
--     laid qs               the words of the quotients, the last one at the end, and after each the number of its words
--     Quotient n q          a quotient of at most n words, each below p; Each says it of all
--     Laid n words          words in which quotients are laid so
--     Trail n z₀ z words    the quotients that are laid in the words lead from the answer z₀ to z
-- Assumes nothing.
use Rattle.std.specs.Prelude.{◌≡◌, List, [], ◌∷◌, ◌++◌, ℕ, ◌≤◌, ◌<◌, get_or, length}
use Rattle.algebra.specs.Euclid.{Euclid, next}
use Rattle.algebra.specs.PrimeField.{PrimeField, scalar_field}
use Rattle.lists.specs.Words.{series_of}

unfoldable pub laid : List (List ℕ) → List ℕ
laid [] = []
laid (q ∷ qs) = laid qs ++ (q ++ (length q ∷ []))

module _ (F : PrimeField) where
  unfoldable pub before : List (List ℕ) → Euclid F.series (scalar_field F) → Euclid F.series (scalar_field F)
  before [] z = z
  before (q ∷ qs) z = before qs (next F.series (scalar_field F) (series_of F q) z)

  pub record Quotient (n : ℕ) (q : List ℕ) : Type 0 where
    pub few : length q ≤ n
    pub below : (k : ℕ) → get_or q k 0 < F.p

  abbrev pub Each : ℕ → List (List ℕ) → Type 0
  Each n [] = Unit {0}
  Each n (q ∷ qs) = Quotient n q × Each n qs

  pub record Laid (n : ℕ) (words : List ℕ) : Type 0 where
    pub quotients : List (List ℕ)
    pub each : Each n quotients
    pub words_are : words ≡ laid quotients

  pub record Trail (n : ℕ) (z₀ z : Euclid F.series (scalar_field F)) (words : List ℕ) : Type 0 where
    pub kept : Laid n words
    pub from : z₀ ≡ before kept.quotients z

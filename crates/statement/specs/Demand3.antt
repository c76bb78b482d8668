-- Demand 3 of every call to which no refusal applies: `lowest` of the call's rows is Ok. What the calls then answer and write are the
-- definitions named here (their contracts say so); the demand says what is true of them, in its order.
--     Demand3      the demand, over a prime field F with more elements than a list has words: of_album, of_two, of_cofactors, of_division,
--                  of_no_words; of_h, of_album_h, of_cofactors_h (every h and rounds is the one that document 01 defines); of_value-at-1
-- Theorems (proofs/Demand3):
--     demand3      it holds over every such field
--     of-engine    it holds over the field of 65,521 elements
-- Assumes nothing.
use Rattle.std.specs.Prelude.{◌≡◌, List, [], ◌∷◌, ℕ, get_or, Ok}
use Rattle.algebra.specs.OneMinusT.{⟨1-t⟩^}
use Rattle.algebra.specs.Evaluation.{ValueAt1}
use Rattle.algebra.specs.PrimeField.{PrimeField, residue}
use Rattle.refusal.specs.Limits.{max_words}
use Rattle.refusal.specs.Lowest.{lowest}
use Rattle.lists.specs.Degrees.{naive_degree}
use Rattle.lists.specs.Lists.{meaning}
use Rattle.euclid_theory.specs.Division.{quotient_of, remainder_of}
use Rattle.euclid_theory.specs.Gcd.{gcd_of, rounds_of, common_power, cofactor_a, cofactor_b}
use Rattle.euclid_theory.specs.Defined.{TheGcd}
use Rattle.euclid_theory.specs.Greatest.{IsGreatest}
use Rattle.album_theory.specs.Albums.{album_gcd}
use Rattle.album_theory.specs.Greatest.{IsGreatestOf}
use Rattle.album_theory.specs.Defined.{TheAlbumGcd}
use Rattle.album_layout.specs.Layout.{lists_of}
use Rattle.list_division.specs.Calls.{divide_rows, DividesSo}
use Rattle.list_gcd.specs.Calls.{gcd_rows}
use Rattle.list_cofactors.specs.Calls.{cofactor_rows, CofactorsSo}
use Rattle.album_gcd.specs.Calls.{album_gcd_rows}

module _ (F : PrimeField) where
  open F.series.ring use {zero as 0ˢ, mul as ◌*ˢ◌}

  infixl 70 ◌*ˢ◌
  pub record Demand3 : Type 0 where
    -- the GCD of an album s: (1-t)^c·h divides each list, and every polynomial that divides them all divides it
    pub of_album : (s h : List ℕ) → lowest (album_gcd_rows F.p max_words s h) ≡ Ok tt
        → IsGreatestOf F (lists_of s) (⟨1-t⟩^ F.series (common_power (lists_of s)) *ˢ meaning F (album_gcd F (lists_of s)).list)
    -- the GCD of two lists: (1-t)^c·h divides both, and every polynomial that divides both divides it
    pub of_two : (f g h : List ℕ) → lowest (gcd_rows F.p max_words f g h) ≡ Ok tt
        → IsGreatest F f g (⟨1-t⟩^ F.series (common_power (f ∷ g ∷ [])) *ˢ meaning F (gcd_of F f g))
    -- its h and rounds are those that document 01's rounds as a relation define, and no others are (gcd-only)
    pub of_h : (f g h : List ℕ) → lowest (gcd_rows F.p max_words f g h) ≡ Ok tt → TheGcd F f g (gcd_of F f g) (rounds_of F f g)
    -- an album's h and sum of rounds are those that the turns of its lists define, and no others are (album-only)
    pub of_album_h : (s h : List ℕ) → lowest (album_gcd_rows F.p max_words s h) ≡ Ok tt
        → TheAlbumGcd F (lists_of s) (album_gcd F (lists_of s)).list (album_gcd F (lists_of s)).rounds
    -- the cofactors: a·f + b·g = (1-t)^(m-w)·h, and the conditions that fix both
    pub of_cofactors : (f g h a b : List ℕ) → lowest (cofactor_rows F.p max_words f g h a b) ≡ Ok tt
        → CofactorsSo F f g (cofactor_a F f g) (cofactor_b F f g)
    -- the h and rounds that come with the cofactors are those of the GCD
    pub of_cofactors_h : (f g h a b : List ℕ) → lowest (cofactor_rows F.p max_words f g h a b) ≡ Ok tt
        → TheGcd F f g (gcd_of F f g) (rounds_of F f g)
    -- f(1), which a division asks not to be 0, is the last word of f
    pub of_value-at-1 : (f : List ℕ) → ValueAt1 F.series (meaning F f) (residue F (get_or f (naive_degree f) 0))
    -- division: g = q·f + (1-t)^(e-d+1)·r with q and r of e-d+1 and d words, and with any other coefficients that equation fails
    pub of_division : (g f q r : List ℕ) → lowest (divide_rows F.p max_words g f q r) ≡ Ok tt
        → DividesSo F g f (quotient_of F g f) (remainder_of F g f)
    -- where an r of no words means 0
    pub of_no_words : meaning F [] ≡ 0ˢ

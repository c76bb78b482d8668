-- The one word, value or list that is meant: it is so, and no other is.
--     TheWord      the one word below p that stands for an element of the field
--     IsValue      the word stands for P(x), P being the polynomial of the list f
--     TheValue     the one word below p that does
--     TheList      the one list of n coefficients that means s: no other list of n coefficients does
--     TheTrim      the one list of coefficients with the scaled form of f whose naive degree is the extent of f
--     IsExtent     the largest k with c_k not 0
-- Assumes nothing.
use Rattle.std.specs.Prelude.{◌≡◌, List, ℕ, suc, ◌<◌, length, get_or}
use Rattle.algebra.specs.Evaluation.{ValueAt}
use Rattle.algebra.specs.PrimeField.{PrimeField, scalars, residue}
use Rattle.lists.specs.Degrees.{extent}
use Rattle.lists.specs.Lists.{Coefficients, meaning, scaled}

pub record IsExtent (c : List ℕ) (e : ℕ) : Type 0 where
  pub nonzero : ¬ (get_or c e 0 ≡ 0)
  pub last : (k : ℕ) → e < k → get_or c k 0 ≡ 0

module _ (F : PrimeField) where
  open scalars F use {Carrier as K}
  open F.series.ring use {Carrier as S}

  pub record TheWord (x : K) (w : ℕ) : Type 0 where
    pub below : w < F.p
    pub is : residue F w ≡ x
    pub only : (other : ℕ) → other < F.p → residue F other ≡ x → other ≡ w

  abbrev pub IsValue : List ℕ → (x w : ℕ) → Type 0
  IsValue f x w = ValueAt F.series (residue F x) (meaning F f) (residue F w)

  pub record TheValue (f : List ℕ) (x w : ℕ) : Type 0 where
    pub below : w < F.p
    pub is : IsValue f x w
    pub only : (other : ℕ) → other < F.p → IsValue f x other → other ≡ w

  pub record TheList (n : ℕ) (s : S) (c : List ℕ) : Type 0 where
    pub coefficients : Coefficients F c
    pub words : length c ≡ n
    pub means : meaning F c ≡ s
    pub only : (other : List ℕ) → Coefficients F other → length other ≡ n → meaning F other ≡ s → other ≡ c

  pub record TheTrim (f c : List ℕ) : Type 0 where
    pub coefficients : Coefficients F c
    pub words : length c ≡ suc (extent f)
    pub same : scaled F c ≡ scaled F f
    pub only : (other : List ℕ) → Coefficients F other → length other ≡ suc (extent f) → scaled F other ≡ scaled F f → other ≡ c

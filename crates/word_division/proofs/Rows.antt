-- A row added to words is a series added to series, for every prime field F.
-- Theorems:
--     negated-residue        a word negated stands for minus an element
--     row-series, row_low    a row from word k on adds m · u^k times a series; the same as far as the words are known
--     minus                  a row with a negated word takes a product off
-- Assumes nothing.
use mathlib.Core.Path.{◌≡◌, sym, ◌∙◌, ap, ap₂}
use mathlib.Core.List.{List}
use Prim.Native.Nat.{ℕ, zero, suc, ◌+◌, ◌-◌, ◌*◌, ◌%◌, ◌≤◌, ◌<◌}
use native.Mathlib.Decide.{dec_lt}
use native.Mathlib.Omega.{arith}
use lib.ListN.{length, get_or, get_or-eq_default}
use Rattle.algebra.specs.RingLaws as R
use Rattle.algebra.specs.RingLaws.{RING}
use Rattle.algebra.specs.Series.{t}
use Rattle.algebra.proofs.Series.{coeff-add}
use Rattle.algebra.specs.Polynomial.{monomial}
use Rattle.algebra.proofs.Homogenise.{C-neg}
use Rattle.algebra.proofs.Division.{coeff-monomial-mul, coeff-monomial-mul-low}
use Rattle.algebra.specs.PrimeField.{PrimeField, scalars, positive, residue}
use Rattle.algebra.proofs.PrimeField.{residue-add, residue-mul, residue-neg, residue-mod}
use Rattle.lists.specs.Words.{Low}
use Rattle.lists.proofs.Words.{Carries, carries-zero}
use Rattle.word_row.specs.Rows.{row_from}
use Rattle.word_division.specs.Reduction.{negated}
use Rattle.word_row.proofs.RowWords.{row_from-low, row_from-at, row_from-above, row_from-below}

module _ (F : PrimeField) where
  open scalars F use {Carrier as K, zero as 𝟘, neg as ⊖◌, add as ◌⊕◌, mul as ◌⊗◌}

  infixl 65 ◌⊕◌
  infixl 70 ◌⊗◌
  infix 80 ⊖◌
  open F.series.ring use {Carrier as S, zero as 0ˢ, neg as -ˢ◌, add as ◌+ˢ◌, mul as ◌*ˢ◌}

  infixl 65 ◌+ˢ◌
  infixl 70 ◌*ˢ◌
  infix 80 -ˢ◌
  pub negated-residue : (a : ℕ) → residue F (negated F.p a) ≡ ⊖ residue F a
  unfolding negated
  negated-residue a = residue-mod F (F.p - a % F.p) ∙ residue-neg F a

  -- a word of a row
  sum-residue : (a m b : ℕ) → residue F ((a + m * b) % F.p) ≡ residue F a ⊕ residue F m ⊗ residue F b
  sum-residue a m b = residue-mod F (a + m * b) ∙ residue-add F a (m * b) ∙ ap (λ z. residue F a ⊕ z) (residue-mul F m b)

  module _ (c : K) (k : ℕ) (s r : S) where
    coeff-low : (j : ℕ) → j < k → F.series.coeff (s +ˢ monomial F.series c k *ˢ r) j ≡ F.series.coeff s j
    coeff-low j l =
        coeff-add F.series s _ j ∙ ap (λ z. F.series.coeff s j ⊕ z) (coeff-monomial-mul-low F.series c k r j l)
        ∙ R.add-zero (scalars F) _

    coeff-from : (i : ℕ) → F.series.coeff (s +ˢ monomial F.series c k *ˢ r) (k + i) ≡ F.series.coeff s (k + i) ⊕ c ⊗ F.series.coeff r i
    coeff-from i =
        coeff-add F.series s _ (k + i) ∙ ap (λ z. F.series.coeff s (k + i) ⊕ z) (coeff-monomial-mul F.series c k r i)

  -- word j of a row step, where it is asked and both lists stand for their series there
  module _ (k m : ℕ) (x y : List ℕ) (s r : S) where
    row-low-word : (j : ℕ) → j < k → residue F (get_or x j 0) ≡ F.series.coeff s j
        → residue F (get_or (row_from F.p k x m y) j 0) ≡ F.series.coeff (s +ˢ monomial F.series (residue F m) k *ˢ r) j
    row-low-word j l e = ap (residue F) (row_from-low F.p k x m y j l) ∙ e ∙ sym (coeff-low (residue F m) k s r j l)

    row_word : (i : ℕ) → k + i < length x → i < length y → residue F (get_or x (k + i) 0) ≡ F.series.coeff s (k + i)
        → residue F (get_or y i 0) ≡ F.series.coeff r i
        → residue F (get_or (row_from F.p k x m y) (k + i) 0) ≡ F.series.coeff (s +ˢ monomial F.series (residue F m) k *ˢ r) (k + i)
    row_word i lx ly ex ey =
        ap (residue F) (row_from-at F.p k x m y i lx ly) ∙ sum-residue (get_or x (k + i) 0) m (get_or y i 0)
        ∙ ap₂ (λ a b. a ⊕ residue F m ⊗ b) ex ey ∙ sym (coeff-from (residue F m) k s r i)

  pub row-series : (k m : ℕ) {x y : List ℕ} {s r : S} → Carries F x s → Carries F y r → length y ≤ length x - k
      → Carries F (row_from F.p k x m y) (s +ˢ monomial F.series (residue F m) k *ˢ r)
  row-series k m {x} {y} {s} {r} cx cy fits =
      record { below = row_from-below F.p k x m y (positive F) cx.below; at = λ j. go j (dec_lt j k) }
    where
      from : (i : ℕ) → Dec (i < length y)
          → residue F (get_or (row_from F.p k x m y) (k + i) 0) ≡ F.series.coeff (s +ˢ monomial F.series (residue F m) k *ˢ r) (k + i)
      from i (yes l) = row_word k m x y s r i (omega arith) l (cx.at (k + i)) (cy.at i)
      from i (no l) =
          ap (residue F) (row_from-above F.p k x m y i (omega arith)) ∙ cx.at (k + i)
          ∙ sym (coeff-from (residue F m) k s r i
          ∙ ap (λ z. F.series.coeff s (k + i) ⊕ residue F m ⊗ z) (carries-zero F cy i (get_or-eq_default y 0 (omega arith)))
          ∙ clear (F.series.coeff s (k + i)) (residue F m))
        where
          clear : (a b : K) → a ⊕ b ⊗ 𝟘 ≡ a
          clear a b = simp RING

      go : (j : ℕ) → Dec (j < k)
          → residue F (get_or (row_from F.p k x m y) j 0) ≡ F.series.coeff (s +ˢ monomial F.series (residue F m) k *ˢ r) j
      go j (yes l) = row-low-word k m x y s r j l (cx.at j)
      go j (no l) = let split : j ≡ k + (j - k) = omega arith in rw split (from (j - k) (dec_lt (j - k) (length y)))

  pub row_low : (n k m : ℕ) {x y : List ℕ} {s r : S} → Low F n x s → Low F n y r → n ≤ length x → n ≤ length y
      → Low F n (row_from F.p k x m y) (s +ˢ monomial F.series (residue F m) k *ˢ r)
  row_low n k m {x} {y} {s} {r} cx cy lx ly =
      record { below = row_from-below F.p k x m y (positive F) cx.below; at = λ j l. go j l (dec_lt j k) }
    where
      from : (i : ℕ) → k + i < n
          → residue F (get_or (row_from F.p k x m y) (k + i) 0) ≡ F.series.coeff (s +ˢ monomial F.series (residue F m) k *ˢ r) (k + i)
      from i l = row_word k m x y s r i (omega arith) (omega arith) (cx.at (k + i) l) (cy.at i (omega arith))

      go : (j : ℕ) → j < n → Dec (j < k)
          → residue F (get_or (row_from F.p k x m y) j 0) ≡ F.series.coeff (s +ˢ monomial F.series (residue F m) k *ˢ r) j
      go j l (yes h) = row-low-word k m x y s r j h (cx.at j l)
      go j l (no h) = let split : j ≡ k + (j - k) = omega arith in rw split (from (j - k) (omega arith))

  -- a monomial of minus c
  minus-monomial : (c : K) (k : ℕ) → monomial F.series (⊖ c) k ≡ -ˢ monomial F.series c k
  unfolding monomial
  minus-monomial c zero = C-neg F.series c
  minus-monomial c (suc k) = ap (λ z. t F.series *ˢ z) (minus-monomial c k) ∙ R.mul-neg F.series.ring _ _

  pub minus : (c k : ℕ) {e : K} (s r : S) → residue F c ≡ e
      → s +ˢ monomial F.series (residue F (negated F.p c)) k *ˢ r ≡ s +ˢ -ˢ (monomial F.series e k *ˢ r)
  minus c k s r h =
      ap (λ z. s +ˢ monomial F.series z k *ˢ r) (negated-residue c ∙ ap (λ z. ⊖ z) h)
      ∙ ap (λ z. s +ˢ z *ˢ r) (minus-monomial _ k) ∙ ap (λ z. s +ˢ z) (R.neg-mul F.series.ring _ r)

-- Words of products and of rows, as series, for every prime field F.
--     below-series_of          the series of n words is below n
-- Theorems:
--     convolution-carries     the words of a product stand for the product of the series
--     carries-convolution     words that stand for the product, as many as it has, are those of the product
--     row-plus, row-minus     a row with 1 adds a series, and one with -1 takes it off
--     split-series            a list's series by its first h words and the rest
-- Assumes nothing.
use mathlib.Core.Path.{◌≡◌, sym, ◌∙◌, ap, ap₂, subst}
use mathlib.Core.List.{List}
use Prim.Native.Nat.{ℕ, ◌+◌, ◌-◌, ◌*◌, ◌≤◌, ◌<◌}
use native.Mathlib.Decide.{dec_lt}
use native.Mathlib.Nat.{mod-lt}
use native.Mathlib.Omega.{arith}
use lib.ListN.{length, get_or, take, drop, length-take, get_or-eq_default}
use lib.Seq.{get_or-take, get_or-drop}
use Rattle.algebra.specs.RingLaws as R
use Rattle.algebra.specs.RingLaws.{RING}
use Rattle.algebra.specs.Series.{C}
use Rattle.algebra.proofs.Series.{ext, coeff-add, coeff-C-mul, C-one}
use Rattle.algebra.specs.Polynomial.{Below, monomial}
use Rattle.algebra.proofs.Polynomial.{below-mono, below-mul}
use Rattle.algebra.proofs.Homogenise.{C-neg}
use Rattle.algebra.proofs.Division.{coeff-monomial-mul, coeff-monomial-mul-low}
use Rattle.algebra.specs.PrimeField.{PrimeField, scalars, positive, residue, value}
use Rattle.algebra.proofs.PrimeField.{residue-0, residue-1, residue-add, residue-mul, residue-mod, residue-value, value-lt}
use Rattle.lists.specs.Tabulate.{tabulate}
use Rattle.lists.proofs.Tabulate.{length-tabulate, get_or-tabulate, tabulated}
use Rattle.lists.specs.Words.{series_of}
use Rattle.lists.proofs.Words.{Carries, coeff-series_of, value-is}
use Rattle.word_row.specs.Rows.{row}
use Rattle.word_row.proofs.RowWords.{row_within, row-beyond}
use Rattle.word_product.specs.Convolution.{convolution}
use Rattle.word_division.specs.Reduction.{negated}
use Rattle.word_division.proofs.Rows.{negated-residue}

module _ (F : PrimeField) where
  open scalars F use {Carrier as K, zero as 𝟘, one as 𝟙, neg as ⊖◌, add as ◌⊕◌, mul as ◌⊗◌}

  infixl 65 ◌⊕◌
  infixl 70 ◌⊗◌
  infix 80 ⊖◌
  open F.series.ring use {Carrier as S, zero as 0ˢ, one as 1ˢ, neg as -ˢ◌, add as ◌+ˢ◌, mul as ◌*ˢ◌}

  infixl 65 ◌+ˢ◌
  infixl 70 ◌*ˢ◌
  infix 80 -ˢ◌
  -- past its end a list's series is 0
  past : (l : List ℕ) (k : ℕ) → length l ≤ k → F.series.coeff (series_of F l) k ≡ 𝟘
  past l k j = coeff-series_of F l k ∙ ap (residue F) (get_or-eq_default l 0 j) ∙ residue-0 F

  pub below-series_of : (l : List ℕ) → Below F.series (length l) (series_of F l)
  below-series_of l = record { at = past l }

  pub below-product : (a b : List ℕ) → 1 ≤ length a → Below F.series (length a + length b - 1) (series_of F a *ˢ series_of F b)
  below-product a b l =
      below-mono F.series (omega arith)
      (below-mul F.series (length a - 1) (length b) (below-mono F.series (omega arith) (below-series_of a)) (below-series_of b))

  -- word k of a product
  product_at : (a b : List ℕ) → ℕ → ℕ
  product_at a b k = value F (F.series.coeff (series_of F a *ˢ series_of F b) k)

  pub convolution-carries : (a b : List ℕ) → 1 ≤ length a → Carries F (convolution F a b) (series_of F a *ˢ series_of F b)
  unfolding convolution product_at
  convolution-carries a b l = record { below = λ k. low k (dec_lt k n); at = λ k. word k (dec_lt k n) }
    where
      n : ℕ
      n = length a + length b - 1

      beyond : (k : ℕ) → ¬ (k < n) → get_or (tabulate n (product_at a b)) k 0 ≡ 0
      beyond k j = let e = length-tabulate n (product_at a b) in get_or-eq_default (tabulate n (product_at a b)) 0 (omega arith)

      low : (k : ℕ) → Dec (k < n) → get_or (tabulate n (product_at a b)) k 0 < F.p
      low k (yes j) = rw (get_or-tabulate n (product_at a b) k j) (value-lt F _)
      low k (no j) = rw (beyond k j) (positive F)

      word : (k : ℕ) → Dec (k < n) → residue F (get_or (tabulate n (product_at a b)) k 0) ≡ F.series.coeff (series_of F a *ˢ series_of F b) k
      word k (yes j) = ap (residue F) (get_or-tabulate n (product_at a b) k j) ∙ residue-value F _
      word k (no j) = ap (residue F) (beyond k j) ∙ residue-0 F ∙ sym ((below-product a b l).at k (omega arith))

  pub carries-convolution : (a b : List ℕ) {l : List ℕ} → length l + 1 ≡ length a + length b → Carries F l (series_of F a *ˢ series_of F b)
      → l ≡ convolution F a b
  unfolding convolution product_at
  carries-convolution a b {l} e c =
      tabulated l (length a + length b - 1) (product_at a b) (omega arith) (λ k j. value-is F (get_or l k 0) _ (c.below k) (c.at k))

  -- a row adds m times a series; the words of y may be any
  row-adds : (m : ℕ) {x : List ℕ} (y : List ℕ) {s : S} → length y ≤ length x → Carries F x s
      → Carries F (row F.p x m y) (s +ˢ C F.series (residue F m) *ˢ series_of F y)
  row-adds m {x} y {s} l c = record { below = λ k. low k (dec_lt k (length y)); at = λ k. word k (dec_lt k (length y)) ∙ sym (coefficient k) }
    where
      low : (k : ℕ) → Dec (k < length y) → get_or (row F.p x m y) k 0 < F.p
      low k (yes j) = rw (row_within F.p x m y k (omega arith) j) (mod-lt (get_or x k 0 + m * get_or y k 0) (positive F))
      low k (no j) = rw (row-beyond F.p x m y k (omega arith)) (c.below k)

      coefficient : (k : ℕ) → F.series.coeff (s +ˢ C F.series (residue F m) *ˢ series_of F y) k ≡ residue F (get_or x k 0) ⊕ residue F m ⊗ residue F (get_or y k 0)
      coefficient k =
          coeff-add F.series s _ k
          ∙ ap₂ (λ u v. u ⊕ v) (sym (c.at k))
          (coeff-C-mul F.series (residue F m) (series_of F y) k ∙ ap (λ v. residue F m ⊗ v) (coeff-series_of F y k))

      clear : (u v : K) → u ≡ u ⊕ v ⊗ 𝟘
      clear u v = simp RING

      word : (k : ℕ) → Dec (k < length y) → residue F (get_or (row F.p x m y) k 0) ≡ residue F (get_or x k 0) ⊕ residue F m ⊗ residue F (get_or y k 0)
      word k (yes j) =
          ap (residue F) (row_within F.p x m y k (omega arith) j) ∙ residue-mod F (get_or x k 0 + m * get_or y k 0)
          ∙ residue-add F (get_or x k 0) (m * get_or y k 0) ∙ ap (λ v. residue F (get_or x k 0) ⊕ v) (residue-mul F m (get_or y k 0))
      word k (no j) =
          ap (residue F) (row-beyond F.p x m y k (omega arith)) ∙ clear (residue F (get_or x k 0)) (residue F m)
          ∙ ap (λ v. residue F (get_or x k 0) ⊕ residue F m ⊗ v) (sym (ap (residue F) (get_or-eq_default y 0 (omega arith)) ∙ residue-0 F))

  pub row-plus : {x : List ℕ} (y : List ℕ) {s : S} → length y ≤ length x → Carries F x s → Carries F (row F.p x 1 y) (s +ˢ series_of F y)
  row-plus {x} y {s} l c = subst (λ z. Carries F (row F.p x 1 y) z) (ap (λ z. s +ˢ z) once) (row-adds 1 y l c)
    where
      once : C F.series (residue F 1) *ˢ series_of F y ≡ series_of F y
      once = ap (λ z. C F.series z *ˢ series_of F y) (residue-1 F) ∙ ap (λ z. z *ˢ series_of F y) (C-one F.series) ∙ R.one-mul F.series.ring _

  pub row-minus : {x : List ℕ} (y : List ℕ) {s : S} → length y ≤ length x → Carries F x s
      → Carries F (row F.p x (negated F.p 1) y) (s +ˢ -ˢ series_of F y)
  row-minus {x} y {s} l c = subst (λ z. Carries F (row F.p x (negated F.p 1) y) z) (ap (λ z. s +ˢ z) less) (row-adds (negated F.p 1) y l c)
    where
      less : C F.series (residue F (negated F.p 1)) *ˢ series_of F y ≡ -ˢ series_of F y
      less =
          ap (λ z. C F.series z *ˢ series_of F y) (negated-residue F 1 ∙ ap (λ z. ⊖ z) (residue-1 F))
          ∙ ap (λ z. z *ˢ series_of F y) (C-neg F.series 𝟙 ∙ ap (λ z. -ˢ z) (C-one F.series))
          ∙ R.neg-mul F.series.ring _ _ ∙ ap (λ z. -ˢ z) (R.one-mul F.series.ring _)

  -- u^h times a series added to one that is below h
  module _ (h : ℕ) (s r : S) where
    pub coeff-low : (j : ℕ) → j < h → F.series.coeff (s +ˢ monomial F.series 𝟙 h *ˢ r) j ≡ F.series.coeff s j
    coeff-low j l =
        coeff-add F.series s _ j ∙ ap (λ z. F.series.coeff s j ⊕ z) (coeff-monomial-mul-low F.series 𝟙 h r j l)
        ∙ R.add-zero (scalars F) _

    pub coeff-high : (i : ℕ) → F.series.coeff s (h + i) ≡ 𝟘 → F.series.coeff (s +ˢ monomial F.series 𝟙 h *ˢ r) (h + i) ≡ F.series.coeff r i
    coeff-high i e =
        coeff-add F.series s _ (h + i) ∙ ap₂ (λ u v. u ⊕ v) e (coeff-monomial-mul F.series 𝟙 h r i)
        ∙ R.zero-add (scalars F) _ ∙ R.one-mul (scalars F) _

  pub split-series : (h : ℕ) (a : List ℕ) → series_of F a ≡ series_of F (take h a) +ˢ monomial F.series 𝟙 h *ˢ series_of F (drop h a)
  split-series h a = ext F.series _ _ (λ k. go k (dec_lt k h))
    where
      from : (i : ℕ) → F.series.coeff (series_of F a) (h + i) ≡ F.series.coeff (series_of F (take h a) +ˢ monomial F.series 𝟙 h *ˢ series_of F (drop h a)) (h + i)
      from i =
          coeff-series_of F a (h + i) ∙ ap (residue F) (sym (get_or-drop h a i 0)) ∙ sym (coeff-series_of F (drop h a) i)
          ∙ sym (coeff-high h (series_of F (take h a)) (series_of F (drop h a)) i (past (take h a) (h + i) (rw (length-take h a) (omega arith))))

      go : (k : ℕ) → Dec (k < h) → F.series.coeff (series_of F a) k ≡ F.series.coeff (series_of F (take h a) +ˢ monomial F.series 𝟙 h *ˢ series_of F (drop h a)) k
      go k (yes l) =
          coeff-series_of F a k ∙ ap (residue F) (sym (get_or-take h a k 0 l)) ∙ sym (coeff-series_of F (take h a) k)
          ∙ sym (coeff-low h (series_of F (take h a)) (series_of F (drop h a)) k l)
      go k (no l) = let e : k ≡ h + (k - h) = omega arith in rw e (from (k - h))

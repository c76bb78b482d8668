-- The two parts joined, on words.
-- Theorems:
--     joined-row     the product of the first part with the words of (1 ± t)^m, and the second part added from word h on
--     join_is        the same of what the code writes
-- Assumes nothing.
use mathlib.Core.Path.{◌≡◌, sym, ◌∙◌, ap, ap₂, subst}
use mathlib.Core.Bool.{Bool}
use mathlib.Core.List.{List, ◌++◌}
use Prim.Native.Nat.{ℕ, suc, ◌+◌, ◌-◌, ◌≤◌, ◌<◌}
use native.Mathlib.Omega.{arith}
use lib.ListN.{length, take, drop, length-drop}
use lib.Seq.{length-take-le}
use Rattle.algebra.specs.RingLaws as R
use Rattle.algebra.specs.Ring.{pow}
use Rattle.algebra.specs.Series.{C}
use Rattle.algebra.proofs.Series.{C-one}
use Rattle.algebra.specs.Polynomial.{monomial}
use Rattle.algebra.specs.PrimeField.{PrimeField, residue}
use Rattle.algebra.proofs.PrimeField.{residue-1}
use Rattle.refusal.specs.Limits.{max_words}
use Rattle.field.specs.Fields.{modulus, field_at}
use Rattle.field.proofs.Fields.{p-at, modulus-half}
use Rattle.lists.specs.Words.{series_of, Tight}
use Rattle.lists.proofs.Words.{Carries, carries-series_of}
use Rattle.lists.proofs.Tight.{tight-drop}
use Rattle.word_row.specs.Rows.{row, row_from}
use Rattle.word_row.proofs.RowWords.{length-row_from}
use Rattle.word_row.proofs.Loops.{part-row}
use Rattle.word_product.specs.Convolution.{convolution, convolved_into}
use Rattle.word_product.proofs.Convolution.{length-convolution, convolve-is}
use Rattle.word_division.proofs.Rows.{row-series}
use Rattle.word_karatsuba.proofs.Products.{convolution-carries}
use Rattle.word_karatsuba.proofs.Parts.{rest-is}
use Rattle.word_expansion.proofs.Horner.{power-monomial}
use Rattle.word_expansion_halves.specs.Halves.{base, power_row, joined_series, joined}
use Rattle.word_expansion_halves.proofs.Split.{pow_t, joined-carries}
use Rattle.word_expansion_halves.proofs.Row.{length-power_row, series_of-power_row}

module _ (F : PrimeField) where
  open F.series.ring use {Carrier as S, add as ◌+ˢ◌, mul as ◌*ˢ◌}

  infixl 65 ◌+ˢ◌
  infixl 70 ◌*ˢ◌
  module _ (plus : Bool) (big : 1 < F.p) (h n : ℕ) (x : List ℕ) (some : 1 ≤ h) (size : length x ≡ h + n) (tight : Tight F.p x) where
    abbrev power : List ℕ
    power = power_row F plus n

    first-length : length (take h x) ≡ h
    first-length = length-take-le h x (omega arith)

    power-length : length power ≡ suc n
    power-length = length-power_row F plus n

    product-length : length (convolution F (take h x) power) ≡ length x
    product-length = length-convolution F (take h x) power ∙ omega (arith, first-length, power-length, size)

    once : monomial F.series (residue F 1) h ≡ pow_t F h
    once =
        sym (power-monomial F (residue F 1) h)
        ∙ ap (λ c. pow_t F h *ˢ c) (ap (C F.series) (residue-1 F) ∙ C-one F.series) ∙ R.mul-one F.series.ring _

    series-is : series_of F (take h x) *ˢ series_of F power +ˢ monomial F.series (residue F 1) h *ˢ series_of F (drop h x) ≡ joined_series F plus h x
    unfolding joined_series
    series-is =
        let less : n ≡ length x - h = omega (arith, size) in
        ap₂ (λ u v. u +ˢ v *ˢ series_of F (drop h x))
        (R.mul_comm F.series.ring _ _
        ∙ ap (λ u. u *ˢ series_of F (take h x)) (series_of-power_row F plus big n ∙ ap (pow F.series.ring (base F plus)) less))
        once

    pub joined-row : row_from F.p h (convolution F (take h x) power) 1 (drop h x) ≡ joined F plus h x
    joined-row =
        joined-carries F plus h x (length-row_from F.p h _ 1 (drop h x) ∙ product-length)
        (subst (Carries F (row_from F.p h (convolution F (take h x) power) 1 (drop h x))) series-is
        (row-series F h 1 (convolution-carries F (take h x) power (omega (arith, first-length)))
        (carries-series_of F (tight-drop h tight).at)
        (omega (arith, product-length, length-drop h x, size))))

-- what the code writes: w are the words of (1 ± t)^m, and `out` is the buffer for the product
module _ (k : ℕ) (plus : Bool) (h : ℕ) {x : List ℕ} (short : length x ≤ max_words) (tight : Tight (modulus k) x) where
  pub join_is : (out : List ℕ) {w o z : List ℕ} → (1 ≤ h) × (h < length x) → length out ≡ length x
      → w ≡ power_row (field_at k) plus (length x - h)
      → o ≡ convolved_into (field_at k) max_words (take h x) w out
      → z ≡ row (modulus k) (take (length o - h) (drop h o)) 1 (take (length x - h) (drop h x))
      → take h o ++ (z ++ drop (length o - h) (drop h o)) ≡ joined (field_at k) plus h x
  join_is out {w} {o} {z} fits same qw qo qz =
      part-row (modulus k) h o 1 _ qz ∙ ap (row_from (modulus k) h o 1) (rest-is h x)
      ∙ ap₂ (λ p i. row_from p h i 1 (drop h x)) (sym (p-at k)) (convolved ∙ ap (convolution (field_at k) (take h x)) qw)
      ∙ joined-row (field_at k) plus big h n x fits.0 (omega arith) (subst (λ p. Tight p x) (sym (p-at k)) tight)
    where
      n : ℕ
      n = length x - h

      big : 1 < (field_at k).p
      big = omega (arith, p-at k, modulus-half k)

      power_size : length w ≡ suc n
      power_size = ap length qw ∙ length-power_row (field_at k) plus n

      front : length (take h x) ≡ h
      front = length-take-le h x (omega arith)

      convolved : o ≡ convolution (field_at k) (take h x) w
      convolved =
          convolve-is (field_at k) max_words (take h x) w out (omega (arith, front, short)) (omega (arith, power_size, short)) (omega (arith, front, power_size, same)) qo

-- A quotient and a remainder with no loose word are those of the division row by row, for every prime field F.
--     divided-digits, divided-reduced     the words of the quotient, and what is left
--     digits-at, reduced-at               the same as the code has it
--     part-digits, part-reduced           the same on the words of longer slices
-- Assumes nothing.
use mathlib.Core.Path.{◌≡◌, refl, sym, ◌∙◌, ap, subst}
use mathlib.Core.Bool.{true}
use mathlib.Core.List.{List, ◌++◌}
use Prim.Native.Nat.{ℕ, ◌+◌, ◌-◌, ◌≤◌}
use native.Mathlib.Omega.{arith}
use lib.ListN.{length, get_or, take, drop, take-append-drop}
use lib.Seq.{ext_get_or, length-take-le}
use Rattle.algebra.specs.Polynomial.{Below}
use Rattle.algebra.proofs.Polynomial.{below-mono, polynomial}
use Rattle.algebra.specs.Division.{quotient, remainder}
use Rattle.algebra.proofs.Division.{division, remainder-below, quotient-below, division-unique}
use Rattle.algebra.specs.PrimeField.{PrimeField, scalars, scalar_field, residue}
use Rattle.algebra.proofs.PrimeField.{residue-0}
use Rattle.lists.specs.Words.{series_of}
use Rattle.lists.proofs.Words.{Carries, value-is, carries-series_of, coeff-series_of}
use Rattle.word_division.specs.Reduction.{reduced, digits, reduce_fits, words_reduced, words_of_quotient}
use Rattle.word_division.proofs.Loops.{reduce-fits}
use Rattle.word_division.proofs.Longer.{reduced-longer, digits-longer}
use Rattle.word_division.proofs.Steps.{digits-quotient, reduced-remainder, length_digits, length-reduced}
use Rattle.word_karatsuba.proofs.Products.{below-series_of}
use Rattle.word_block_division.specs.Blocks.{Suits, Divided}
use Rattle.word_block_division.proofs.Blocks.{top-inverse, divisor-degree, divisor-words, divisor-carries}

module _ (F : PrimeField) where
  open scalars F use {Carrier as K, zero as 𝟘}
  open F.series.ring use {Carrier as S, add as ◌+ˢ◌, mul as ◌*ˢ◌}

  infixl 65 ◌+ˢ◌
  infixl 70 ◌*ˢ◌
  -- two lists of words, as many, that stand for one series
  carries_same : {a b : List ℕ} {s : S} → length a ≡ length b → Carries F a s → Carries F b s → a ≡ b
  carries_same {a} {b} e ca cb =
      ext_get_or 0 a b e (λ k l. value-is F (get_or a k 0) _ (ca.below k) (ca.at k) ∙ sym (value-is F (get_or b k 0) _ (cb.below k) (cb.at k)))

  module _ (inv : ℕ) (x y : List ℕ) (k : ℕ) (suits : Suits F.p inv x y k) {q r : List ℕ} (lq : length q ≡ k) (lr : length r ≡ length x)
      (d : Divided F y x q r) where
    abbrev quotient-of : S
    quotient-of = quotient F.series (scalar_field F) k (length y - 1) (series_of F x) (series_of F y)

    abbrev remainder_of : S
    remainder_of = remainder F.series (scalar_field F) k (length y - 1) (series_of F x) (series_of F y)

    enough : length y - 1 + k ≤ length x
    enough = let s = suits.steps in let i = suits.inverts.some in omega arith

    all : length x ≤ length y - 1 + k
    all = let s = suits.steps in let i = suits.inverts.some in omega arith

    left_below : Below F.series (length y - 1) (series_of F r)
    left_below = record { at = λ j l. coeff-series_of F r j ∙ ap (residue F) (d.rest.at j l) ∙ residue-0 F }

    unique : (series_of F q ≡ quotient-of) × (series_of F r ≡ remainder_of)
    unique =
        division-unique F.series (scalar_field F) (length y - 1) (divisor-degree F inv y suits.inverts)
        (polynomial F.series (below-series_of F q)) (polynomial F.series (quotient-below F.series (scalar_field F) k (length y - 1) (series_of F x) (series_of F y)))
        left_below
        (remainder-below F.series (scalar_field F) k (length y - 1) (divisor-degree F inv y suits.inverts) (below-mono F.series all (below-series_of F x)))
        (sym d.whole ∙ division F.series (scalar_field F) k (length y - 1) (series_of F x) (series_of F y))

    carried : Carries F x (series_of F x)
    carried = carries-series_of F suits.tight.at

    pub divided-digits : q ≡ digits F.p inv y k x
    divided-digits =
        carries_same (lq ∙ sym (length_digits F.p inv y k x))
        (subst (λ s. Carries F q s) unique.0 (carries-series_of F d.tight-quotient.at))
        (digits-quotient F inv (length y - 1) (divisor-carries F inv y suits.inverts) (divisor-words F inv y suits.inverts) (top-inverse F inv y suits.inverts) k carried enough)

    pub divided-reduced : r ≡ reduced F.p inv y k x
    divided-reduced =
        carries_same (lr ∙ sym (length-reduced F.p inv y k x))
        (subst (λ s. Carries F r s) unique.1 (carries-series_of F d.tight-rest.at))
        (reduced-remainder F inv (length y - 1) (divisor-carries F inv y suits.inverts) (divisor-words F inv y suits.inverts) (top-inverse F inv y suits.inverts) k carried enough)

  -- the same as the code has it
  module _ {p : ℕ} (is : F.p ≡ p) (inv : ℕ) (x y q₀ : List ℕ) (suits : Suits p inv x y (length q₀)) {q r : List ℕ} (lq : length q ≡ length q₀)
      (lr : length r ≡ length x) (d : Divided F y x q r) where
    fits : reduce_fits x y q₀ ≡ true
    fits = reduce-fits x y q₀ suits.inverts.some suits.steps

    pub digits-at : q ≡ words_of_quotient p inv x y q₀
    digits-at = divided-digits inv x y (length q₀) (rw is suits) lq lr d ∙ rw (is, fits) refl

    pub reduced-at : r ≡ words_reduced p inv x y q₀
    reduced-at = divided-reduced inv x y (length q₀) (rw is suits) lq lr d ∙ rw (is, fits) refl

-- the same on the words of longer slices that the division reaches
module _ (p inv n m : ℕ) (x y q : List ℕ) (some : 1 ≤ n) (ly : n ≤ length y) (lx : m ≤ length x) (reach : m ≡ n - 1 + length q) where
  part-y : length (take n y) ≡ n
  part-y = length-take-le n y ly

  part-x : length (take m x) ≡ m
  part-x = length-take-le m x lx

  part-fits : reduce_fits (take m x) (take n y) q ≡ true
  part-fits = reduce-fits (take m x) (take n y) q (omega (arith, part-y)) (omega (arith, part-x, part-y))

  pub part-reduced : {z : List ℕ} → z ≡ words_reduced p inv (take m x) (take n y) q → z ++ drop m x ≡ reduced p inv (take n y) (length q) x
  part-reduced {z} e =
      ap (λ l. l ++ drop m x) (e ∙ fitting)
      ∙ sym (reduced-longer p inv (take n y) (drop m x) (omega (arith, part-y)) (length q) (take m x) (omega (arith, part-x, part-y)))
      ∙ ap (reduced p inv (take n y) (length q)) (take-append-drop m x)
    where
      fitting : words_reduced p inv (take m x) (take n y) q ≡ reduced p inv (take n y) (length q) (take m x)
      fitting = rw part-fits refl

  pub part-digits : {z : List ℕ} → z ≡ words_of_quotient p inv (take m x) (take n y) q → z ≡ digits p inv (take n y) (length q) x
  part-digits {z} e =
      e ∙ fitting
      ∙ sym (digits-longer p inv (take n y) (drop m x) (omega (arith, part-y)) (length q) (take m x) (omega (arith, part-x, part-y)))
      ∙ ap (digits p inv (take n y) (length q)) (take-append-drop m x)
    where
      fitting : words_of_quotient p inv (take m x) (take n y) q ≡ digits p inv (take n y) (length q) (take m x)
      fitting = rw part-fits refl

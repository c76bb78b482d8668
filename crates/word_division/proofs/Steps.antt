-- The steps of the division on words are those on series, for every prime field F.
-- Theorems:
--     length-reduced, length_digits         the lengths of the steps' lists
--     digit-residue                         a word of the quotient stands for the quotient's coefficient
--     step-series                           one step of the division
--     reduced-remainder, digits-quotient    the words of a division are those of the remainder and of the quotient
-- Assumes nothing.
use mathlib.Core.Path.{◌≡◌, refl, sym, ◌∙◌, ap, ap₂, subst}
use mathlib.Core.List.{List, [], ◌∷◌, ◌++◌}
use Prim.Native.Nat.{ℕ, zero, suc, ◌+◌, ◌-◌, ◌*◌, ◌≤◌, ◌<◌}
use native.Mathlib.Nat as N
use native.Mathlib.Decide.{dec_lt, ℕ_discrete}
use native.Mathlib.Omega.{arith}
use lib.ListN.{length, get_or, length-append, get_or-append, get_or-eq_default}
use lib.Seq.{get_or-append_seam}
use Rattle.algebra.proofs.Series.{coeff-0}
use Rattle.algebra.specs.Polynomial.{Below}
use Rattle.algebra.specs.Division as D
use Rattle.algebra.specs.Division.{step, remainder, quotient}
use Rattle.algebra.proofs.Division.{remainder-zero, remainder-suc, quotient-zero, quotient-below, coeff-quotient-top, coeff-quotient-low}
use Rattle.algebra.specs.PrimeField.{PrimeField, scalars, scalar_field, positive, residue}
use Rattle.algebra.proofs.PrimeField.{residue-0, residue-mul-mod}
use Rattle.lists.proofs.Words.{Carries}
use Rattle.word_row.specs.Rows.{row_from}
use Rattle.word_division.specs.Reduction.{negated, digit, reduced, digits}
use Rattle.word_row.proofs.RowWords.{length-row_from}
use Rattle.word_division.proofs.Rows.{row-series, minus}

pub length-reduced : (p inv : ℕ) (y : List ℕ) (k : ℕ) (x : List ℕ) → length (reduced p inv y k x) ≡ length x
unfolding reduced
length-reduced p inv y zero x = refl
length-reduced p inv y (suc k) x =
    length-reduced p inv y k (row_from p k x (negated p (digit p inv y k x)) y)
    ∙ length-row_from p k x (negated p (digit p inv y k x)) y

pub length_digits : (p inv : ℕ) (y : List ℕ) (k : ℕ) (x : List ℕ) → length (digits p inv y k x) ≡ k
unfolding digits
length_digits p inv y zero x = refl
length_digits p inv y (suc k) x =
    let words = length_digits p inv y k (row_from p k x (negated p (digit p inv y k x)) y) in
    length-append (digits p inv y k (row_from p k x (negated p (digit p inv y k x)) y)) _ ∙ omega arith

module _ (F : PrimeField) where
  open scalars F use {Carrier as K, zero as 𝟘, neg as ⊖◌, add as ◌⊕◌, mul as ◌⊗◌}

  infixl 65 ◌⊕◌
  infixl 70 ◌⊗◌
  infix 80 ⊖◌
  open F.series.ring use {Carrier as S, zero as 0ˢ, neg as -ˢ◌, add as ◌+ˢ◌, mul as ◌*ˢ◌}

  infixl 65 ◌+ˢ◌
  infixl 70 ◌*ˢ◌
  infix 80 -ˢ◌
  -- one word more
  carries-snoc : (k : ℕ) {l : List ℕ} {a : ℕ} {s u : S} → length l ≡ k → Carries F l s → a < F.p
      → residue F a ≡ F.series.coeff u k → ((j : ℕ) → j < k → F.series.coeff s j ≡ F.series.coeff u j)
      → Below F.series (suc k) u → Carries F (l ++ (a ∷ [])) u
  carries-snoc k {l} {a} {s} {u} e cl la ea low high =
      record { below = λ j. small j (dec_lt j k) (ℕ_discrete j k); at = λ j. go j (dec_lt j k) (ℕ_discrete j k) }
    where
      here : get_or (l ++ (a ∷ [])) k 0 ≡ a
      here = ap (λ n. get_or (l ++ (a ∷ [])) n 0) (sym e) ∙ get_or-append_seam l a [] 0

      long : length (l ++ (a ∷ [])) ≡ suc k
      long = length-append l (a ∷ []) ∙ omega arith

      small : (j : ℕ) → Dec (j < k) → Dec (j ≡ k) → get_or (l ++ (a ∷ [])) j 0 < F.p
      small j (yes h) q = rw (get_or-append l (a ∷ []) 0 j (omega arith)) (cl.below j)
      small j (no h) (yes q) = rw (q, here) la
      small j (no h) (no q) = rw (get_or-eq_default (l ++ (a ∷ [])) 0 {n = j} (omega (arith, long))) (positive F)

      go : (j : ℕ) → Dec (j < k) → Dec (j ≡ k) → residue F (get_or (l ++ (a ∷ [])) j 0) ≡ F.series.coeff u j
      go j (yes h) q = ap (residue F) (get_or-append l (a ∷ []) 0 j (omega arith)) ∙ cl.at j ∙ low j h
      go j (no h) (yes q) = rw (q, here) ea
      go j (no h) (no q) =
          ap (residue F) (get_or-eq_default (l ++ (a ∷ [])) 0 {n = j} (omega (arith, long))) ∙ residue-0 F ∙ sym (high.at j (omega arith))

  module _ (inv d : ℕ) {y : List ℕ} {r : S} (cy : Carries F y r) (ly : length y ≡ suc d)
      (top : residue F inv ≡ (scalar_field F).inv (F.series.coeff r d)) where
    pub digit-residue : (k : ℕ) {x : List ℕ} {s : S} → Carries F x s
        → residue F (digit F.p inv y k x) ≡ D.digit F.series (scalar_field F) k d s r
    unfolding digit D.digit
    digit-residue k {x} {s} cx =
        let degree : length y - 1 ≡ d = omega arith in
        residue-mul-mod F (get_or x (length y - 1 + k) 0) inv
        ∙ ap₂ (λ a b. a ⊗ b) (cx.at (length y - 1 + k) ∙ ap (λ j. F.series.coeff s (j + k)) degree) top

    digit-below : (k : ℕ) (x : List ℕ) → digit F.p inv y k x < F.p
    unfolding digit
    digit-below k x = N.mod-lt (get_or x (length y - 1 + k) 0 * inv) (positive F)

    -- one step
    pub step-series : (k : ℕ) {x : List ℕ} {s : S} → Carries F x s → d + k < length x
        → Carries F (row_from F.p k x (negated F.p (digit F.p inv y k x)) y) (step F.series (scalar_field F) k d s r)
    unfolding step
    step-series k {x} {s} cx l =
        subst (λ z. Carries F (row_from F.p k x (negated F.p (digit F.p inv y k x)) y) z)
        (minus F (digit F.p inv y k x) k s r (digit-residue k cx))
        (row-series F k (negated F.p (digit F.p inv y k x)) cx cy (omega arith))

    pub reduced-remainder : (k : ℕ) {x : List ℕ} {s : S} → Carries F x s → d + k ≤ length x
        → Carries F (reduced F.p inv y k x) (remainder F.series (scalar_field F) k d s r)
    unfolding reduced
    reduced-remainder zero {x} {s} cx l = rw (remainder-zero F.series (scalar_field F) d s r) cx
    reduced-remainder (suc k) {x} {s} cx l =
        rw (remainder-suc F.series (scalar_field F) k d s r)
        (reduced-remainder k (step-series k cx (omega arith))
        (let words = length-row_from F.p k x (negated F.p (digit F.p inv y k x)) y in omega arith))

    pub digits-quotient : (k : ℕ) {x : List ℕ} {s : S} → Carries F x s → d + k ≤ length x
        → Carries F (digits F.p inv y k x) (quotient F.series (scalar_field F) k d s r)
    unfolding digits
    digits-quotient zero {x} {s} cx l =
        rw (quotient-zero F.series (scalar_field F) d s r)
        (record { below = λ j. positive F; at = λ j. residue-0 F ∙ sym (coeff-0 F.series j) })
    digits-quotient (suc k) {x} {s} cx l =
        carries-snoc k (length_digits F.p inv y k _)
        (digits-quotient k (step-series k cx (omega arith))
        (let words = length-row_from F.p k x (negated F.p (digit F.p inv y k x)) y in omega arith))
        (digit-below k x)
        (digit-residue k cx ∙ sym (coeff-quotient-top F.series (scalar_field F) k d s r))
        (λ j h. sym (coeff-quotient-low F.series (scalar_field F) k d s r j h))
        (quotient-below F.series (scalar_field F) (suc k) d s r)

-- The derivative of a list, and its value at a word.
-- Theorems:
--     derivative-meaning     the derivative means the derivative of the meaning
--     evaluate-meaning       the value at x is that of the meaning
-- Assumes nothing.
use mathlib.Core.Path.{◌≡◌, refl, sym, ◌∙◌, ap, ap₂}
use mathlib.Core.Bool.{cond}
use mathlib.Core.List.{List, [], ◌∷◌}
use Prim.Native.Nat.{ℕ, zero, suc, ◌*◌, ◌-◌, ◌≤◌, ◌<◌}
use native.Mathlib.Decide.{dec_lt}
use native.Mathlib.Omega.{arith}
use lib.ListN.{get_or, length}
use borrow.Author.Tests.{eq-eqb, ne_eqb}
use Rattle.algebra.specs.RingLaws as R
use Rattle.algebra.specs.RingLaws.{RING}
use Rattle.algebra.specs.Series.{C}
use Rattle.algebra.proofs.Series.{ext, C-zero}
use Rattle.algebra.specs.Evaluation.{ValueAt}
use Rattle.algebra.proofs.Evaluation.{value_at-mul, value_at-C, value_at-t, value_at-⟨1-t⟩, value_at-pow}
use Rattle.algebra.specs.OneMinusT.{⟨1-t⟩, ⟨1-t⟩^}
use Rattle.algebra.specs.Homogenise.{hom}
use Rattle.algebra.proofs.Homogenise.{hom-zero}
use Rattle.algebra.proofs.Sum.{value_at-sum}
use Rattle.algebra.specs.Choose.{choose}
use Rattle.algebra.proofs.Choose.{choose-suc-suc, choose-suc}
use Rattle.algebra.specs.Derivative as D
use Rattle.algebra.specs.Derivative.{multiple, scaled_derivative}
use Rattle.algebra.proofs.Derivative.{coeff-scaled_derivative, derivative-C, derivative-hom}
use Rattle.algebra.proofs.Multiple.{multiple-residue}
use Rattle.algebra.specs.PrimeField.{PrimeField, scalars, positive, residue, value}
use Rattle.algebra.proofs.PrimeField.{residue-value, value-lt, residue-mul}
use Rattle.lists.specs.Tabulate.{tabulate}
use Rattle.lists.proofs.Tabulate.{length-tabulate, get_or-tabulate}
use Rattle.lists.specs.Degrees.{naive_degree}
use Rattle.lists.specs.Lists.{Coefficients, word, binomial, scaled_coefficient, meaning, scaled}
use Rattle.lists.specs.Operations.{derivative_at, derivative, evaluate_at, evaluate}
use Rattle.lists.proofs.Scaled.{naive-length, coefficients, coefficient-zero, binomial-above, coeff-scaled, coeff-scaled-at, below-scaled, meaning-hom-at}

module _ (F : PrimeField) where
  open scalars F use {Carrier as K, neg as ⊖◌, add as ◌⊕◌, mul as ◌⊗◌}

  infixl 65 ◌⊕◌
  infixl 70 ◌⊗◌
  infix 80 ⊖◌
  derivative-constant : (c : List ℕ) → naive_degree c ≡ 0 → derivative F c ≡ 0 ∷ []
  unfolding derivative
  derivative-constant c e = ap (λ b. cond b (0 ∷ []) (tabulate (naive_degree c) (λ k. value F (derivative_at F c k)))) (eq-eqb (naive_degree c) 0 e)

  derivative-suc : (c : List ℕ) (n : ℕ) → naive_degree c ≡ suc n → derivative F c ≡ tabulate (suc n) (λ k. value F (derivative_at F c k))
  unfolding derivative
  derivative-suc c n e =
      ap (λ b. cond b (0 ∷ []) (tabulate (naive_degree c) (λ k. value F (derivative_at F c k)))) (ne_eqb (naive_degree c) 0 (λ z. omega arith))
      ∙ ap (λ d. tabulate d (λ k. value F (derivative_at F c k))) e

  pub length-derivative : (c : List ℕ) (n : ℕ) → naive_degree c ≡ suc n → length (derivative F c) ≡ suc n
  length-derivative c n e = ap length (derivative-suc c n e) ∙ length-tabulate (suc n) _

  word-derivative : (c : List ℕ) (n k : ℕ) → naive_degree c ≡ suc n → k < suc n → word F (derivative F c) k ≡ derivative_at F c k
  unfolding word
  word-derivative c n k e l =
      ap (residue F) (ap (λ d. get_or d k 0) (derivative-suc c n e) ∙ get_or-tabulate (suc n) _ k l) ∙ residue-value F _

  scaled-binomial : (m j i n k : ℕ) → m * choose i j ≡ suc n * choose n k → residue F m ⊗ binomial F i j ≡ residue F (suc n) ⊗ binomial F n k
  unfolding binomial
  scaled-binomial m j i n k q = sym (residue-mul F m (choose i j)) ∙ ap (residue F) q ∙ residue-mul F (suc n) (choose n k)

  -- coefficient k of the derivative in u is n(c_(k+1) - c_k) · C(n-1,k)
  coeff-derivative : (c : List ℕ) (n k : ℕ) → naive_degree c ≡ suc n
      → F.series.coeff (scaled_derivative F.series (suc n) (scaled F c)) k ≡ derivative_at F c k ⊗ binomial F n k
  coeff-derivative c n k e =
      coeff-scaled_derivative F.series (suc n) (scaled F c) k
      ∙ ap₂ (λ x y. x ⊕ ⊖ y) (part (suc k) (suc k) (choose-suc-suc n k)) (part (suc n - k) k (choose-suc n k))
      ∙ collect (residue F (suc n)) (binomial F n k) (word F c (suc k)) (word F c k)
      ∙ ap (λ d. residue F d ⊗ (word F c (suc k) ⊕ ⊖ word F c k) ⊗ binomial F n k) (sym e)
      ∙ ap (λ x. x ⊗ binomial F n k) (unfold derivative_at in refl)
    where
      collect : (a b x y : K) → a ⊗ b ⊗ x ⊕ ⊖ (a ⊗ b ⊗ y) ≡ a ⊗ (x ⊕ ⊖ y) ⊗ b
      collect a b x y = simp RING

      swap : (a b x : K) → a ⊗ (x ⊗ b) ≡ a ⊗ b ⊗ x
      swap a b x = simp RING

      part : (m j : ℕ) → m * choose (suc n) j ≡ suc n * choose n k
          → multiple (scalars F) m (F.series.coeff (scaled F c) j) ≡ residue F (suc n) ⊗ binomial F n k ⊗ word F c j
      part m j q =
          multiple-residue F m _ ∙ ap (λ x. residue F m ⊗ x) (coeff-scaled-at F (suc n) c j e) ∙ swap (residue F m) (binomial F (suc n) j) (word F c j)
          ∙ ap (λ x. x ⊗ word F c j) (scaled-binomial m j (suc n) n k q)

  scaled-derivative : (c : List ℕ) (n : ℕ) → naive_degree c ≡ suc n
      → scaled F (derivative F c) ≡ scaled_derivative F.series (suc n) (scaled F c)
  scaled-derivative c n e = ext F.series _ _ λ k. go k (dec_lt k (suc n)) ∙ sym (coeff-derivative c n k e)
    where
      go : (k : ℕ) → Dec (k < suc n) → F.series.coeff (scaled F (derivative F c)) k ≡ derivative_at F c k ⊗ binomial F n k
      go k (yes l) =
          coeff-scaled-at F n (derivative F c) k (naive-length (derivative F c) n (length-derivative c n e))
          ∙ ap (λ x. x ⊗ binomial F n k) (word-derivative c n k e l)
      go k (no l) =
          (below-scaled F (derivative F c)).at k (let q = length-derivative c n e in omega arith)
          ∙ sym (ap (λ x. derivative_at F c k ⊗ x) (binomial-above F n k (omega arith)) ∙ R.mul-zero (scalars F) _)

  pub derivative-meaning : (c : List ℕ) → meaning F (derivative F c) ≡ D.derivative F.series (meaning F c)
  derivative-meaning c = go (naive_degree c) refl
    where
      go : (d : ℕ) → naive_degree c ≡ d → meaning F (derivative F c) ≡ D.derivative F.series (meaning F c)
      go zero e =
          ap (meaning F) (derivative-constant c e) ∙ meaning-hom-at F 0 (0 ∷ []) (naive-length (0 ∷ []) 0 refl)
          ∙ hom-zero F.series _ ∙ ap (C F.series) (coeff-scaled F (0 ∷ []) 0 ∙ coefficient-zero F (0 ∷ []) 0 refl) ∙ C-zero F.series
          ∙ sym (ap (D.derivative F.series) (meaning-hom-at F 0 c e ∙ hom-zero F.series _) ∙ derivative-C F.series _)
      go (suc n) e =
          meaning-hom-at F n (derivative F c) (naive-length (derivative F c) n (length-derivative c n e))
          ∙ ap (hom F.series n) (scaled-derivative c n e)
          ∙ sym (ap (D.derivative F.series) (meaning-hom-at F (suc n) c e) ∙ derivative-hom F.series n (scaled F c))

  pub coefficients-derivative : (c : List ℕ) → Coefficients F c → Coefficients F (derivative F c)
  coefficients-derivative c g = go (naive_degree c) refl
    where
      go : (d : ℕ) → naive_degree c ≡ d → Coefficients F (derivative F c)
      go zero e = rw (derivative-constant c e) (coefficients F (positive F) (λ k l. small k))
        where
          small : (k : ℕ) → get_or (0 ∷ []) k 0 < F.p
          small zero = positive F
          small (suc k) = positive F
      go (suc n) e =
          rw (derivative-suc c n e)
          (coefficients F (rw (length-tabulate (suc n) _) short)
          (λ k l. rw (get_or-tabulate (suc n) _ k (rw (length-tabulate (suc n) _) at l)) (value-lt F _)))
        where
          short : suc n ≤ F.p
          short = let h = g.short in unfold naive_degree in omega arith

  -- P(x), the value of the meaning
  evaluate_at-meaning : (c : List ℕ) (x : K) → ValueAt F.series x (meaning F c) (evaluate_at F c x)
  unfolding evaluate_at meaning ⟨1-t⟩^ ⟨1-t⟩
  evaluate_at-meaning c x =
      value_at-sum F.series x (length c) _ _
      (λ k. value_at-mul F.series x
      (value_at-mul F.series x (value_at-C F.series x (scaled_coefficient F c k)) (value_at-pow F.series x k (value_at-t F.series x)))
      (value_at-pow F.series x (naive_degree c - k) (value_at-⟨1-t⟩ F.series x)))

  pub evaluate-lt : (c : List ℕ) (x : ℕ) → evaluate F c x < F.p
  unfolding evaluate
  evaluate-lt c x = value-lt F _

  pub evaluate-meaning : (c : List ℕ) (x : ℕ) → ValueAt F.series (residue F x) (meaning F c) (residue F (evaluate F c x))
  unfolding evaluate
  evaluate-meaning c x = rw (residue-value F (evaluate_at F c (residue F x))) (evaluate_at-meaning c (residue F x))

-- The words of a derivative, one by one: the loop's n · (c_(k+1) - c_k), and the one 0 of a constant; and their number.
-- Assumes nothing.
use mathlib.Core.Path.{◌≡◌, refl, sym, ◌∙◌, ap, ap₂}
use mathlib.Core.List.{List, [], ◌∷◌}
use Prim.Native.Nat.{ℕ, zero, suc, ◌+◌, ◌-◌, ◌*◌, ◌%◌, ◌<◌, max}
use native.Mathlib.Nat.{mod-lt}
use native.Mathlib.Numerals.{add-one}
use native.Mathlib.Omega.{arith}
use lib.ListN.{length, get_or, set}
use borrow.Author.Tests.{eq-eqb, ne_eqb}
use Rattle.algebra.specs.PrimeField.{PrimeField, scalars, positive, residue, value}
use Rattle.algebra.proofs.PrimeField.{residue-add-mod, residue-mul-mod, residue-neg}
use Rattle.lists.specs.Tabulate.{tabulate}
use Rattle.lists.proofs.Tabulate.{length-tabulate, get_or-tabulate}
use Rattle.lists.specs.Degrees.{naive_degree}
use Rattle.lists.specs.Lists.{word}
use Rattle.lists.specs.Operations.{derivative_at, derivative}
use Rattle.lists.proofs.Words.{value-is}
use Rattle.lists.proofs.Calculus.{length-derivative}
use Rattle.list_derivative.specs.Calls.{derivative_words}

module _ (F : PrimeField) where
  open scalars F use {neg as ⊖◌, add as ◌⊕◌, mul as ◌⊗◌}

  infixl 65 ◌⊕◌
  infixl 70 ◌⊗◌
  infix 80 ⊖◌
  constant-length : (f : List ℕ) → naive_degree f ≡ 0 → length (derivative F f) ≡ 1
  unfolding derivative
  constant-length f e = simp (eq-eqb (naive_degree f) 0 e)

  pub derivative-length : (f : List ℕ) → length (derivative F f) ≡ derivative_words f
  unfolding derivative_words
  derivative-length f = go (naive_degree f) refl
    where
      go : (n : ℕ) → naive_degree f ≡ n → length (derivative F f) ≡ max (naive_degree f) 1
      go zero e = constant-length f e ∙ omega (arith, e)
      go (suc n) e = length-derivative F f n e ∙ omega (arith, e)

  pub constant : (f out : List ℕ) → length f ≡ 1 → length out ≡ 1 → set out 0 0 ≡ derivative F f
  unfolding derivative naive_degree
  constant f [] e l = absurd (omega arith)
  constant f (x ∷ []) e l = simp (eq-eqb (length f - 1) 0 (omega arith))
  constant f (x ∷ y ∷ out) e l = absurd (omega arith)

  module _ (f : List ℕ) (n : ℕ) (some : 0 < n) (size : length f ≡ n + 1) where
    derivative-is : derivative F f ≡ tabulate n (λ k. value F (derivative_at F f k))
    unfolding derivative naive_degree
    derivative-is =
        simp (ne_eqb (length f - 1) 0 (λ e. omega arith))
        (ap (λ d. tabulate d (λ k. value F (derivative_at F f k))) (omega arith))

    pub length-is : length (derivative F f) ≡ n
    length-is = ap length derivative-is ∙ length-tabulate n _

    pub word-is : {m : ℕ} → F.p ≡ m → (k d w : ℕ) → k < n → d ≡ (get_or f (k + 1) 0 + (m - get_or f k 0 % m)) % m → w ≡ (n * d) % m
        → w ≡ get_or (derivative F f) k 0
    unfolding derivative_at naive_degree word
    word-is {m} e k d w l hd hw =
        value-is F w (derivative_at F f k) low
        (ap (residue F) (hw ∙ ap (λ q. (n * d) % q) (sym e))
        ∙ residue-mul-mod F n d
        ∙ ap₂ (λ i x. residue F i ⊗ x) degree difference)
        ∙ sym (ap (λ c. get_or c k 0) derivative-is ∙ get_or-tabulate n _ k l)
      where
        low : w < F.p
        low = rw (hw, ← e) (mod-lt (n * d) (positive F))

        degree : n ≡ length f - 1
        degree = omega arith

        difference : residue F d ≡ residue F (get_or f (suc k) 0) ⊕ ⊖ residue F (get_or f k 0)
        difference =
            ap (residue F) (hd ∙ ap (λ q. (get_or f (k + 1) 0 + (q - get_or f k 0 % q)) % q) (sym e))
            ∙ residue-add-mod F _ _
            ∙ ap₂ (λ i x. residue F (get_or f i 0) ⊕ x) (add-one k) (residue-neg F (get_or f k 0))

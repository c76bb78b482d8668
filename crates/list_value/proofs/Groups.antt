-- A sum of g · n terms from n groups of g terms: the sum of each group at x and y, and of the groups at x^g and y^g.
-- Assumes nothing.
use mathlib.Core.Path.{◌≡◌, sym, ◌∙◌, ap, ap₂}
use mathlib.Core.List.{List}
use Prim.Native.Nat.{ℕ, zero, suc, ◌+◌, ◌-◌, ◌*◌}
use native.Mathlib.Nat.{add-zero, mul-zero}
use native.Mathlib.Omega.{arith}
use lib.ListN.{get_or}
use Rattle.algebra.specs.RingLaws as R
use Rattle.algebra.specs.Ring.{CommRing, pow}
use Rattle.algebra.specs.RingLaws.{RING}
use Rattle.algebra.proofs.Ring.{pow-zero, pow-suc, pow-add, pow-mul}
use Rattle.algebra.specs.Sum.{total}
use Rattle.algebra.proofs.Sum.{total-zero, total-snoc, total_ext}
use Rattle.algebra.specs.PrimeField.{PrimeField, scalars, residue}
use Rattle.algebra.proofs.PrimeField.{residue-0, residue-add, residue-mul}
use Rattle.lists.specs.Lists.{word}
use Rattle.list_value.specs.Internal.{partial, power_of, powers_of, weights_of, products_of, groups, Terms}
use Rattle.list_value.proofs.Values.{partial-none, partial-next}
use Rattle.list_value.proofs.Weights.{residue-power, weight_is}

module _ (Rg : CommRing) where
  open Rg use {Carrier, zero as 𝟘, add as ◌⊕◌, mul as ◌⊗◌}

  infixl 65 ◌⊕◌
  infixl 70 ◌⊗◌
  partial-ext : {s t : ℕ → Carrier} {x y x' y' : Carrier} (n : ℕ) → ((j : ℕ) → s j ≡ t j) → x ≡ x' → y ≡ y' → partial Rg s x y n ≡ partial Rg t x' y' n
  unfolding partial
  partial-ext {s} {t} {x} {y} n h e f =
      total_ext Rg n _ _ (λ j l. ap (λ a. a ⊗ pow Rg x j ⊗ pow Rg y (n - 1 - j)) (h j))
      ∙ ap₂ (λ a b. total Rg n (λ j. t j ⊗ pow Rg a j ⊗ pow Rg b (n - 1 - j))) e f

  module _ (s : ℕ → Carrier) (x y : Carrier) where
    -- the first k terms, and g more
    partial-more : (k g : ℕ) → partial Rg s x y (k + g) ≡ partial Rg s x y k ⊗ pow Rg y g ⊕ partial Rg (λ j. s (k + j)) x y g ⊗ pow Rg x k
    partial-more k zero =
        ap (partial Rg s x y) (add-zero k) ∙ sym (ap₂ (λ a b. partial Rg s x y k ⊗ a ⊕ b ⊗ pow Rg x k) (pow-zero Rg y) (partial-none Rg _ x y) ∙ none _ _)
      where
        none : (a b : Carrier) → a ⊗ Rg.one ⊕ 𝟘 ⊗ b ≡ a
        none a b = simp RING
    partial-more k (suc g) =
        ap (partial Rg s x y) (omega arith)
        ∙ partial-next Rg s x y (k + g)
        ∙ ap₂ (λ a b. a ⊗ y ⊕ s (k + g) ⊗ b) (partial-more k g) (pow-add Rg x k g)
        ∙ regroup _ _ _ _ _ _ _
        ∙ sym (ap₂ (λ a b. partial Rg s x y k ⊗ a ⊕ b ⊗ pow Rg x k) (pow-suc Rg y g) (partial-next Rg (λ j. s (k + j)) x y g))
      where
        regroup : (a b c d f u v : Carrier) → (a ⊗ f ⊕ b ⊗ u) ⊗ d ⊕ c ⊗ (u ⊗ v) ≡ a ⊗ (d ⊗ f) ⊕ (b ⊗ d ⊕ c ⊗ v) ⊗ u
        regroup a b c d f u v = simp RING

    grouped : (g n : ℕ) → partial Rg (λ i. partial Rg (λ j. s (g * i + j)) x y g) (pow Rg x g) (pow Rg y g) n ≡ partial Rg s x y (g * n)
    grouped g zero = partial-none Rg _ _ _ ∙ sym (ap (partial Rg s x y) (mul-zero g) ∙ partial-none Rg s x y)
    grouped g (suc n) =
        partial-next Rg _ _ _ n
        ∙ ap₂ (λ a b. a ⊗ pow Rg y g ⊕ partial Rg (λ j. s (g * n + j)) x y g ⊗ b) (grouped g n) (pow-mul Rg x g n)
        ∙ sym (partial-more (g * n) g)
        ∙ ap (partial Rg s x y) (omega arith)

module _ (F : PrimeField) where
  open scalars F use {add as ◌⊕◌, mul as ◌⊗◌}

  infixl 65 ◌⊕◌
  infixl 70 ◌⊗◌
  residue-products : (s : List ℕ) (k : ℕ) (u : List ℕ) (n : ℕ)
      → residue F (products_of s k u n) ≡ total (scalars F) n (λ j. word F s (k + j) ⊗ residue F (get_or u j 0))
  unfolding products_of word
  residue-products s k u zero = residue-0 F ∙ sym (total-zero (scalars F) _)
  residue-products s k u (suc n) =
      residue-add F _ _
      ∙ ap₂ (λ a b. a ⊕ b) (residue-products s k u n) (residue-mul F _ _)
      ∙ sym (total-snoc (scalars F) n (λ j. word F s (k + j) ⊗ residue F (get_or u j 0)))

  -- the sum of one group, as the loop computes it
  pub group-sum : (g : ℕ) (s u : List ℕ) (i : ℕ) {n c : ℕ} → n ≡ g → c ≡ products_of s (g * i) u n → residue F c ≡ groups F g s u i
  unfolding groups
  group-sum g s u i q h = ap (residue F) (h ∙ ap (products_of s (g * i) u) q)

  module _ {m : ℕ} (e : F.p ≡ m) (x y g : ℕ) {u : List ℕ} (h : u ≡ weights_of m g (powers_of F x g) (powers_of F y g)) where
    -- the sum of a group is that of its terms
    group-is : (s : List ℕ) (k : ℕ) → residue F (products_of s k u g) ≡ partial (scalars F) (λ j. word F s (k + j)) (residue F x) (residue F y) g
    unfolding partial
    group-is s k =
        residue-products s k u g
        ∙ total_ext (scalars F) g _ _ (λ j l. ap (λ a. word F s (k + j) ⊗ a) (weight_is F e x y g h j l) ∙ sym (R.mul_assoc (scalars F) _ _ _))

    -- the sum over all groups is that over their words
    pub ungrouped : (s : List ℕ) (c n : ℕ) {xg yg sum power : ℕ} → xg ≡ power_of F x g → yg ≡ power_of F y g
        → Terms F (groups F g s u) xg yg c n sum power → Terms F (word F s) x y c (g * n) sum power
    unfolding groups
    ungrouped s c n {xg} {yg} qx qy t =
        record {
          small = t.small;
          sums =
              t.sums
              ∙ ap (λ a. residue F c ⊗ a)
              (partial-ext (scalars F) n (λ i. group-is s (g * i)) (residue-power F x g qx) (residue-power F y g qy)
              ∙ grouped (scalars F) (word F s) (residue F x) (residue F y) g n);
          powers =
              t.powers
              ∙ ap (λ a. residue F c ⊗ a)
              (ap (λ a. pow (scalars F) a n) (residue-power F x g qx)
              ∙ pow-mul (scalars F) (residue F x) g n);
        }

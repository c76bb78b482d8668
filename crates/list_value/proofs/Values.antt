-- The value of a scaled form, term by term: the sum of s_j · x^j · y^(k-1-j) over j below k, times y, plus s_k · x^k is the sum over j
-- below k + 1, and the same of both times c. Over all words and with y = 1 - x it is the value of the list, where the words times c are its
-- scaled form.
-- Assumes nothing.
use mathlib.Core.Path.{◌≡◌, refl, sym, ◌∙◌, ap, ap₂}
use mathlib.Core.List.{List}
use Prim.Native.Nat.{ℕ, suc, ◌+◌, ◌-◌, ◌*◌, ◌%◌, ◌<◌}
use native.Mathlib.Numerals.{add-one}
use native.Mathlib.Nat.{mod-lt}
use native.Mathlib.Omega.{arith}
use lib.ListN.{length, get_or}
use Rattle.algebra.specs.RingLaws as R
use Rattle.algebra.specs.Ring.{CommRing, pow}
use Rattle.algebra.specs.RingLaws.{RING}
use Rattle.algebra.proofs.Ring.{pow-zero, pow-suc, pow-next}
use Rattle.algebra.specs.Sum.{total}
use Rattle.algebra.proofs.Sum.{total-zero, total-snoc, total_ext, total-mul}
use Rattle.algebra.specs.PrimeField.{PrimeField, positive, scalars, residue, value}
use Rattle.algebra.proofs.PrimeField.{residue-0, residue-1, residue-add-mod, residue-mul, residue-mul-mod, residue-neg}
use Rattle.field.specs.Fields.{modulus, longest, word_inverse, square, field_at}
use Rattle.field.proofs.Fields.{p-at, longest-in}
use Rattle.field_tables.specs.Factorials.{Tables}
use Rattle.lists.specs.Refused.{IsList}
use Rattle.lists.specs.Degrees.{naive_degree}
use Rattle.lists.specs.Lists.{word, scaled_coefficient}
use Rattle.lists.specs.Operations.{evaluate_at, evaluate}
use Rattle.lists.proofs.Words.{value-is}
use Rattle.word_scaling.specs.Scaling.{partly_weighted}
use Rattle.word_scaling.proofs.Products.{constants, squares}
use Rattle.word_scaling.proofs.Weights.{length-partly, partly-scaled}
use Rattle.list_value.specs.Internal.{partial, homogeneous_of, Terms}

module _ (Rg : CommRing) where
  open Rg use {Carrier, zero as 𝟘, add as ◌⊕◌, mul as ◌⊗◌}

  infixl 65 ◌⊕◌
  infixl 70 ◌⊗◌
  module _ (s : ℕ → Carrier) (x y : Carrier) where
    pub partial-none : partial Rg s x y 0 ≡ 𝟘
    unfolding partial
    partial-none = total-zero Rg _

    pub partial-next : (k : ℕ) → partial Rg s x y (suc k) ≡ partial Rg s x y k ⊗ y ⊕ s k ⊗ pow Rg x k
    unfolding partial
    partial-next k = total-snoc Rg k _ ∙ ap₂ (λ a b. a ⊕ b) (total_ext Rg k _ _ earlier ∙ sym (total-mul Rg k _ y)) last
      where
        regroup : (a b c d : Carrier) → a ⊗ b ⊗ (d ⊗ c) ≡ a ⊗ b ⊗ c ⊗ d
        regroup a b c d = simp RING

        earlier : (j : ℕ) → j < k → s j ⊗ pow Rg x j ⊗ pow Rg y (suc k - 1 - j) ≡ s j ⊗ pow Rg x j ⊗ pow Rg y (k - 1 - j) ⊗ y
        earlier j l =
            ap (λ i. s j ⊗ pow Rg x j ⊗ pow Rg y i) more
            ∙ ap (λ a. s j ⊗ pow Rg x j ⊗ a) (pow-suc Rg y (k - 1 - j))
            ∙ regroup (s j) (pow Rg x j) (pow Rg y (k - 1 - j)) y
          where
            more : suc k - 1 - j ≡ suc (k - 1 - j)
            more = omega arith

        last : s k ⊗ pow Rg x k ⊗ pow Rg y (suc k - 1 - k) ≡ s k ⊗ pow Rg x k
        last = ap (λ i. s k ⊗ pow Rg x k ⊗ pow Rg y i) none ∙ ap (λ a. s k ⊗ pow Rg x k ⊗ a) (pow-zero Rg y) ∙ R.mul-one Rg _
          where
            none : suc k - 1 - k ≡ 0
            none = omega arith

module _ (F : PrimeField) where
  open scalars F use {mul as ◌⊗◌}

  infixl 70 ◌⊗◌
  pub terms-start : (w : ℕ → (scalars F).Carrier) (x y c : ℕ) → Terms F w x y c 0 0 c
  terms-start w x y c =
      record {
        small = positive F;
        sums = residue-0 F ∙ sym (ap (λ a. residue F c ⊗ a) (partial-none (scalars F) w _ _) ∙ R.mul-zero (scalars F) _);
        powers = sym (ap (λ a. residue F c ⊗ a) (pow-zero (scalars F) _) ∙ R.mul-one (scalars F) _);
      }

  pub terms-end : (s : List ℕ) (x y c : ℕ) {k sum power : ℕ} → k ≡ length s → Terms F (word F s) x y c k sum power → sum ≡ homogeneous_of F s x y c
  unfolding homogeneous_of
  terms-end s x y c {k} {sum} q t =
      value-is F sum _ t.small (t.sums ∙ ap (λ n. residue F c ⊗ partial (scalars F) (word F s) (residue F x) (residue F y) n) q)

module _ (F : PrimeField) {m : ℕ} (e : F.p ≡ m) where
  open scalars F use {Carrier as K, one as 𝟙, neg as ⊖◌, add as ◌⊕◌, mul as ◌⊗◌}

  infixl 65 ◌⊕◌
  infixl 70 ◌⊗◌
  infix 80 ⊖◌
  residue-two : (a b c d : ℕ) {v : ℕ} → v ≡ (a * b + c * d) % m → residue F v ≡ residue F a ⊗ residue F b ⊕ residue F c ⊗ residue F d
  residue-two a b c d q =
      ap (residue F) (q ∙ ap (λ n. (a * b + c * d) % n) (sym e)) ∙ residue-add-mod F _ _ ∙ ap₂ (λ u v. u ⊕ v) (residue-mul F a b) (residue-mul F c d)

  pub residue-times : (a b : ℕ) {v : ℕ} → v ≡ (a * b) % m → residue F v ≡ residue F a ⊗ residue F b
  residue-times a b q = ap (residue F) (q ∙ ap (λ n. (a * b) % n) (sym e)) ∙ residue-mul-mod F a b

  -- one term more
  pub terms-next : (w : ℕ → (scalars F).Carrier) (x y c k v : ℕ) {sum power sum' power' : ℕ} → Terms F w x y c k sum power → residue F v ≡ w k
      → sum' ≡ (sum * y + v * power) % m → power' ≡ (power * x) % m → Terms F w x y c (k + 1) sum' power'
  terms-next w x y c k v {sum} {power} t h q r =
      record {
        small = rw e (rw q (mod-lt (sum * y + v * power) (omega (arith, t.small, e))));
        sums =
            residue-two sum y v power q
            ∙ ap₂ (λ a b. a ⊗ residue F y ⊕ b) t.sums (ap₂ (λ a b. a ⊗ b) h t.powers)
            ∙ factor (residue F c) _ (residue F y) _ _
            ∙ sym (ap (λ a. residue F c ⊗ a) (partial-next (scalars F) w _ _ k))
            ∙ ap (λ n. residue F c ⊗ partial (scalars F) w (residue F x) (residue F y) n) (sym (add-one k));
        powers =
            residue-times power x r
            ∙ ap (λ a. a ⊗ residue F x) t.powers
            ∙ R.mul_assoc (scalars F) _ _ _
            ∙ ap (λ a. residue F c ⊗ a) (pow-next (scalars F) (residue F x) k);
      }
    where
      factor : (c a y b d : K) → c ⊗ a ⊗ y ⊕ b ⊗ (c ⊗ d) ≡ c ⊗ (a ⊗ y ⊕ b ⊗ d)
      factor c a y b d = simp RING

  -- one word more
  pub word_next : (s : List ℕ) (x y c k v : ℕ) {j sum power sum' power' : ℕ} → Terms F (word F s) x y c k sum power → v ≡ get_or s k 0
      → sum' ≡ (sum * y + v * power) % m → power' ≡ (power * x) % m → j ≡ k + 1 → Terms F (word F s) x y c j sum' power'
  unfolding word
  word_next s x y c k v t h q r i = rw i (terms-next (word F s) x y c k v t (ap (residue F) h) q r)

  -- of words that times c are the scaled form of a list, at x and 1 - x
  pub evaluated : (f form : List ℕ) (x c : ℕ) {y : ℕ} → length form ≡ length f
      → ((k : ℕ) → k < length f → residue F c ⊗ residue F (get_or form k 0) ≡ scaled_coefficient F f k) → y ≡ (1 + (m - x % m)) % m
      → homogeneous_of F form x y c ≡ evaluate F f x
  unfolding homogeneous_of evaluate evaluate_at partial naive_degree word
  evaluated f form x c {y} n h q =
      ap (value F)
      (R.mul_comm (scalars F) _ _
      ∙ total-mul (scalars F) (length form) _ (residue F c)
      ∙ ap (λ i. total (scalars F) i (λ j. residue F (get_or form j 0) ⊗ pow (scalars F) (residue F x) j ⊗ pow (scalars F) (residue F y) (i - 1 - j) ⊗ residue F c)) n
      ∙ total_ext (scalars F) (length f) _ _ same)
    where
      other : residue F y ≡ 𝟙 ⊕ ⊖ residue F x
      other =
          ap (residue F) (q ∙ ap (λ n. (1 + (n - x % n)) % n) (sym e))
          ∙ residue-add-mod F _ _
          ∙ ap₂ (λ a b. a ⊕ b) (residue-1 F) (residue-neg F x)

      first : (s a b c : K) → s ⊗ a ⊗ b ⊗ c ≡ c ⊗ s ⊗ a ⊗ b
      first s a b c = simp RING

      same : (j : ℕ) → j < length f
          → residue F (get_or form j 0) ⊗ pow (scalars F) (residue F x) j ⊗ pow (scalars F) (residue F y) (length f - 1 - j) ⊗ residue F c
          ≡ scaled_coefficient F f j ⊗ pow (scalars F) (residue F x) j ⊗ pow (scalars F) (𝟙 ⊕ ⊖ residue F x) (length f - 1 - j)
      same j l =
          first (residue F (get_or form j 0)) (pow (scalars F) (residue F x) j) (pow (scalars F) (residue F y) (length f - 1 - j)) (residue F c)
          ∙ ap₂ (λ a b. a ⊗ pow (scalars F) (residue F x) j ⊗ pow (scalars F) b (length f - 1 - j)) (h j l) other

-- of what `weigh_partly` writes, with c the last factorial times 2^32
pub partly-evaluated : (k : ℕ) {whole part : List ℕ} → Tables (field_at k) (longest k) whole part → (f : List ℕ) → IsList (modulus k) (longest k) f
    → (form : List ℕ) (x c n q : ℕ) {y : ℕ} → n ≡ length f → form ≡ partly_weighted (modulus k) (word_inverse k) part n f → q ≡ square k
    → c ≡ (get_or whole (length f - 1) 0 * q) % modulus k → y ≡ (1 + (modulus k - x % modulus k)) % modulus k
    → homogeneous_of (field_at k) form x y c ≡ evaluate (field_at k) f x
partly-evaluated k {whole} {part} t f l form x c n q {y} size is two factor other =
    ap (λ s. homogeneous_of (field_at k) s x y c) (is ∙ ap (λ i. partly_weighted (modulus k) (word_inverse k) part i f) size)
    ∙ evaluated (field_at k) (p-at k) f (partly_weighted (modulus k) (word_inverse k) part (length f) f) x c
    (length-partly (modulus k) (word_inverse k) part (length f) f)
    (partly-scaled (field_at k) (p-at k) (longest k) (longest-in k) whole part t (square k) (constants k) (squares k) f (length f) refl l.short scale)
    other
  where
    scale : c ≡ (get_or whole (length f - 1) 0 * square k) % modulus k
    scale = factor ∙ ap (λ i. (get_or whole (length f - 1) 0 * i) % modulus k) two

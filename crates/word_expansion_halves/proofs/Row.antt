-- The words of a power of 1 + t or 1 - t: binomial coefficients with their signs.
--     signs-length, signs-at              how many signs there are, and each of them
--     sign_zero, sign-suc, sign-next      the first sign, and the one after another
--     sign-inside, sign_fits              a sign is above 0 and below p
-- Theorems:
--     coeff-power     coefficient k of (1 + m·t)^n is m^k · C(n,k)
--     row_carries     the scaled form of n + 1 signs has the words of (1 ± t)^n
--     row-is, series_of-power_row     these are `power_row`, which stands for the power
--     row-weighed     so are the signs, weighed with tables of factorials
-- Assumes nothing.
use mathlib.Core.Path.{◌≡◌, refl, sym, ◌∙◌, ap, ap₂, subst}
use mathlib.Core.Bool.{Bool, true, false}
use mathlib.Core.List.{List}
use Prim.Native.Nat.{ℕ, zero, suc, ◌+◌, ◌-◌, ◌≤◌, ◌<◌}
use native.Mathlib.Decide.{dec_lt}
use native.Mathlib.Numerals.{add-one}
use native.Mathlib.Omega.{arith}
use lib.ListN.{length, get_or}
use Rattle.algebra.specs.RingLaws as R
use Rattle.algebra.specs.Ring.{pow}
use Rattle.algebra.specs.RingLaws.{RING}
use Rattle.algebra.proofs.Ring.{pow-zero, pow-suc}
use Rattle.algebra.proofs.Series.{ext, coeff-1_zero, coeff-1_suc, coeff-t-mul-zero, coeff-t-mul-suc}
use Rattle.algebra.proofs.Choose.{choose-zero, choose-0-suc, pascal}
use Rattle.algebra.specs.PrimeField.{PrimeField, scalars, residue}
use Rattle.algebra.proofs.PrimeField.{residue-0, residue-1, residue-add}
use Rattle.lists.specs.Degrees.{naive_degree}
use Rattle.lists.specs.Lists.{word, binomial, scaled}
use Rattle.lists.proofs.Scaled.{binomial-above, coeff-scaled-at}
use Rattle.lists.proofs.Tabulate.{length-tabulate, get_or-tabulate, tabulated}
use Rattle.lists.proofs.Words.{Carries, scaled_words, length-scaled_words, carries-scaled, series_of-carries, value-is}
use Rattle.lists.specs.Words.{series_of}
use Rattle.field.specs.Fields.{modulus, field_at}
use Rattle.field.proofs.Fields.{p-at, modulus-half, longest-in}
use Rattle.field_tables.specs.Factorials.{TablesFor}
use Rattle.word_scaling.specs.Scaling.{weighed_into}
use Rattle.word_scaling.proofs.Weights.{scale-is}
use Rattle.word_expansion.specs.Expansion.{signed}
use Rattle.word_expansion.proofs.Horner.{sign, residue-signed, coeff-factor}
use Rattle.word_expansion_halves.specs.Halves.{sign_at, signs, base, power_row}
use Rattle.word_expansion_halves.proofs.Split.{factor, base-is}

module _ (p : ℕ) (plus : Bool) where
  pub signs-length : (n : ℕ) → length (signs p plus n) ≡ n
  unfolding signs
  signs-length n = length-tabulate n _

  pub signs-at : (n k : ℕ) → k < n → get_or (signs p plus n) k 0 ≡ sign_at p plus k
  unfolding signs
  signs-at n k l = get_or-tabulate n _ k l

  pub sign_zero : sign_at p plus 0 ≡ 1
  unfolding sign_at
  sign_zero = refl

  pub sign-suc : (k : ℕ) → sign_at p plus (suc k) ≡ signed p plus (sign_at p plus k)
  unfolding sign_at
  sign-suc k = refl

  pub sign-next : (k : ℕ) {v w : ℕ} → v ≡ sign_at p plus k → w ≡ signed p plus v → w ≡ sign_at p plus (k + 1)
  sign-next k e f = f ∙ ap (signed p plus) e ∙ sym (sign-suc k) ∙ ap (sign_at p plus) (sym (add-one k))

signed-inside : (p b : ℕ) (plus : Bool) → 0 < b → b < p → (0 < signed p plus b) × (signed p plus b < p)
unfolding signed
signed-inside p b true l h = (l, h)
signed-inside p b false l h = (omega arith, omega arith)

-- every sign is 1 or p - 1
pub sign-inside : (p : ℕ) (plus : Bool) → 1 < p → (k : ℕ) → (0 < sign_at p plus k) × (sign_at p plus k < p)
sign-inside p plus l zero = rw (sign_zero p plus) (omega arith, l)
sign-inside p plus l (suc k) =
    let before = sign-inside p plus l k in
    rw (sign-suc p plus k) (signed-inside p (sign_at p plus k) plus before.0 before.1)

pub sign_fits : (p : ℕ) (plus : Bool) → 1 < p → (k : ℕ) {v : ℕ} → v ≡ sign_at p plus k → v ≤ p
sign_fits p plus l k e = let inside = sign-inside p plus l k in omega (arith, inside.1, e)

module _ (F : PrimeField) where
  open scalars F use {Carrier as K, zero as 𝟘, one as 𝟙, add as ◌⊕◌, mul as ◌⊗◌}

  infixl 65 ◌⊕◌
  infixl 70 ◌⊗◌
  abbrev pow_k : K → ℕ → K
  pow_k m k = pow (scalars F) m k

  abbrev pow_s : K → ℕ → F.series.ring.Carrier
  pow_s m n = pow F.series.ring (factor F m) n

  pub coeff-power : (m : K) (n k : ℕ) → F.series.coeff (pow_s m n) k ≡ pow_k m k ⊗ binomial F n k
  unfolding binomial
  coeff-power m zero zero =
      ap (λ s. F.series.coeff s 0) (pow-zero F.series.ring _) ∙ coeff-1_zero F.series
      ∙ sym (ap₂ (λ u v. u ⊗ v) (pow-zero (scalars F) m) (ap (residue F) (choose-zero 0) ∙ residue-1 F) ∙ R.mul-one (scalars F) _)
  coeff-power m zero (suc k) =
      ap (λ s. F.series.coeff s (suc k)) (pow-zero F.series.ring _) ∙ coeff-1_suc F.series k
      ∙ sym (ap (λ v. pow_k m (suc k) ⊗ v) (ap (residue F) (choose-0-suc k) ∙ residue-0 F) ∙ R.mul-zero (scalars F) _)
  coeff-power m (suc n) zero =
      ap (λ s. F.series.coeff s 0) (pow-suc F.series.ring _ n) ∙ coeff-factor F m (pow_s m n) 0
      ∙ ap₂ (λ u v. u ⊕ m ⊗ v) (coeff-power m n 0) (coeff-t-mul-zero F.series _)
      ∙ ap (λ v. pow_k m 0 ⊗ v ⊕ m ⊗ 𝟘) (ap (residue F) (choose-zero n ∙ sym (choose-zero (suc n)))) ∙ none _ _
    where
      none : (a b : K) → a ⊕ b ⊗ 𝟘 ≡ a
      none a b = simp RING
  coeff-power m (suc n) (suc k) =
      ap (λ s. F.series.coeff s (suc k)) (pow-suc F.series.ring _ n) ∙ coeff-factor F m (pow_s m n) (suc k)
      ∙ ap₂ (λ u v. u ⊕ m ⊗ v) (coeff-power m n (suc k)) (coeff-t-mul-suc F.series _ k ∙ coeff-power m n k)
      ∙ ap (λ u. u ⊗ binomial F n (suc k) ⊕ m ⊗ (pow_k m k ⊗ binomial F n k)) (pow-suc (scalars F) m k)
      ∙ collect m (pow_k m k) (binomial F n k) (binomial F n (suc k))
      ∙ ap₂ (λ u v. u ⊗ v) (sym (pow-suc (scalars F) m k)) (sym (ap (residue F) (pascal n k) ∙ residue-add F _ _))
    where
      collect : (m q a b : K) → m ⊗ q ⊗ b ⊕ m ⊗ (q ⊗ a) ≡ m ⊗ q ⊗ (a ⊕ b)
      collect m q a b = simp RING

  pub length-power_row : (plus : Bool) (n : ℕ) → length (power_row F plus n) ≡ suc n
  unfolding power_row
  length-power_row plus n = length-tabulate (suc n) _

  module _ (plus : Bool) (big : 1 < F.p) where
    residue-sign : (k : ℕ) → residue F (sign_at F.p plus k) ≡ pow_k (sign F plus) k
    residue-sign zero = ap (residue F) (sign_zero F.p plus) ∙ residue-1 F ∙ sym (pow-zero (scalars F) _)
    residue-sign (suc k) =
        ap (residue F) (sign-suc F.p plus k) ∙ residue-signed F plus _ (sign-inside F.p plus big k).1
        ∙ ap (λ u. sign F plus ⊗ u) (residue-sign k) ∙ sym (pow-suc (scalars F) (sign F plus) k)

    signs-power : (n : ℕ) → scaled F (signs F.p plus (suc n)) ≡ pow F.series.ring (base F plus) n
    unfolding naive_degree word
    signs-power n =
        ext F.series _ _ (λ k. coeff-scaled-at F n (signs F.p plus (suc n)) k degree ∙ go k (dec_lt k (suc n)) ∙ sym (coeff-power (sign F plus) n k))
        ∙ ap (λ u. pow F.series.ring u n) (sym (base-is F plus))
      where
        degree : naive_degree (signs F.p plus (suc n)) ≡ n
        degree = ap (λ i. i - 1) (signs-length F.p plus (suc n)) ∙ omega arith

        go : (k : ℕ) → Dec (k < suc n) → word F (signs F.p plus (suc n)) k ⊗ binomial F n k ≡ pow_k (sign F plus) k ⊗ binomial F n k
        go k (yes l) = ap (λ u. u ⊗ binomial F n k) (ap (residue F) (signs-at F.p plus (suc n) k l) ∙ residue-sign k)
        go k (no l) =
            let none = binomial-above F n k (omega arith) in
            ap (λ u. word F (signs F.p plus (suc n)) k ⊗ u) none ∙ R.mul-zero (scalars F) _
            ∙ sym (ap (λ u. pow_k (sign F plus) k ⊗ u) none ∙ R.mul-zero (scalars F) _)

    pub row_carries : (n : ℕ) → Carries F (scaled_words F (signs F.p plus (suc n))) (pow F.series.ring (base F plus) n)
    row_carries n = subst (Carries F (scaled_words F (signs F.p plus (suc n)))) (signs-power n) (carries-scaled F (signs F.p plus (suc n)))

    pub row-is : (n : ℕ) → scaled_words F (signs F.p plus (suc n)) ≡ power_row F plus n
    unfolding power_row
    row-is n =
        let c = row_carries n in
        tabulated _ (suc n) _ (length-scaled_words F _ ∙ signs-length F.p plus (suc n)) (λ k l. value-is F _ _ (c.below k) (c.at k))

    pub series_of-power_row : (n : ℕ) → series_of F (power_row F plus n) ≡ pow F.series.ring (base F plus) n
    series_of-power_row n = ap (series_of F) (sym (row-is n)) ∙ series_of-carries F (row_carries n)

pub row-weighed : (k : ℕ) (plus : Bool) {whole part : List ℕ} → TablesFor k whole part → (sign out : List ℕ) {row : List ℕ} → 0 < length out → length out ≤ length whole
    → sign ≡ signs (modulus k) plus (length out) → row ≡ weighed_into (modulus k) sign whole part out → row ≡ power_row (field_at k) plus (length out - 1)
row-weighed k plus {whole} {part} t sign out some short e q =
    let F = field_at k in
    let size : length sign ≡ length out = ap length e ∙ signs-length (modulus k) plus (length out) in
    let more : length out ≡ suc (length out - 1) = omega arith in
    scale-is F (p-at k) (length whole) (omega (arith, t.few, longest-in k)) whole part t.tables sign out (sym size) (omega arith) q
    ∙ ap (scaled_words F) (e ∙ ap₂ (λ p n. signs p plus n) (sym (p-at k)) more)
    ∙ row-is F plus (omega (arith, p-at k, modulus-half k)) (length out - 1)

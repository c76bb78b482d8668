-- Montgomery's products as products in the field.
--     halves                the two high halves that Montgomery's product is made of
--     below-zero, not-below     their difference modulo p, by words that wrap
--     Constants p e u w     e is 1/p modulo 2^16, u is 1/2^16 modulo p, and w is 2^64 modulo p
--     part_of k             1/2^16 modulo p of field k
--     constants             field k has these constants
--     product-of-four       the product of four words, by Montgomery's products of each and the one before
--     squares               2^32 undoes two divisions by 2^16
--     product-of-three      three words, by two of Montgomery's products, times a fourth and 2^32: the product of the four
-- Assumes nothing.
use Rattle.std.proofs.Common.{◌≡◌, ℕ, zero, suc, ◌+◌, ◌-◌, ◌*◌, ◌/◌, ◌%◌, ◌<◌, ◌≤◌, sym, refl, ap, ◌∙◌, subst, ap₂, le_refl, le_of_lt, mod-eq_of_lt, arith}
use Rattle.algebra.specs.RingLaws as R
use Rattle.algebra.specs.RingLaws.{Ac}
use Rattle.algebra.specs.PrimeField.{PrimeField, scalars, positive, residue}
use Rattle.algebra.proofs.PrimeField.{residue-1, residue-mul, residue-mul-mod, residue-eq, residue-injective}
use Rattle.field.specs.Fields.{modulus, word_inverse, square, fourth}
use Rattle.word_montgomery.specs.Montgomery.{montgomery, multiplier}
use Rattle.word_montgomery.proofs.Words.{high-below, sub-less, sub_more}
use Rattle.word_montgomery.proofs.Montgomery.{montgomery-rule, montgomery-below}
use Rattle.word_scaling.specs.Scaling.{partly}

-- the two high halves that Montgomery's product is made of
pub halves : (p e x y : ℕ) {h l m t : ℕ} → x < 65536 → y < p → h ≡ x * y / 65536 → l ≡ x * y % 65536 → m ≡ l * e % 65536 → t ≡ m * p / 65536
    → (h < p) × (t < p) × ((h + (p - t)) % p ≡ montgomery p e x y)
unfolding montgomery multiplier
halves p e x y {m = m} lx ly eh el em et = (
  rw eh (high-below x lx (le_of_lt ly) (omega arith)),
  rw et (high-below m (omega arith) (le_refl p) (omega arith)),
  ap₂ (λ h t. (h + (p - t)) % p) eh (et ∙ ap (λ q. q * p / 65536) (em ∙ ap (λ l. l * e % 65536) el)),
)

-- h less t modulo p, by differences that wrap
module _ (p h t : ℕ) (lh : h < p) (lt : t < p) (lp : p < 65536) where
  pub below-zero : (p + (65536 - t)) % 65536 < (p + (65536 - h)) % 65536 → ((h + (65536 - t)) % 65536 + p) % 65536 ≡ (h + (p - t)) % p
  below-zero l =
      let g : h < t = omega arith in
      let e : ((h + (65536 - t)) % 65536 + p) % 65536 ≡ h + p - t = omega arith in
      e ∙ sub-less h t p g (omega arith)

  pub not-below : (p + (65536 - h)) % 65536 ≤ (p + (65536 - t)) % 65536 → (h + (65536 - t)) % 65536 ≡ (h + (p - t)) % p
  not-below l =
      let g : t ≤ h = omega arith in
      let e : (h + (65536 - t)) % 65536 ≡ h - t = omega arith in
      e ∙ sub_more h t p g lh

-- e is 1/p modulo 2^16, u is 1/2^16 modulo p, and w is 2^64 modulo p
pub record Constants (p e u w : ℕ) : Type 0 where
  pub inverse : p * e % 65536 ≡ 1
  pub part : (65536 * u) % p ≡ 1 % p
  pub lift : (w * u * u * u * u) % p ≡ 1 % p

-- 1/2^16 modulo p
unfoldable pub part_of : ℕ → ℕ
part_of zero = 61153
part_of (suc zero) = 61665
part_of (suc (suc k)) = 28550

pub constants : (k : ℕ) → Constants (modulus k) (word_inverse k) (part_of k) (fourth k)
unfolding modulus word_inverse fourth part_of
constants zero = record { inverse = refl; part = refl; lift = refl }
constants (suc zero) = record { inverse = refl; part = refl; lift = refl }
constants (suc (suc k)) = record { inverse = refl; part = refl; lift = refl }

pub constants-of : (k : ℕ) {p e w : ℕ} → p ≡ modulus k → e ≡ word_inverse k → w ≡ fourth k → Constants p e (part_of k) w
constants-of k a b c = rw (a, b, c) (constants k)

pub squares : (k : ℕ) → (square k * part_of k * part_of k) % modulus k ≡ 1 % modulus k
unfolding modulus square part_of
squares zero = refl
squares (suc zero) = refl
squares (suc (suc k)) = refl

module _ (F : PrimeField) {e u w : ℕ} (c : Constants F.p e u w) where
  open scalars F use {Carrier as K, one as 𝟙, mul as ◌⊗◌}

  infixl 70 ◌⊗◌
  divided : (x y : ℕ) → residue F (montgomery F.p e x y) ≡ residue F x ⊗ residue F y ⊗ residue F u
  divided x y =
      sym (R.mul-one (scalars F) _)
      ∙ ap (λ z. residue F (montgomery F.p e x y) ⊗ z) (sym unit)
      ∙ sym (R.mul_assoc (scalars F) _ (residue F 65536) (residue F u))
      ∙ ap (λ z. z ⊗ residue F u)
      (sym (residue-mul F (montgomery F.p e x y) 65536) ∙ residue-eq F _ _ (montgomery-rule F.p e x y c.inverse) ∙ residue-mul F x y)
    where
      unit : residue F 65536 ⊗ residue F u ≡ 𝟙
      unit = sym (residue-mul F 65536 u) ∙ residue-eq F (65536 * u) 1 c.part ∙ residue-1 F

  lifted : residue F w ⊗ residue F u ⊗ residue F u ⊗ residue F u ⊗ residue F u ≡ 𝟙
  lifted =
      sym (residue-mul F (w * u * u * u) u ∙ rw (residue-mul F (w * u * u) u, residue-mul F (w * u) u, residue-mul F w u) refl)
      ∙ residue-eq F (w * u * u * u * u) 1 c.lift ∙ residue-1 F

  four : (x d a b : ℕ) → montgomery F.p e b (montgomery F.p e a (montgomery F.p e x (montgomery F.p e d w))) ≡ (x * d * a * b) % F.p
  four x d a b =
      sym (mod-eq_of_lt (montgomery-below F.p e b _ (positive F)))
      ∙ residue-injective F _ (x * d * a * b)
      (rw (divided b _, divided a _, divided x _, divided d w, residue-mul F (x * d * a) b, residue-mul F (x * d) a, residue-mul F x d)
      (regroup (residue F x) (residue F d) (residue F a) (residue F b) (residue F w) (residue F u)
      ∙ ap (λ z. residue F x ⊗ residue F d ⊗ residue F a ⊗ residue F b ⊗ z) lifted
      ∙ R.mul-one (scalars F) _))
    where
      regroup : (x d a b w u : K) → b ⊗ (a ⊗ (x ⊗ (d ⊗ w ⊗ u) ⊗ u) ⊗ u) ⊗ u ≡ x ⊗ d ⊗ a ⊗ b ⊗ (w ⊗ u ⊗ u ⊗ u ⊗ u)
      regroup x d a b w u = simp Ac

  three : (q : ℕ) → (q * u * u) % F.p ≡ 1 % F.p → (x d a b : ℕ)
      → residue F ((d * q) % F.p) ⊗ residue F (partly F.p e x a b) ≡ residue F x ⊗ (residue F d ⊗ residue F a ⊗ residue F b)
  unfolding partly
  three q h x d a b =
      ap₂ (λ y z. y ⊗ z) (residue-mul-mod F d q) (divided b _ ∙ ap (λ z. residue F b ⊗ z ⊗ residue F u) (divided a x))
      ∙ regroup (residue F x) (residue F d) (residue F a) (residue F b) (residue F q) (residue F u)
      ∙ ap (λ z. residue F x ⊗ (residue F d ⊗ residue F a ⊗ residue F b) ⊗ z) unit
      ∙ R.mul-one (scalars F) _
    where
      regroup : (x d a b q u : K) → d ⊗ q ⊗ (b ⊗ (a ⊗ x ⊗ u) ⊗ u) ≡ x ⊗ (d ⊗ a ⊗ b) ⊗ (q ⊗ u ⊗ u)
      regroup x d a b q u = simp Ac

      unit : residue F q ⊗ residue F u ⊗ residue F u ≡ 𝟙
      unit = sym (residue-mul F (q * u) u ∙ ap (λ z. z ⊗ residue F u) (residue-mul F q u)) ∙ residue-eq F (q * u * u) 1 h ∙ residue-1 F

-- the product of four words, by Montgomery's products of each and the one before
pub product-of-four : (F : PrimeField) {m e u w : ℕ} → F.p ≡ m → Constants m e u w → (x d a b : ℕ) {c xc xca r : ℕ}
    → c ≡ montgomery m e d w → xc ≡ montgomery m e x c → xca ≡ montgomery m e a xc → r ≡ montgomery m e b xca → r ≡ (x * d * a * b) % m
product-of-four F {m} {e} {u} {w} q o x d a b first second third last =
    last ∙ ap (montgomery m e b) (third ∙ ap (montgomery m e a) (second ∙ ap (montgomery m e x) first))
    ∙ ap (λ p. montgomery p e b (montgomery p e a (montgomery p e x (montgomery p e d w)))) (sym q)
    ∙ four F (subst (λ p. Constants p e u w) (sym q) o) x d a b
    ∙ ap (λ p. (x * d * a * b) % p) q

-- three words, by two of Montgomery's products, times a fourth and q, which is 2^32
module _ (F : PrimeField) {m e u w : ℕ} (q : ℕ) (same : F.p ≡ m) (o : Constants m e u w) (h : (q * u * u) % m ≡ 1 % m) where
  open scalars F use {mul as ◌⊗◌}

  infixl 70 ◌⊗◌
  pub product-of-three : (x d a b : ℕ) {c : ℕ} → c ≡ (d * q) % m
      → residue F c ⊗ residue F (partly m e x a b) ≡ residue F x ⊗ (residue F d ⊗ residue F a ⊗ residue F b)
  product-of-three x d a b is =
      ap (λ y. residue F y ⊗ residue F (partly m e x a b)) is
      ∙ ap (λ p. residue F ((d * q) % p) ⊗ residue F (partly p e x a b)) (sym same)
      ∙ three F (subst (λ p. Constants p e u w) (sym same) o) q (subst (λ p. (q * u * u) % p ≡ 1 % p) (sym same) h) x d a b

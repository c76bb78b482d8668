-- What the words mean that the loops leave: for every prime field, series by Horner's rule.
--     sign, residue-signed          the sign of t, and a word with it
--     less-t, plus-t                1 - t and 1 + t are 1 + m·t with m the sign
--     coeff-factor                  a factor 1 + m·t, by coefficients
--     power-monomial                t^k times a constant is a monomial
--     Horner m s T                  T k is the sum of s_j · t^j · (1 + m·t)^(k-j) over j from 0 to k
--     horner-hom, horner-form       so are homogenisations with 1 - t, and forms with 1 + t
-- Theorems:
--     expanded-horner     the words of a series s, expanded, are those of the last T
--     expanded-hom        with 1 - t that is the homogenisation of s
--     expanded-form       with 1 + t that is the form of s
-- Assumes nothing.
use mathlib.Core.Path.{◌≡◌, sym, ◌∙◌, ap, ap₂}
use mathlib.Core.Bool.{Bool, true, false, cond}
use mathlib.Core.List.{List, ◌∷◌}
use Prim.Native.Nat.{ℕ, zero, suc, ◌-◌, ◌≤◌, ◌<◌}
use native.Mathlib.Nat.{mod-eq_of_lt}
use native.Mathlib.Decide.{dec_lt}
use native.Mathlib.Omega.{arith}
use lib.ListN.{length, get_or}
use Rattle.algebra.specs.RingLaws as R
use Rattle.algebra.specs.Ring.{pow}
use Rattle.algebra.specs.RingLaws.{RING}
use Rattle.algebra.proofs.Ring.{pow-zero, pow-suc}
use Rattle.algebra.specs.Series.{C, t}
use Rattle.algebra.proofs.Series.{coeff-add, coeff-C-zero, C-one, coeff-C-mul, coeff-t-mul-zero, coeff-t-mul-suc}
use Rattle.algebra.specs.Polynomial.{Below, monomial}
use Rattle.algebra.proofs.Polynomial.{coeff-monomial}
use Rattle.algebra.proofs.Division.{coeff-monomial-low}
use Rattle.algebra.specs.OneMinusT.{⟨1-t⟩}
use Rattle.algebra.specs.Substitute.{⟨1+u⟩}
use Rattle.algebra.specs.Homogenise.{hom}
use Rattle.algebra.proofs.Homogenise.{hom-zero, hom-snoc, C-neg}
use Rattle.algebra.specs.PrimeField.{PrimeField, scalars, residue}
use Rattle.algebra.proofs.PrimeField.{residue-0, residue-neg, residue-add-mod}
use Rattle.lists.proofs.Words.{Carries, carries-below}
use Rattle.lists.specs.Words.{Tight}
use Rattle.ordinary_theory.specs.Form.{form}
use Rattle.ordinary_theory.proofs.Form.{below-hom, form-zero, form-snoc, below-form}
use Rattle.word_expansion.specs.Expansion.{signed, expanded_to, expanded}
use Rattle.word_expansion.proofs.Loops.{before-below, stepped, stepped-low, stepped-high, tight-stepped, expanded_to-zero, expanded_to-suc, length-expanded_to}

module _ (F : PrimeField) where
  open scalars F use {Carrier as K, one as 𝟙, neg as ⊖◌, add as ◌⊕◌, mul as ◌⊗◌}

  infixl 65 ◌⊕◌
  infixl 70 ◌⊗◌
  infix 80 ⊖◌
  open F.series.ring use {Carrier as S, one as 1ˢ, neg as -ˢ◌, add as ◌+ˢ◌, mul as ◌*ˢ◌}

  infixl 65 ◌+ˢ◌
  infixl 70 ◌*ˢ◌
  infix 80 -ˢ◌
  -- the sign of t
  abbrev pub sign : Bool → K
  sign plus = cond plus 𝟙 (⊖ 𝟙)

  pub residue-signed : (plus : Bool) (b : ℕ) → b < F.p → residue F (signed F.p plus b) ≡ sign plus ⊗ residue F b
  unfolding signed
  residue-signed true b l = sym (R.one-mul (scalars F) (residue F b))
  residue-signed false b l =
      ap (λ a. residue F (F.p - a)) (sym (mod-eq_of_lt l)) ∙ residue-neg F b
      ∙ sym (R.neg-mul (scalars F) 𝟙 (residue F b) ∙ ap (λ a. ⊖ a) (R.one-mul (scalars F) (residue F b)))

  pub record Horner (m : K) (s : S) (T : ℕ → S) : Type 0 where
    pub start : T 0 ≡ C F.series (F.series.coeff s 0)
    pub next : (k : ℕ)
        → T (suc k) ≡ (1ˢ +ˢ C F.series m *ˢ t F.series) *ˢ T k
        +ˢ pow F.series.ring (t F.series) (suc k) *ˢ C F.series (F.series.coeff s (suc k))
    pub low : (k : ℕ) → Below F.series (suc k) (T k)

  pub less-t : ⟨1-t⟩ F.series ≡ 1ˢ +ˢ C F.series (⊖ 𝟙) *ˢ t F.series
  unfolding ⟨1-t⟩
  less-t = sym (ap (λ c. 1ˢ +ˢ c *ˢ t F.series) (C-neg F.series 𝟙 ∙ ap (λ a. -ˢ a) (C-one F.series)) ∙ simp RING)

  pub plus-t : ⟨1+u⟩ F.series ≡ 1ˢ +ˢ C F.series 𝟙 *ˢ t F.series
  unfolding ⟨1+u⟩
  plus-t = sym (ap (λ c. 1ˢ +ˢ c *ˢ t F.series) (C-one F.series) ∙ simp RING)

  other-factor : {f g : S} → f ≡ g → (a b : S) → f *ˢ a +ˢ b ≡ g *ˢ a +ˢ b
  other-factor e a b = ap (λ f. f *ˢ a +ˢ b) e

  pub horner-hom : (s : S) → Horner (⊖ 𝟙) s (λ k. hom F.series k s)
  horner-hom s =
      record {
        start = hom-zero F.series s;
        next = λ k. hom-snoc F.series k s ∙ other-factor less-t _ _;
        low = λ k. below-hom F.series k s;
      }

  pub horner-form : (s : S) → Horner 𝟙 s (λ k. form F.series k s)
  horner-form s =
      record {
        start = form-zero F.series s;
        next = λ k. form-snoc F.series k s ∙ other-factor plus-t _ _;
        low = λ k. below-form F.series k s;
      }

  pub power-monomial : (c : K) (k : ℕ) → pow F.series.ring (t F.series) k *ˢ C F.series c ≡ monomial F.series c k
  unfolding monomial
  power-monomial c zero = rw (pow-zero F.series.ring (t F.series)) (R.one-mul F.series.ring _)
  power-monomial c (suc k) =
      rw (pow-suc F.series.ring (t F.series) k) (R.mul_assoc F.series.ring _ _ _) ∙ ap (λ u. t F.series *ˢ u) (power-monomial c k)

  -- a factor 1 + m·t, by coefficients
  pub coeff-factor : (m : K) (a : S) (i : ℕ)
      → F.series.coeff ((1ˢ +ˢ C F.series m *ˢ t F.series) *ˢ a) i ≡ F.series.coeff a i ⊕ m ⊗ F.series.coeff (t F.series *ˢ a) i
  coeff-factor m a i =
      ap (λ u. F.series.coeff u i) (spread (C F.series m) (t F.series) a) ∙ coeff-add F.series a _ i
      ∙ ap (λ c. F.series.coeff a i ⊕ c) (coeff-C-mul F.series m (t F.series *ˢ a) i)
    where
      spread : (c u a : S) → (1ˢ +ˢ c *ˢ u) *ˢ a ≡ a +ˢ c *ˢ (u *ˢ a)
      spread c u a = simp RING

  module _ (plus : Bool) (s : S) (T : ℕ → S) (h : Horner (sign plus) s T) where
    next-at : (k i : ℕ) → F.series.coeff (T (suc k)) i
        ≡ F.series.coeff (T k) i ⊕ sign plus ⊗ F.series.coeff (t F.series *ˢ T k) i ⊕ F.series.coeff (monomial F.series (F.series.coeff s (suc k)) (suc k)) i
    next-at k i =
        ap (λ u. F.series.coeff u i) (h.next k) ∙ coeff-add F.series _ _ i
        ∙ ap₂ (λ a b. a ⊕ b) (coeff-factor (sign plus) (T k) i) (ap (λ u. F.series.coeff u i) (power-monomial _ (suc k)))

    -- after k steps the first k + 1 words are those of T k, and the others are those of s
    record Stage (k : ℕ) (z : List ℕ) : Type 0 where
      tight : Tight F.p z
      low : (i : ℕ) → i ≤ k → residue F (get_or z i 0) ≡ F.series.coeff (T k) i
      high : (i : ℕ) → k < i → residue F (get_or z i 0) ≡ F.series.coeff s i

    module _ (k : ℕ) (z : List ℕ) (fits : suc k < length z) (now : Stage k z) where
      -- the word before word i, and word i with the term that comes
      before : (i : ℕ) → i ≤ suc k → residue F (get_or (0 ∷ z) i 0) ≡ F.series.coeff (t F.series *ˢ T k) i
      before zero l = residue-0 F ∙ sym (coeff-t-mul-zero F.series (T k))
      before (suc i) l = now.low i (omega arith) ∙ sym (coeff-t-mul-suc F.series (T k) i)

      here : (i : ℕ) → i ≤ suc k → Dec (i < suc k)
          → residue F (get_or z i 0) ≡ F.series.coeff (T k) i ⊕ F.series.coeff (monomial F.series (F.series.coeff s (suc k)) (suc k)) i
      here i l (yes q) =
          now.low i (omega arith)
          ∙ sym (ap (λ c. F.series.coeff (T k) i ⊕ c) (coeff-monomial-low F.series _ (suc k) i q) ∙ R.add-zero (scalars F) _)
      here i l (no q) =
          let e : i ≡ suc k = omega arith in
          rw e
          (now.high (suc k) (omega arith)
          ∙ sym (ap₂ (λ a b. a ⊕ b) ((h.low k).at (suc k) (omega arith)) (coeff-monomial F.series _ (suc k)) ∙ R.zero-add (scalars F) _))

      word : (i : ℕ) → i ≤ suc k → residue F (get_or (stepped F.p plus (suc (suc k)) z) i 0) ≡ F.series.coeff (T (suc k)) i
      word i l =
          ap (residue F) (stepped-low F.p plus (suc (suc k)) z fits i (omega arith)) ∙ residue-add-mod F _ _
          ∙ ap₂ (λ a b. a ⊕ b) (here i l (dec_lt i (suc k)))
          (residue-signed plus _ (before-below now.tight i) ∙ ap (λ a. sign plus ⊗ a) (before i l))
          ∙ swap _ _ _ ∙ sym (next-at k i)
        where
          swap : (a b c : K) → a ⊕ b ⊕ c ≡ a ⊕ c ⊕ b
          swap a b c = simp RING

      turn : Stage (suc k) (stepped F.p plus (suc (suc k)) z)
      turn =
          record {
            tight = tight-stepped F.p plus (suc (suc k)) z fits now.tight;
            low = word;
            high = λ i l. ap (residue F) (stepped-high F.p plus (suc (suc k)) z fits i l) ∙ now.high i (omega arith);
          }

    module _ (x : List ℕ) (cx : Carries F x s) where
      first : (i : ℕ) → i ≤ 0 → residue F (get_or x i 0) ≡ F.series.coeff (T 0) i
      first zero l = cx.at 0 ∙ sym (ap (λ u. F.series.coeff u 0) h.start ∙ coeff-C-zero F.series _)
      first (suc i) l = absurd (omega arith)

      stage : (k : ℕ) → k ≤ length x - 1 → Stage k (expanded_to F.p plus k x)
      stage zero l =
          rw (expanded_to-zero F.p plus x)
          (record { tight = record { at = cx.below }; low = first; high = λ i q. cx.at i })
      stage (suc k) l =
          let e = length-expanded_to F.p plus k x in
          rw (expanded_to-suc F.p plus k x) (turn k (expanded_to F.p plus k x) (omega arith) (stage k (omega arith)))

      pub expanded-horner : Carries F (expanded F.p plus x) (T (length x - 1))
      unfolding expanded
      expanded-horner = record { below = last.tight.at; at = λ i. go i (dec_lt (length x - 1) i) }
        where
          last : Stage (length x - 1) (expanded_to F.p plus (length x - 1) x)
          last = stage (length x - 1) (omega arith)

          go : (i : ℕ) → Dec (length x - 1 < i) → residue F (get_or (expanded_to F.p plus (length x - 1) x) i 0) ≡ F.series.coeff (T (length x - 1)) i
          go i (yes l) = last.high i l ∙ (carries-below F cx).at i (omega arith) ∙ sym ((h.low (length x - 1)).at i l)
          go i (no l) = last.low i (omega arith)

  pub expanded-hom : {x : List ℕ} {s : S} → Carries F x s → Carries F (expanded F.p false x) (hom F.series (length x - 1) s)
  expanded-hom {x} {s} c = expanded-horner false s (λ k. hom F.series k s) (horner-hom s) x c

  pub expanded-form : {x : List ℕ} {s : S} → Carries F x s → Carries F (expanded F.p true x) (form F.series (length x - 1) s)
  expanded-form {x} {s} c = expanded-horner true s (λ k. form F.series k s) (horner-form s) x c

-- The number of factors 1 - t of a polynomial.
--     Factor s     s = (1-t) · rest for a polynomial rest
--     Split s      s = (1-t)^k · core with core(1) not 0: k is the exact number of factors 1-t of s, for the meaning of a list its power
-- Theorems:
--     factor                    the factor theorem at 1: where s(1) = 0, s is 1 - t times a polynomial
--     split_off                 every polynomial but 0 is (1-t)^k · core with core(1) not 0
--     split-unique              and k is one
--     split-le                  where K divides L, L has at least as many factors 1-t as K
--     divides-without-⟨1-t⟩     a divisor of (1-t)^N · h that is not 0 at 1 divides h
-- Assumes nothing.
use mathlib.Core.Path.{◌≡◌, ◌∙◌, refl, sym, ap, subst}
use mathlib.Core.Logic.{◌⊎◌, inl, inr}
use Prim.Native.Nat.{ℕ, zero, suc, ◌+◌, ◌-◌, ◌≤◌}
use native.Mathlib.Nat as N
use native.Mathlib.Decide.{dec_le}
use native.Mathlib.Omega.{arith}
use Rattle.algebra.specs.RingLaws as R
use Rattle.algebra.specs.Ring.{CommRing, IsField}
use Rattle.algebra.specs.RingLaws.{RING}
use Rattle.algebra.proofs.Ring.{zero-of-mul}
use Rattle.algebra.specs.Series.{SeriesRing}
use Rattle.algebra.specs.Polynomial.{Below, Polynomial, Divides}
use Rattle.algebra.proofs.Polynomial.{zero-of-below, polynomial, polynomial-0, polynomial-mul, divides-refl}
use Rattle.algebra.specs.Evaluation.{eval, ValueAt1}
use Rattle.algebra.proofs.Evaluation.{value_at-mul, value_at-0, value_at-polynomial, value-at-1, value_at1-unique}
use Rattle.algebra.specs.OneMinusT.{⟨1-t⟩, ⟨1-t⟩^}
use Rattle.algebra.proofs.OneMinusT.{over⟨1-t⟩, ⟨1-t⟩-over, below-over, ⟨1-t⟩-cancel, ⟨1-t⟩^-zero, ⟨1-t⟩^-suc, ⟨1-t⟩^-add, value_at1-⟨1-t⟩, polynomial-⟨1-t⟩^, ⟨1-t⟩^-cancel}

module _ {Rg : CommRing} (X : SeriesRing Rg) where
  open Rg use {Carrier, zero as 𝟘, one as 𝟙, neg as ⊖◌, add as ◌⊕◌, mul as ◌⊗◌}

  infixl 65 ◌⊕◌
  infixl 70 ◌⊗◌
  infix 80 ⊖◌
  open X.ring use {Carrier as S, zero as 0ˢ, one as 1ˢ, neg as -ˢ◌, add as ◌+ˢ◌, mul as ◌*ˢ◌}

  infixl 65 ◌+ˢ◌
  infixl 70 ◌*ˢ◌
  infix 80 -ˢ◌
  pub record Factor (s : S) : Type 0 where
    pub rest : S
    pub polynomial : Polynomial X rest
    pub equation : s ≡ ⟨1-t⟩ X *ˢ rest

  -- the factor theorem at 1
  pub factor : {s : S} → ValueAt1 X s 𝟘 → Factor s
  factor {s} h = go h.bound h.below h.is
    where
      go : (n : ℕ) → Below X n s → eval X 𝟙 n s ≡ 𝟘 → Factor s
      go zero b e = record { rest = 0ˢ; polynomial = polynomial-0 X; equation = zero-of-below X b ∙ simp RING }
      go (suc n) b e = record { rest = over⟨1-t⟩ X s; polynomial = polynomial X (below-over X n b e); equation = sym (⟨1-t⟩-over X s) }

  pub record Split (s : S) : Type 0 where
    pub k : ℕ
    pub core : S
    pub value : Carrier
    pub at : ValueAt1 X core value
    pub nonzero : ¬ (value ≡ 𝟘)
    pub equation : s ≡ ⟨1-t⟩^ X k *ˢ core

  -- a multiple of (1-t)^k has at least k factors 1-t
  pub order_le : (i k : ℕ) (f K M : S) {u : Carrier} → ValueAt1 X f u → ¬ (u ≡ 𝟘) → Polynomial X (K *ˢ M)
      → ⟨1-t⟩^ X i *ˢ f ≡ ⟨1-t⟩^ X k *ˢ K *ˢ M → k ≤ i
  order_le i k f K M {u} hf nz hp e = go (dec_le k i)
    where
      go : Dec (k ≤ i) → k ≤ i
      go (yes l) = l
      go (no l) = absurd (nz (value_at1-unique X hf (subst (λ x. ValueAt1 X x 𝟘) (sym equal) zero-at-1)))
        where
          d : ℕ
          d = k - suc i

          kd : k ≡ i + suc d
          kd = omega arith

          rest : S
          rest = ⟨1-t⟩^ X d *ˢ (K *ˢ M)

          equal : f ≡ ⟨1-t⟩ X *ˢ rest
          equal =
              ⟨1-t⟩^-cancel X i f (⟨1-t⟩ X *ˢ rest)
              (e ∙ ap (λ n. ⟨1-t⟩^ X n *ˢ K *ˢ M) kd ∙ rw (⟨1-t⟩^-add X i (suc d), ⟨1-t⟩^-suc X d) (simp RING))

          zero-at-1 : ValueAt1 X (⟨1-t⟩ X *ˢ rest) 𝟘
          zero-at-1 =
              subst (λ v. ValueAt1 X (⟨1-t⟩ X *ˢ rest) v) (R.zero-mul Rg _)
              (value_at-mul X 𝟙 (value_at1-⟨1-t⟩ X) (value-at-1 X (polynomial-mul X (polynomial-⟨1-t⟩^ X d) hp)))

  -- where K divides L, L has at least as many factors 1-t as K
  pub split-le : {K L : S} (q : Split K) (r : Split L) → Divides X K L → q.k ≤ r.k
  split-le q r d =
      order_le r.k q.k r.core q.core d.cofactor r.at r.nonzero
      (polynomial-mul X (value_at-polynomial X 𝟙 q.at) d.polynomial)
      (sym r.equation ∙ d.equation ∙ ap (λ y. y *ˢ d.cofactor) q.equation)

  -- their number is one
  pub split-unique : {s : S} (q r : Split s) → q.k ≡ r.k
  split-unique {s} q r = N.le_antisymm (split-le q r (divides-refl X s)) (split-le r q (divides-refl X s))

  -- 0 has none
  pub split-nonzero : {s : S} → Split s → s ≡ 0ˢ → ⊥
  split-nonzero {s} q e = q.nonzero (value_at1-unique X q.at (subst (λ x. ValueAt1 X x 𝟘) (sym core-0) (value_at-0 X 𝟙)))
    where
      core-0 : q.core ≡ 0ˢ
      core-0 = ⟨1-t⟩^-cancel X q.k q.core 0ˢ (sym q.equation ∙ e ∙ sym (R.mul-zero X.ring _))

module _ {Rg : CommRing} (X : SeriesRing Rg) (F : IsField Rg) where
  open Rg use {Carrier, zero as 𝟘, one as 𝟙}
  open X.ring use {Carrier as S, zero as 0ˢ, mul as ◌*ˢ◌}

  infixl 70 ◌*ˢ◌
  split_below : (n : ℕ) {s : S} → Below X n s → (s ≡ 0ˢ) ⊎ Split X s
  split_below zero h = inl (zero-of-below X h)
  split_below (suc n) {s} h = go (λ e. split_below n (below-over X n h e)) (F.dec (eval X 𝟙 (suc n) s) 𝟘)
    where
      more : (over⟨1-t⟩ X s ≡ 0ˢ) ⊎ Split X (over⟨1-t⟩ X s) → (s ≡ 0ˢ) ⊎ Split X s
      more (inl e) = inl (sym (⟨1-t⟩-over X s) ∙ ap (λ x. ⟨1-t⟩ X *ˢ x) e ∙ R.mul-zero X.ring (⟨1-t⟩ X))
      more (inr p) =
          inr
          (record {
            k = suc p.k;
            core = p.core;
            value = p.value;
            at = p.at;
            nonzero = p.nonzero;
            equation = sym (⟨1-t⟩-over X s) ∙ ap (λ x. ⟨1-t⟩ X *ˢ x) p.equation ∙ rw (⟨1-t⟩^-suc X p.k) (simp RING);
          })

      go : (eval X 𝟙 (suc n) s ≡ 𝟘 → (over⟨1-t⟩ X s ≡ 0ˢ) ⊎ Split X (over⟨1-t⟩ X s)) → Dec (eval X 𝟙 (suc n) s ≡ 𝟘) → (s ≡ 0ˢ) ⊎ Split X s
      go ih (yes e) = more (ih e)
      go ih (no ne) =
          inr
          (record {
            k = 0;
            core = s;
            value = eval X 𝟙 (suc n) s;
            at = record { bound = suc n; below = h; is = refl };
            nonzero = ne;
            equation = rw (⟨1-t⟩^-zero X) (simp RING);
          })

  -- every polynomial but 0 is (1-t)^k · core with core(1) not 0
  pub split_off : {s : S} → Polynomial X s → (s ≡ 0ˢ) ⊎ Split X s
  split_off h = split_below h.bound h.below

  -- a divisor of (1-t)^N · h that is not 0 at 1 divides h
  pub divides-without-⟨1-t⟩ : (N : ℕ) (K h Q : S) {u : Carrier} → ValueAt1 X K u → ¬ (u ≡ 𝟘) → Polynomial X h → Polynomial X Q
      → ⟨1-t⟩^ X N *ˢ h ≡ K *ˢ Q → Divides X K h
  divides-without-⟨1-t⟩ zero K h Q hK nz ph pQ e =
      record { cofactor = Q; polynomial = pQ; equation = sym (R.one-mul X.ring h) ∙ rw (⟨1-t⟩^-zero X) at e }
  divides-without-⟨1-t⟩ (suc N) K h Q {u} hK nz ph pQ e =
      divides-without-⟨1-t⟩ N K h q.rest hK nz ph q.polynomial (⟨1-t⟩-cancel X (⟨1-t⟩^ X N *ˢ h) (K *ˢ q.rest) less)
    where
      product : ⟨1-t⟩ X *ˢ (⟨1-t⟩^ X N *ˢ h) ≡ K *ˢ Q
      product = sym (R.mul_assoc X.ring _ _ _) ∙ ap (λ x. x *ˢ h) (sym (⟨1-t⟩^-suc X N)) ∙ e

      at-Q : ValueAt1 X Q (eval X 𝟙 pQ.bound Q)
      at-Q = value-at-1 X pQ

      zero-at-1 : ValueAt1 X (⟨1-t⟩ X *ˢ (⟨1-t⟩^ X N *ˢ h)) 𝟘
      zero-at-1 =
          subst (λ v. ValueAt1 X (⟨1-t⟩ X *ˢ (⟨1-t⟩^ X N *ˢ h)) v) (R.zero-mul Rg _)
          (value_at-mul X 𝟙 (value_at1-⟨1-t⟩ X) (value-at-1 X (polynomial-mul X (polynomial-⟨1-t⟩^ X N) ph)))

      Q-0 : eval X 𝟙 pQ.bound Q ≡ 𝟘
      Q-0 = zero-of-mul Rg F u _ nz (value_at1-unique X (value_at-mul X 𝟙 hK at-Q) (subst (λ x. ValueAt1 X x 𝟘) product zero-at-1))

      q : Factor X Q
      q = factor X (subst (λ v. ValueAt1 X Q v) Q-0 at-Q)

      less : ⟨1-t⟩ X *ˢ (⟨1-t⟩^ X N *ˢ h) ≡ ⟨1-t⟩ X *ˢ (K *ˢ q.rest)
      less = product ∙ ap (λ x. K *ˢ x) q.equation ∙ R.mul_left_comm X.ring K (⟨1-t⟩ X) q.rest

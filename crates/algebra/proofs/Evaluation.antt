-- Values of polynomials.
--     eval_add, eval_mul, …             the value of a sum, a product and the like
--     eval-more                         coefficients beyond the bound add nothing
--     value_at-add, value_at-mul, …     the same where the bound is not named
--     value-at-1, value_at1-unique      every polynomial has one value at 1
-- Assumes nothing.
use mathlib.Core.Path.{◌≡◌, ◌∙◌, refl, sym, ap, ap₂, subst}
use Prim.Native.Nat.{ℕ, zero, suc, ◌+◌}
use native.Mathlib.Nat as N
use Rattle.algebra.specs.RingLaws as R
use Rattle.algebra.specs.Ring.{CommRing, pow}
use Rattle.algebra.specs.RingLaws.{RING}
use Rattle.algebra.proofs.Ring.{pow-zero, pow-suc}
use Rattle.algebra.specs.Series.{SeriesRing, C, t, tail}
use Rattle.algebra.proofs.Series.{coeff-add, coeff-0, coeff-1_zero, coeff-C-zero, C-one, coeff-C-mul, coeff-t-mul-zero, tail-0, tail-add, tail-C-mul, tail-t-mul}
use Rattle.algebra.specs.Polynomial.{Below, Polynomial}
use Rattle.algebra.proofs.Polynomial.{below-mono, below-0, below-add, below-neg, below-C, below-1, below-t-mul, below-tail, zero-of-below, split-mul, below-mul}
use Rattle.algebra.specs.Evaluation.{eval, ValueAt, ValueAt1}

module _ {Rg : CommRing} (X : SeriesRing Rg) where
  open Rg use {Carrier, zero as 𝟘, neg as ⊖◌, add as ◌⊕◌, mul as ◌⊗◌}

  infixl 65 ◌⊕◌
  infixl 70 ◌⊗◌
  infix 80 ⊖◌
  open X.ring use {Carrier as S, zero as 0ˢ, neg as -ˢ◌, add as ◌+ˢ◌, mul as ◌*ˢ◌}

  infixl 65 ◌+ˢ◌
  infixl 70 ◌*ˢ◌
  infix 80 -ˢ◌
  pub eval-zero : (x : Carrier) (s : S) → eval X x 0 s ≡ 𝟘
  unfolding eval
  eval-zero x s = refl

  pub eval-suc : (x : Carrier) (n : ℕ) (s : S) → eval X x (suc n) s ≡ X.coeff s zero ⊕ x ⊗ eval X x n (tail X s)
  unfolding eval
  eval-suc x n s = refl

  pub eval-one : (x : Carrier) (s : S) → eval X x 1 s ≡ X.coeff s 0
  eval-one x s = eval-suc x 0 s ∙ simp (eval-zero, RING)

  pub eval-0 : (x : Carrier) (n : ℕ) → eval X x n 0ˢ ≡ 𝟘
  eval-0 x zero = eval-zero x 0ˢ
  eval-0 x (suc n) = eval-suc x n 0ˢ ∙ rw (tail-0 X, eval-0 x n) (simp (coeff-0, RING))

  pub eval_add : (x : Carrier) (n : ℕ) (a b : S) → eval X x n (a +ˢ b) ≡ eval X x n a ⊕ eval X x n b
  eval_add x zero a b = simp (eval-zero, RING)
  eval_add x (suc n) a b = simp (eval-suc, coeff-add, tail-add, eval_add x n (tail X a) (tail X b), RING)

  pub eval-neg : (x : Carrier) (n : ℕ) (a : S) → eval X x n (-ˢ a) ≡ ⊖ eval X x n a
  eval-neg x n a =
      R.neg_unique Rg (eval X x n a) (eval X x n (-ˢ a)) (sym (eval_add x n a (-ˢ a)) ∙ ap (eval X x n) (R.add-neg X.ring a) ∙ eval-0 x n)

  pub eval-C-mul : (x : Carrier) (n : ℕ) (c : Carrier) (a : S) → eval X x n (C X c *ˢ a) ≡ c ⊗ eval X x n a
  eval-C-mul x zero c a = simp (eval-zero, RING)
  eval-C-mul x (suc n) c a = simp (eval-suc, coeff-C-mul, tail-C-mul, eval-C-mul x n c (tail X a)) (simp RING)

  pub eval-t-mul : (x : Carrier) (n : ℕ) (a : S) → eval X x (suc n) (t X *ˢ a) ≡ x ⊗ eval X x n a
  eval-t-mul x n a = simp (eval-suc, coeff-t-mul-zero, tail-t-mul) (simp RING)

  -- coefficients beyond the bound add nothing
  pub eval-more : (x : Carrier) (n j : ℕ) {a : S} → Below X n a → eval X x (n + j) a ≡ eval X x n a
  eval-more x zero j {a} h = rw (zero-of-below X h) (eval-0 x (0 + j) ∙ sym (eval-0 x 0))
  eval-more x (suc n) j {a} h = ap (λ k. eval X x k a) (N.suc-add n j) ∙ simp (eval-suc, eval-more x n j (below-tail X h))

  -- the value of a product
  pub eval_mul : (x : Carrier) (n m : ℕ) {a b : S} → Below X n a → Below X m b → eval X x (n + m) (a *ˢ b) ≡ eval X x n a ⊗ eval X x m b
  eval_mul x zero m {a} {b} ha hb = rw (zero-of-below X ha, R.zero-mul X.ring b, eval-0 x (0 + m), eval-0 x 0) (simp RING)
  eval_mul x (suc n) m {a} {b} ha hb =
      rw (split-mul X a b)
      (eval_add x (suc n + m) (C X (X.coeff a zero) *ˢ b) (t X *ˢ (tail X a *ˢ b))
      ∙ ap₂ (λ u v. u ⊕ v)
      (eval-C-mul x (suc n + m) (X.coeff a zero) b
      ∙ ap (λ u. X.coeff a zero ⊗ u) (ap (λ k. eval X x k b) (N.add_comm (suc n) m) ∙ eval-more x m (suc n) hb))
      (ap (λ k. eval X x k (t X *ˢ (tail X a *ˢ b))) (N.suc-add n m) ∙ eval-t-mul x (n + m) (tail X a *ˢ b)
      ∙ ap (λ u. x ⊗ u) (eval_mul x n m (below-tail X ha) hb))
      ∙ simp (eval-suc, RING))

module _ {Rg : CommRing} (X : SeriesRing Rg) (x : Rg.Carrier) where
  open Rg use {Carrier, zero as 𝟘, one as 𝟙, neg as ⊖◌, add as ◌⊕◌, mul as ◌⊗◌}

  infixl 65 ◌⊕◌
  infixl 70 ◌⊗◌
  infix 80 ⊖◌
  open X.ring use {Carrier as S, zero as 0ˢ, one as 1ˢ, neg as -ˢ◌, add as ◌+ˢ◌, mul as ◌*ˢ◌}

  infixl 65 ◌+ˢ◌
  infixl 70 ◌*ˢ◌
  infix 80 -ˢ◌
  pub value_at-mul : {a b : S} {u v : Carrier} → ValueAt X x a u → ValueAt X x b v → ValueAt X x (a *ˢ b) (u ⊗ v)
  value_at-mul {a} {b} {u} {v} ha hb =
      record {
        bound = ha.bound + hb.bound;
        below = below-mul X ha.bound hb.bound (below-mono X (N.le-suc ha.bound) ha.below) hb.below;
        is = eval_mul X x ha.bound hb.bound ha.below hb.below ∙ ap₂ (λ x y. x ⊗ y) ha.is hb.is;
      }

  pub value_at-add : {a b : S} {u v : Carrier} → ValueAt X x a u → ValueAt X x b v → ValueAt X x (a +ˢ b) (u ⊕ v)
  value_at-add {a} {b} {u} {v} ha hb =
      record {
        bound = ha.bound + hb.bound;
        below =
            below-add X (below-mono X (N.le-add_right ha.bound hb.bound) ha.below)
            (below-mono X (N.le-add_left hb.bound ha.bound) hb.below);
        is =
            eval_add X x (ha.bound + hb.bound) a b
            ∙ ap₂ (λ p q. p ⊕ q) (eval-more X x ha.bound hb.bound ha.below ∙ ha.is)
            (ap (λ n. eval X x n b) (N.add_comm ha.bound hb.bound) ∙ eval-more X x hb.bound ha.bound hb.below
            ∙ hb.is);
      }

  pub value_at-C : (c : Carrier) → ValueAt X x (C X c) c
  value_at-C c = record { bound = 1; below = below-C X c; is = eval-one X x (C X c) ∙ coeff-C-zero X c }

  pub value_at-0 : ValueAt X x 0ˢ 𝟘
  value_at-0 = record { bound = 0; below = below-0 X 0; is = eval-0 X x 0 }

  pub value_at-1 : ValueAt X x 1ˢ 𝟙
  value_at-1 = subst (λ s. ValueAt X x s 𝟙) (C-one X) (value_at-C 𝟙)

  pub value_at-t : ValueAt X x (t X) x
  value_at-t =
      subst (λ s. ValueAt X x s x) (R.mul-one X.ring (t X))
      (record {
        bound = 2;
        below = below-t-mul X (below-1 X);
        is = eval-t-mul X x 1 1ˢ ∙ ap (λ y. x ⊗ y) (eval-one X x 1ˢ ∙ coeff-1_zero X) ∙ R.mul-one Rg x;
      })

  pub value_at-neg : {a : S} {u : Carrier} → ValueAt X x a u → ValueAt X x (-ˢ a) (⊖ u)
  value_at-neg {a} {u} h =
      record { bound = h.bound; below = below-neg X h.below; is = eval-neg X x h.bound a ∙ ap (λ v. ⊖ v) h.is }

  -- the value of 1 - t
  pub value_at-⟨1-t⟩ : ValueAt X x (1ˢ +ˢ -ˢ t X) (𝟙 ⊕ ⊖ x)
  value_at-⟨1-t⟩ = value_at-add value_at-1 (value_at-neg value_at-t)

  pub value_at-pow : (n : ℕ) {a : S} {u : Carrier} → ValueAt X x a u → ValueAt X x (pow X.ring a n) (pow Rg u n)
  value_at-pow zero {a} {u} h = rw (pow-zero X.ring a, pow-zero Rg u) value_at-1
  value_at-pow (suc n) {a} {u} h = rw (pow-suc X.ring a n, pow-suc Rg u n) (value_at-mul h (value_at-pow n h))

  pub value_at-polynomial : {s : S} {v : Carrier} → ValueAt X x s v → Polynomial X s
  value_at-polynomial h = record { bound = h.bound; below = h.below }

module _ {Rg : CommRing} (X : SeriesRing Rg) where
  open Rg use {Carrier, one as 𝟙}
  open X.ring use {Carrier as S}

  -- every polynomial has one value at 1
  pub value-at-1 : {s : S} (h : Polynomial X s) → ValueAt1 X s (eval X 𝟙 h.bound s)
  value-at-1 h = record { bound = h.bound; below = h.below; is = refl }

  pub value_at1-unique : {s : S} {u v : Carrier} → ValueAt1 X s u → ValueAt1 X s v → u ≡ v
  value_at1-unique {s} {u} {v} h k =
      sym h.is ∙ sym (eval-more X 𝟙 h.bound k.bound h.below)
      ∙ ap (λ n. eval X 𝟙 n s) (N.add_comm h.bound k.bound) ∙ eval-more X 𝟙 k.bound h.bound k.below ∙ k.is

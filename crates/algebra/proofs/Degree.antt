-- The degree of a polynomial, and its number of coefficients.
--     degree-of, degree-unique     every polynomial but 0 has one degree
--     degree-le                    a polynomial of degree d has no bound below d + 1
--     degree-mul                   over a field the degrees of a product add
--     size-yes, size-no            the size by the last coefficient, where it is 0 and where not
--     size-extent, size_of         a size d + 1 is a degree d, and conversely
--     size_below, size-least       the size is a bound, and no bound is below it
--     size-zero                    of size 0: the zero polynomial
--     size_same                    two bounds give one size
-- Assumes nothing.
use mathlib.Core.Path.{◌≡◌, ◌∙◌, refl, sym, ap, subst}
use mathlib.Core.Logic.{◌⊎◌, inl, inr}
use Prim.Native.Nat.{ℕ, zero, suc, ◌+◌, ◌≤◌, ◌<◌, zero-le}
use native.Mathlib.Nat as N
use native.Mathlib.Decide.{dec_le}
use native.Mathlib.Omega.{arith}
use Rattle.algebra.specs.Ring.{CommRing, IsField}
use Rattle.algebra.proofs.Ring.{zero-of-mul}
use Rattle.algebra.specs.Series.{SeriesRing}
use Rattle.algebra.specs.Polynomial.{Below}
use Rattle.algebra.proofs.Polynomial.{below-0, zero-of-below, below-mul, drop-top, top-of-product}
use Rattle.algebra.specs.Degree.{Degree, size}

module _ {Rg : CommRing} (X : SeriesRing Rg) where
  open X.ring use {Carrier as S}

  -- a polynomial of degree d has no bound below d + 1
  pub degree-le : {d n : ℕ} {s : S} → Degree X d s → Below X (suc n) s → d ≤ n
  degree-le {d} {n} {s} x h = go (dec_le d n)
    where
      go : Dec (d ≤ n) → d ≤ n
      go (yes l) = l
      go (no l) = absurd (x.top (h.at d (omega arith)))

  pub degree-unique : {d e : ℕ} {s : S} → Degree X d s → Degree X e s → d ≡ e
  degree-unique x y = N.le_antisymm (degree-le x y.below) (degree-le y x.below)

module _ {Rg : CommRing} (X : SeriesRing Rg) (K : IsField Rg) where
  open Rg use {zero as 𝟘}
  open X.ring use {Carrier as S, zero as 0ˢ, mul as ◌*ˢ◌}

  infixl 70 ◌*ˢ◌
  -- every polynomial but 0 has a degree
  pub degree-of : (n : ℕ) {s : S} → Below X n s → (s ≡ 0ˢ) ⊎ ((d : ℕ) × Degree X d s)
  degree-of zero h = inl (zero-of-below X h)
  degree-of (suc n) {s} h = go (λ e. degree-of n (drop-top X n h e)) (K.dec (X.coeff s n) 𝟘)
    where
      go : (X.coeff s n ≡ 𝟘 → (s ≡ 0ˢ) ⊎ ((d : ℕ) × Degree X d s)) → Dec (X.coeff s n ≡ 𝟘) → (s ≡ 0ˢ) ⊎ ((d : ℕ) × Degree X d s)
      go ih (yes e) = ih e
      go ih (no e) = inr (n, record { below = h; top = e })

  -- over a field the degrees of a product add
  pub degree-mul : {d e : ℕ} {a b : S} → Degree X d a → Degree X e b → Degree X (d + e) (a *ˢ b)
  degree-mul {d} {e} {a} {b} x y =
      record {
        below = subst (λ k. Below X k (a *ˢ b)) (N.add-suc d e) (below-mul X d (suc e) x.below y.below);
        top =
            λ z. y.top
            (zero-of-mul Rg K (X.coeff a d) (X.coeff b e) x.top (sym (top-of-product X d e x.below y.below) ∙ z));
      }

  pub size-0 : (s : S) → size X K 0 s ≡ 0
  unfolding size
  size-0 s = refl

  pub size-yes : (n : ℕ) (s : S) → X.coeff s n ≡ 𝟘 → size X K (suc n) s ≡ size X K n s
  unfolding size
  size-yes n s h = go (K.dec (X.coeff s n) 𝟘)
    where
      go : (b : Dec (X.coeff s n ≡ 𝟘)) → elim b as (λ b. ℕ) [ yes e ↦ size X K n s | no e ↦ suc n ] ≡ size X K n s
      go (yes e) = refl
      go (no e) = absurd (e h)

  pub size-no : (n : ℕ) (s : S) → ¬ (X.coeff s n ≡ 𝟘) → size X K (suc n) s ≡ suc n
  unfolding size
  size-no n s h = go (K.dec (X.coeff s n) 𝟘)
    where
      go : (b : Dec (X.coeff s n ≡ 𝟘)) → elim b as (λ b. ℕ) [ yes e ↦ size X K n s | no e ↦ suc n ] ≡ suc n
      go (yes e) = absurd (h e)
      go (no e) = refl

  pub size-le : (n : ℕ) (s : S) → size X K n s ≤ n
  size-le zero s = N.le_of_eq (size-0 s)
  size-le (suc n) s = go (size-le n s) (K.dec (X.coeff s n) 𝟘)
    where
      go : size X K n s ≤ n → Dec (X.coeff s n ≡ 𝟘) → size X K (suc n) s ≤ suc n
      go ih (yes e) = rw (size-yes n s e) (omega arith)
      go ih (no e) = N.le_of_eq (size-no n s e)

  pub size_below : (n : ℕ) {s : S} → Below X n s → Below X (size X K n s) s
  size_below zero {s} h = rw (size-0 s) h
  size_below (suc n) {s} h = go (λ e. size_below n (drop-top X n h e)) (K.dec (X.coeff s n) 𝟘)
    where
      go : (X.coeff s n ≡ 𝟘 → Below X (size X K n s) s) → Dec (X.coeff s n ≡ 𝟘) → Below X (size X K (suc n) s) s
      go ih (yes e) = rw (size-yes n s e) (ih e)
      go ih (no e) = rw (size-no n s e) h

  pub size_top : (n d : ℕ) (s : S) → size X K n s ≡ suc d → ¬ (X.coeff s d ≡ 𝟘)
  size_top zero d s h = let q : 0 ≡ suc d = sym (size-0 s) ∙ h in absurd (omega arith)
  size_top (suc n) d s h = go (size_top n d s) (K.dec (X.coeff s n) 𝟘)
    where
      go : (size X K n s ≡ suc d → ¬ (X.coeff s d ≡ 𝟘)) → Dec (X.coeff s n ≡ 𝟘) → ¬ (X.coeff s d ≡ 𝟘)
      go ih (yes e) = ih (sym (size-yes n s e) ∙ h)
      go ih (no e) = λ z. e (ap (X.coeff s) (N.suc_inj (sym (size-no n s e) ∙ h)) ∙ z)

  pub size-extent : (n d : ℕ) {s : S} → Below X n s → size X K n s ≡ suc d → Degree X d s
  size-extent n d {s} h e = record { below = subst (λ k. Below X k s) e (size_below n h); top = size_top n d s e }

  -- no bound is below the size
  pub size-least : (n m : ℕ) {s : S} → Below X m s → size X K n s ≤ m
  size-least n m {s} h = go (size X K n s) refl
    where
      go : (k : ℕ) → size X K n s ≡ k → size X K n s ≤ m
      go zero e = rw e zero-le
      go (suc d) e = go2 (dec_le (suc d) m)
        where
          go2 : Dec (suc d ≤ m) → size X K n s ≤ m
          go2 (yes l) = rw e l
          go2 (no l) = absurd (size_top n d s e (h.at d (omega arith)))

  pub size-zero : (n : ℕ) {s : S} → Below X n s → size X K n s ≡ 0 → s ≡ 0ˢ
  size-zero n {s} h e = zero-of-below X (subst (λ k. Below X k s) e (size_below n h))

  pub size_of : (n d : ℕ) {s : S} → Degree X d s → d < n → size X K n s ≡ suc d
  size_of n d {s} x l = N.le_antisymm (size-least n (suc d) x.below) (big n l)
    where
      big : (n : ℕ) → d < n → suc d ≤ size X K n s
      big zero l = absurd (omega arith)
      big (suc n) l = go (big n) (K.dec (X.coeff s n) 𝟘)
        where
          go : (d < n → suc d ≤ size X K n s) → Dec (X.coeff s n ≡ 𝟘) → suc d ≤ size X K (suc n) s
          go ih (yes e) = rw (size-yes n s e) (let ne : ¬ (d ≡ n) = λ q. x.top (ap (X.coeff s) q ∙ e) in ih (omega arith))
          go ih (no e) = rw (size-no n s e) l

  pub size-of-0 : (n : ℕ) → size X K n 0ˢ ≡ 0
  size-of-0 n = let l = size-least n 0 (below-0 X 0) in omega arith

  pub size_same : (n m : ℕ) {s : S} → Below X n s → Below X m s → size X K n s ≡ size X K m s
  size_same n m {s} hn hm = N.le_antisymm (size-least n _ (size_below m hm)) (size-least m _ (size_below n hn))

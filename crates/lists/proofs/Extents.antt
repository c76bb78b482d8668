-- The extent and the power of a list are what document 01 says, and the number of significant words is the size of the scaled form.
--     significant_in-zero, significant_in-nonzero     the search from the top, one word on
--     after-significant                               every word past the significant ones is 0
--     significant-degree                              the extent is the degree of the scaled form
-- Theorems:
--     extent-largest          the extent is the largest k whose word is not 0
--     power-exact             the power is the exact number of factors 1-t of the meaning
--     extent-searched         the words from c_extent on are as many as the search reads
--     significant-is-size     the number of significant words is the size of the scaled form
-- Assumes nothing.
use mathlib.Core.Path.{◌≡◌, refl, sym, ◌∙◌, ap}
use mathlib.Core.Bool.{cond}
use mathlib.Core.List.{List}
use Prim.Native.Nat.{ℕ, zero, suc, ◌+◌, ◌-◌, ◌≤◌, ◌<◌}
use native.Mathlib.Nat as N
use native.Mathlib.Decide.{dec_lt, ℕ_discrete}
use native.Mathlib.Omega.{arith}
use lib.ListN.{get_or, length, get_or-eq_default}
use borrow.Author.Tests.{eq-eqb, ne_eqb}
use Rattle.algebra.specs.Polynomial.{Below}
use Rattle.algebra.proofs.Polynomial.{below-mono, zero-of-below}
use Rattle.algebra.proofs.Factors.{Split}
use Rattle.algebra.specs.Homogenise.{hom}
use Rattle.algebra.proofs.Homogenise.{hom-strip, value_at1-hom}
use Rattle.algebra.specs.Degree.{Degree, size}
use Rattle.algebra.proofs.Degree.{size-0, size-yes, size-no, size_below, size-extent, size-least, size_same}
use Rattle.algebra.specs.PrimeField.{PrimeField, scalars, scalar_field}
use Rattle.lists.specs.Degrees.{naive_degree, significant_in, significant, extent, power, searched}
use Rattle.lists.specs.Lists.{Coefficients, meaning, scaled}
use Rattle.lists.proofs.Scaled.{coefficient-zero, coefficient-nonzero, coeff-scaled, below-scaled, meaning-hom}

pub significant_in-none : (c : List ℕ) → significant_in 0 c ≡ 0
unfolding significant_in
significant_in-none c = refl

pub significant_in-zero : (n : ℕ) (c : List ℕ) → get_or c n 0 ≡ 0 → significant_in (suc n) c ≡ significant_in n c
unfolding significant_in
significant_in-zero n c e = ap (λ b. cond b (significant_in n c) (suc n)) (eq-eqb (get_or c n 0) 0 e)

pub significant_in-nonzero : (n : ℕ) (c : List ℕ) → ¬ (get_or c n 0 ≡ 0) → significant_in (suc n) c ≡ suc n
unfolding significant_in
significant_in-nonzero n c h = ap (λ b. cond b (significant_in n c) (suc n)) (ne_eqb (get_or c n 0) 0 h)

-- r is the number of words up to the last of the first n that is not 0
record Last (n : ℕ) (c : List ℕ) (r : ℕ) : Type 0 where
  few : r ≤ n
  last : 0 < r → ¬ (get_or c (r - 1) 0 ≡ 0)
  after : (k : ℕ) → r ≤ k → k < n → get_or c k 0 ≡ 0

significant_in-last : (n : ℕ) (c : List ℕ) → Last n c (significant_in n c)
significant_in-last zero c =
    rw (significant_in-none c) (record { few = omega arith; last = λ l. absurd (omega arith); after = λ k l j. absurd (omega arith) })
significant_in-last (suc n) c = go (significant_in-last n c) (ℕ_discrete (get_or c n 0) 0)
  where
    go : Last n c (significant_in n c) → Dec (get_or c n 0 ≡ 0) → Last (suc n) c (significant_in (suc n) c)
    go ih (yes e) = rw (significant_in-zero n c e) (record { few = N.le_trans ih.few (N.le-suc n); last = ih.last; after = λ k l j. before k l j (ℕ_discrete k n) })
      where
        before : (k : ℕ) → significant_in n c ≤ k → k < suc n → Dec (k ≡ n) → get_or c k 0 ≡ 0
        before k l j (yes q) = ap (λ i. get_or c i 0) q ∙ e
        before k l j (no q) = ih.after k l (omega arith)
    go ih (no h) =
        rw (significant_in-nonzero n c h)
        (record { few = N.le_refl (suc n); last = λ l e. h (ap (λ i. get_or c i 0) less ∙ e); after = λ k l j. absurd (omega arith) })
      where
        less : n ≡ suc n - 1
        less = omega arith

pub significant-le : (c : List ℕ) → significant c ≤ length c
unfolding significant
significant-le c = (significant_in-last (length c) c).few

pub significant-extent : (c : List ℕ) → 0 < significant c → significant c ≡ suc (extent c)
unfolding extent
significant-extent c l = omega arith

-- every word past the significant ones is 0
pub after-significant : (c : List ℕ) (k : ℕ) → significant c ≤ k → get_or c k 0 ≡ 0
after-significant c k l = go (dec_lt k (length c))
  where
    go : Dec (k < length c) → get_or c k 0 ≡ 0
    go (yes i) = unfold significant in (significant_in-last (length c) c).after k l i
    go (no i) = get_or-eq_default c 0 (omega arith)

-- the power by the number of significant words, and a bound
pub power-is : (c : List ℕ) → ¬ (significant c ≡ 0) → power c ≡ length c - significant c
unfolding power naive_degree extent
power-is c h = let l = significant-le c in omega arith

pub power_le : (c : List ℕ) → power c ≤ length c - 1
unfolding power naive_degree
power_le c = omega arith

-- the extent is the largest k whose word is not 0
pub extent-largest : (c : List ℕ) → 0 < significant c → (¬ (get_or c (extent c) 0 ≡ 0)) × ((k : ℕ) → extent c < k → get_or c k 0 ≡ 0)
extent-largest c l = (
  unfold extent significant in (significant_in-last (length c) c).last l,
  λ k j. after-significant c k (let e = significant-extent c l in omega arith),
)

-- how many words the search reads
pub searched-zero : (c : List ℕ) → significant c ≡ 0 → searched c ≡ length c
unfolding searched
searched-zero c e = simp (eq-eqb (significant c) 0 e)

searched-some : (c : List ℕ) → ¬ (significant c ≡ 0) → searched c ≡ suc (power c)
unfolding searched
searched-some c h = simp (ne_eqb (significant c) 0 h)

pub extent-searched : (c : List ℕ) → 0 < significant c → extent c + searched c ≡ length c
extent-searched c l = let few = significant-le c in omega (arith, significant-extent c l, searched-some c some, power-is c some)
  where
    some : ¬ (significant c ≡ 0)
    some e = omega arith

module _ (F : PrimeField) where
  open scalars F use {zero as 𝟘}
  open F.series.ring use {Carrier as S, zero as 0ˢ}

  -- the size of a series whose coefficients are 0 where the words are, and only there
  pub significant_in-size : (n : ℕ) (c : List ℕ) (s : S) → ((k : ℕ) → k < n → get_or c k 0 ≡ 0 → F.series.coeff s k ≡ 𝟘)
      → ((k : ℕ) → k < n → ¬ (get_or c k 0 ≡ 0) → ¬ (F.series.coeff s k ≡ 𝟘)) → significant_in n c ≡ size F.series (scalar_field F) n s
  significant_in-size zero c s zeros nonzeros = significant_in-none c ∙ sym (size-0 F.series (scalar_field F) s)
  significant_in-size (suc n) c s zeros nonzeros =
      go (significant_in-size n c s (λ k l. zeros k (omega arith)) (λ k l. nonzeros k (omega arith))) (ℕ_discrete (get_or c n 0) 0)
    where
      go : significant_in n c ≡ size F.series (scalar_field F) n s → Dec (get_or c n 0 ≡ 0)
          → significant_in (suc n) c ≡ size F.series (scalar_field F) (suc n) s
      go ih (yes e) = significant_in-zero n c e ∙ ih ∙ sym (size-yes F.series (scalar_field F) n s (zeros n (omega arith) e))
      go ih (no h) = significant_in-nonzero n c h ∙ sym (size-no F.series (scalar_field F) n s (nonzeros n (omega arith) h))

  pub significant-is-size : (c : List ℕ) → Coefficients F c → significant c ≡ size F.series (scalar_field F) (length c) (scaled F c)
  unfolding significant
  significant-is-size c g =
      significant_in-size (length c) c (scaled F c) (λ k l e. coeff-scaled F c k ∙ coefficient-zero F c k e)
      (λ k l h z. coefficient-nonzero F c k g l h (sym (coeff-scaled F c k) ∙ z))

  pub significant-at : (n : ℕ) (c : List ℕ) → Coefficients F c → length c ≤ n → significant c ≡ size F.series (scalar_field F) n (scaled F c)
  significant-at n c g l =
      significant-is-size c g
      ∙ size_same F.series (scalar_field F) (length c) n (below-scaled F c) (below-mono F.series l (below-scaled F c))

  pub significant-below : (c : List ℕ) → Coefficients F c → Below F.series (significant c) (scaled F c)
  significant-below c g =
      rw (significant-is-size c g) (size_below F.series (scalar_field F) (length c) (below-scaled F c))

  pub significant-least : (m : ℕ) (c : List ℕ) → Coefficients F c → Below F.series m (scaled F c) → significant c ≤ m
  significant-least m c g h = rw (significant-is-size c g) (size-least F.series (scalar_field F) (length c) m h)

  pub significant-zero : (c : List ℕ) → Coefficients F c → significant c ≡ 0 → scaled F c ≡ 0ˢ
  significant-zero c g e = zero-of-below F.series (rw e at (significant-below c g))

  -- the extent is the degree of the scaled form
  pub significant-degree : (d : ℕ) (c : List ℕ) → Coefficients F c → significant c ≡ suc d → Degree F.series d (scaled F c)
  significant-degree d c g e =
      size-extent F.series (scalar_field F) (length c) d (below-scaled F c) (sym (significant-is-size c g) ∙ e)

  -- the meaning is (1-t)^power times a polynomial that is not 0 at 1
  pub power-exact : (c : List ℕ) → Coefficients F c → 0 < significant c → (s : Split F.series (meaning F c)) × (s.k ≡ power c)
  power-exact c g l = (
    record {
      k = power c;
      core = hom F.series (extent c) (scaled F c);
      value = F.series.coeff (scaled F c) (extent c);
      at = value_at1-hom F.series (extent c) (scaled F c);
      nonzero = degree.top;
      equation = meaning-hom F c ∙ unfold power in hom-strip F.series (naive_degree c) (extent c) degree.below few;
    },
    refl,
  )
    where
      degree : Degree F.series (extent c) (scaled F c)
      degree = significant-degree (extent c) c g (significant-extent c l)

      few : extent c ≤ naive_degree c
      few = let h = significant-le c in unfold extent naive_degree in omega arith

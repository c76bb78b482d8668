-- All groups of rows: their sums are reducible, and are the sum of all rows modulo p.
--     grid-next               what the loop over the groups needs
--     Held p g lo hi r        after g groups the sums lo and hi of an output stand for exact sums of low and high halves, and these for r
--                             modulo p
--     held_in, held_out       one group more, at an output that it reaches, and at one that it does not
--     held_low, held_high     the exact sums are low_of and high_of
-- Theorems:
--     grid-reducible, grid-near     after at most 64 groups the sums are reducible, and are the rows modulo p
-- Assumes nothing.
use Rattle.std.proofs.Common.{◌≡◌, ℕ, zero, suc, ◌+◌, ◌-◌, ◌*◌, ◌%◌, ◌<◌, ◌≤◌, List, get_or, refl, ap, ◌∙◌, subst, inl, inr, arith}
use native.Mathlib.Decide.{dec_lt}
use Rattle.lists.specs.Words.{ZeroFrom}
use Rattle.word_montgomery.proofs.Words.{same}
use Rattle.word_strips.specs.Strips.{Gain, Span}
use Rattle.word_grid.specs.Grid.{Steps, Grid, sum_to, Laid, low_of, high_of, Reducible}
use Rattle.word_grid.proofs.Near.{Near, Halves, whole-halves, high-below, strip-near}
use Rattle.word_grid.proofs.Rows.{rows_at, Framed, more-in, more-out}

module _ {w x : List ℕ} {n : ℕ} {lo₀ hi₀ : List ℕ} {g : ℕ} {lo hi : List ℕ} (t : Grid w x n lo₀ hi₀ g lo hi) where
  pub grid-next : {lo' hi' : List ℕ} → Span w x (16 * g) 0 (16 * n) lo hi lo' hi' → Grid w x n lo₀ hi₀ (suc g) lo' hi'
  grid-next s = record { steps = (lo, hi, t.steps, s) }

record Held (p g lo hi r : ℕ) : Type 0 where
  low : ℕ
  high : ℕ
  low-le : low ≤ 524280 * g
  high_le : high ≤ 524288 * g
  whole_is : lo ≡ (low + 65536 * high) % 4294967296
  high_is : (hi + 262144 * g) % 4294967296 ≡ high
  near : Near p (low + 65536 * high) (17179869184 * g + r)

held_start : (p lo hi : ℕ) → lo ≡ 0 → hi ≡ 0 → Held p 0 lo hi 0
held_start p lo hi e f = record {
  low = 0;
  high = 0;
  low-le = omega arith;
  high_le = omega arith;
  whole_is = omega (arith, e);
  high_is = omega (arith, f);
  near = record { left = 0; right = 0; at = omega arith };
}

held_in : {p g lo hi r lo' hi' s h : ℕ} (t : ℕ) → g < 64 → Held p g lo hi r → Gain lo hi lo' hi' s h → Halves s h → h ≤ 524288 → Near p s (17179869184 + t)
    → Held p (suc g) lo' hi' (r + t)
held_in {p} {g} {lo} {hi} {r} {lo'} {hi'} {s} {h} t l d i v k m = record {
  low = d.low + v.low;
  high = d.high + h;
  low-le = omega (arith, d.low-le, v.low-le);
  high_le = omega (arith, d.high_le, k);
  whole_is = whole-step lo d.low d.high v.low lo' s d.whole_is v.sum i.whole;
  high_is = high-step hi d.high hi' d.high_is i.high (omega (arith, d.high_le, k));
  near = record {
    left = d.near.left + m.left;
    right = d.near.right + m.right;
    at = omega (arith, d.near.at, m.at, v.sum);
  };
}
  where
    whole-step : (lo low high vl lo' s : ℕ) → lo ≡ (low + 65536 * high) % 4294967296 → s ≡ vl + 65536 * h → lo' ≡ (lo + s) % 4294967296
        → lo' ≡ (low + vl + 65536 * (high + h)) % 4294967296
    whole-step lo low high vl lo' s e f q = omega (arith, e, f, q)

    high-step : (hi high hi' : ℕ) → (hi + 262144 * g) % 4294967296 ≡ high → hi' ≡ (hi + 4294705152 + h) % 4294967296 → high + h < 4294967296
        → (hi' + 262144 * suc g) % 4294967296 ≡ high + h
    high-step hi high hi' e q b = omega (arith, e, q, b)

held_out : {p g lo hi r : ℕ} → g < 64 → Held p g lo hi r → Held p (suc g) lo hi r
held_out {p} {g} {lo} {hi} {r} l d = record {
  low = d.low;
  high = d.high + 262144;
  low-le = omega (arith, d.low-le);
  high_le = omega (arith, d.high_le);
  whole_is = whole-step d.low d.high d.whole_is;
  high_is = high-step d.high d.high_is (omega (arith, d.high_le));
  near = record { left = d.near.left; right = d.near.right; at = omega (arith, d.near.at) };
}
  where
    whole-step : (low high : ℕ) → lo ≡ (low + 65536 * high) % 4294967296 → lo ≡ (low + 65536 * (high + 262144)) % 4294967296
    whole-step low high e = omega (arith, e)

    high-step : (high : ℕ) → (hi + 262144 * g) % 4294967296 ≡ high → high + 262144 < 4294967296 → (hi + 262144 * suc g) % 4294967296 ≡ high + 262144
    high-step high e b = omega (arith, e, b)

module _ {p g lo hi r : ℕ} (l : g ≤ 64) (d : Held p g lo hi r) where
  held_low : low_of lo hi ≡ d.low
  unfolding low_of
  held_low = go lo hi d.low d.high d.whole_is d.high_is (omega (arith, d.low-le))
    where
      go : (lo hi low high : ℕ) → lo ≡ (low + 65536 * high) % 4294967296 → (hi + 262144 * g) % 4294967296 ≡ high → low < 4294967296
          → (lo + 65536 * (65536 - hi % 65536)) % 4294967296 ≡ low
      go lo hi low high e f b = omega (arith, e, f, b)

  held_high : 65497 ≤ p → p ≤ 65521 → high_of p hi + 262144 * g ≡ d.high + 512 * p
  unfolding high_of
  held_high lp hp = go hi d.high d.high_is (omega (arith, d.high_le))
    where
      go : (hi high : ℕ) → (hi + 262144 * g) % 4294967296 ≡ high → high ≤ 33554432 → (hi + 512 * p) % 4294967296 + 262144 * g ≡ high + 512 * p
      go hi high e b = omega (arith, e, b)

  low_small : low_of lo hi ≤ 33554432
  low_small = omega (arith, held_low, d.low-le)

  high_small : 65497 ≤ p → p ≤ 65521 → high_of p hi ≤ 50331648
  high_small lp hp = omega (arith, held_high lp hp, d.high_le)

  value-near : 65497 ≤ p → p ≤ 65521 → (low_of lo hi + 65536 * high_of p hi) % p ≡ r % p
  value-near lp hp =
      same p _ _ d.near.left (d.near.right + 33554432) (omega (arith, held_low, held_high lp hp, d.near.at))

module _ (p : ℕ) (a y w x : List ℕ) (n : ℕ) (l : Laid p a y w x) (f : Framed y (16 * n)) where
  step-held : (g : ℕ) → g < 64 → (lo hi lo' hi' : List ℕ) → Span w x (16 * g) 0 (16 * n) lo hi lo' hi'
      → ((k : ℕ) → Held p g (get_or lo k 0) (get_or hi k 0) (rows_at a y k (16 * g)))
      → (k : ℕ) → Held p (suc g) (get_or lo' k 0) (get_or hi' k 0) (rows_at a y k (16 * suc g))
  step-held g m lo hi lo' hi' t old k = go (dec_lt k (16 * g)) (dec_lt k (16 * g + 16 * n))
    where
      back : (b k : ℕ) → b ≤ k → b + (k - b) ≡ k
      back b k h = omega arith

      inside : (i : ℕ) → i < 16 * n → Held p (suc g) (get_or lo' (16 * g + i) 0) (get_or hi' (16 * g + i) 0) (rows_at a y (16 * g + i) (16 * suc g))
      inside i q =
          rw (more-in a y i g)
          (held_in _ m (old (16 * g + i)) (t.done i (omega arith) q) (whole-halves w x (16 * g) i) (high-below w x (16 * g) i) (strip-near (16 * g) i l))

      go : Dec (k < 16 * g) → Dec (k < 16 * g + 16 * n) → Held p (suc g) (get_or lo' k 0) (get_or hi' k 0) (rows_at a y k (16 * suc g))
      go (yes h) q = rw (t.below_lo k (omega arith), t.below_hi k (omega arith), more-out a y f k g (inl h)) (held_out m (old k))
      go (no h) (yes q) =
          subst (λ i. Held p (suc g) (get_or lo' i 0) (get_or hi' i 0) (rows_at a y i (16 * suc g))) (back (16 * g) k (omega arith)) (inside (k - 16 * g) (omega arith))
      go (no h) (no q) = rw (t.above_lo k (omega arith), t.above_hi k (omega arith), more-out a y f k g (inr (omega arith))) (held_out m (old k))

  rows_none : (k : ℕ) → rows_at a y k (16 * 0) ≡ 0
  unfolding rows_at sum_to
  rows_none k = refl

  steps-held : (lo₀ hi₀ : List ℕ) → ZeroFrom 0 lo₀ → ZeroFrom 0 hi₀ → (g : ℕ) → g ≤ 64 → (lo hi : List ℕ) → Steps w x n lo₀ hi₀ g lo hi
      → (k : ℕ) → Held p g (get_or lo k 0) (get_or hi k 0) (rows_at a y k (16 * g))
  steps-held lo₀ hi₀ u v zero m lo hi t k =
      rw (rows_none k) (held_start p _ _ (ap (λ s. get_or s k 0) t.0 ∙ u.at k (omega arith)) (ap (λ s. get_or s k 0) t.1 ∙ v.at k (omega arith)))
  steps-held lo₀ hi₀ u v (suc g) m lo hi t k =
      step-held g m t.0 t.1 lo hi t.3 (steps-held lo₀ hi₀ u v g (omega arith) t.0 t.1 t.2) k

module _ {p : ℕ} (lp : 65497 ≤ p) (hp : p ≤ 65521) {a y w x : List ℕ} {n : ℕ} {lo₀ hi₀ : List ℕ} {g : ℕ} {lo hi : List ℕ}
    (l : Laid p a y w x) (f : Framed y (16 * n)) (u : ZeroFrom 0 lo₀) (v : ZeroFrom 0 hi₀) (m : g ≤ 64) (t : Grid w x n lo₀ hi₀ g lo hi) where
  held : (k : ℕ) → Held p g (get_or lo k 0) (get_or hi k 0) (rows_at a y k (16 * g))
  held k = steps-held p a y w x n l f lo₀ hi₀ u v g m lo hi t.steps k

  pub grid-reducible : Reducible p lo hi
  grid-reducible = record { low = λ k. low_small m (held k); high = λ k. high_small m (held k) lp hp }

  pub grid-near : (k : ℕ) → (low_of (get_or lo k 0) (get_or hi k 0) + 65536 * high_of p (get_or hi k 0)) % p ≡ rows_at a y k (16 * g) % p
  grid-near k = value-near m (held k) lp hp

-- Euclid's algorithm from round to round.
--     done-last, done-by_x, done-by_y     the answer where y is 0
--     euclid-end, euclid-round            the clauses of the algorithm
--     remainder-small                     the remainder has fewer coefficients than y
-- Theorems:
--     euclid-fuel, euclid-room     more fuel, or more room, changes nothing
--     round-law                    one round, with no fuel to count
-- Assumes nothing.
use mathlib.Core.Path.{◌≡◌, ◌∙◌, refl, sym, ap}
use Prim.Native.Nat.{ℕ, zero, suc, ◌-◌, ◌≤◌}
use native.Mathlib.Omega.{arith}
use Rattle.algebra.specs.Ring.{CommRing, IsField}
use Rattle.algebra.specs.Series.{SeriesRing}
use Rattle.algebra.specs.Polynomial.{Below}
use Rattle.algebra.proofs.Polynomial.{below-mono}
use Rattle.algebra.specs.Degree.{size}
use Rattle.algebra.proofs.Degree.{size-le, size_below, size-extent, size-least, size_same}
use Rattle.algebra.specs.Division.{remainder, quotient}
use Rattle.algebra.proofs.Division.{remainder-below}
use Rattle.algebra.specs.Euclid.{Euclid, quotient_by, remainder_by, done, next, euclid}

module _ {Rg : CommRing} (X : SeriesRing Rg) (K : IsField Rg) where
  open X.ring use {Carrier as S, zero as 0ˢ, one as 1ˢ}

  pub done-last : (x : S) → (done X K x).last ≡ x
  unfolding done
  done-last x = refl

  pub done-by_x : (x : S) → (done X K x).by_x ≡ 1ˢ
  unfolding done
  done-by_x x = refl

  pub done-by_y : (x : S) → (done X K x).by_y ≡ 0ˢ
  unfolding done
  done-by_y x = refl

  pub euclid-end : (fuel n : ℕ) (x y : S) → size X K n y ≡ 0 → euclid X K fuel n x y ≡ done X K x
  unfolding euclid
  euclid-end zero n x y e = refl
  euclid-end (suc fuel) n x y e =
      ap
      (λ k. elim k as (λ k. Euclid X K) [ zero ↦ done X K x | suc d ↦ next X K (quotient_by X K n d x y) (euclid X K fuel n y (remainder_by X K n d x y)) ]) e

  pub euclid-round : (fuel n d : ℕ) (x y : S) → size X K n y ≡ suc d
      → euclid X K (suc fuel) n x y ≡ next X K (quotient_by X K n d x y) (euclid X K fuel n y (remainder_by X K n d x y))
  unfolding euclid
  euclid-round fuel n d x y e =
      ap
      (λ k. elim k as (λ k. Euclid X K) [ zero ↦ done X K x | suc d ↦ next X K (quotient_by X K n d x y) (euclid X K fuel n y (remainder_by X K n d x y)) ]) e

  -- the number of coefficients
  abbrev sz : ℕ → S → ℕ
  sz = size X K

  -- the remainder has fewer coefficients than y
  pub remainder-small : (n d : ℕ) {x y : S} → Below X n x → Below X n y → sz n y ≡ suc d → Below X d (remainder_by X K n d x y)
  remainder-small n d {x} {y} hx hy e =
      remainder-below X K (sz n x - d) d (size-extent X K n d hy e) (below-mono X (omega arith) (size_below X K n hx))

  -- more fuel, or more room, changes nothing
  pub euclid-fuel : (a b n : ℕ) {x y : S} → Below X n x → Below X n y → sz n y ≤ a → sz n y ≤ b → euclid X K a n x y ≡ euclid X K b n x y
  euclid-fuel zero b n {x} {y} hx hy l m = let e : sz n y ≡ 0 = omega arith in euclid-end 0 n x y e ∙ sym (euclid-end b n x y e)
  euclid-fuel (suc a) zero n {x} {y} hx hy l m = let e : sz n y ≡ 0 = omega arith in euclid-end (suc a) n x y e ∙ sym (euclid-end 0 n x y e)
  euclid-fuel (suc a) (suc b) n {x} {y} hx hy l m =
      go
      (λ d e. let small = remainder-small n d hx hy e in
      let shorter = size-least X K n d small in
      euclid-fuel a b n hy (below-mono X (let room = size-le X K n y in omega arith) small) (omega arith) (omega arith))
      (sz n y) refl
    where
      go : ((d : ℕ) → sz n y ≡ suc d → euclid X K a n y (remainder_by X K n d x y) ≡ euclid X K b n y (remainder_by X K n d x y)) → (j : ℕ)
          → sz n y ≡ j → euclid X K (suc a) n x y ≡ euclid X K (suc b) n x y
      go ih zero e = euclid-end (suc a) n x y e ∙ sym (euclid-end (suc b) n x y e)
      go ih (suc d) e = euclid-round a n d x y e ∙ ap (next X K (quotient_by X K n d x y)) (ih d e) ∙ sym (euclid-round b n d x y e)

  pub euclid-room : (a n m : ℕ) {x y : S} → Below X n x → Below X n y → Below X m x → Below X m y → euclid X K a n x y ≡ euclid X K a m x y
  unfolding euclid
  euclid-room zero n m hx hy gx gy = refl
  euclid-room (suc a) n m {x} {y} hx hy gx gy =
      go
      (λ d e. let small = remainder-small n d hx hy e in
      euclid-room a n m hy (below-mono X (let room = size-le X K n y in omega arith) small) gy
      (below-mono X (let room = size-le X K m y in let same = size_same X K n m hy gy in omega arith) small))
      (sz n y) refl
    where
      go : ((d : ℕ) → sz n y ≡ suc d → euclid X K a n y (remainder_by X K n d x y) ≡ euclid X K a m y (remainder_by X K n d x y)) → (j : ℕ)
          → sz n y ≡ j → euclid X K (suc a) n x y ≡ euclid X K (suc a) m x y
      go ih zero e = euclid-end (suc a) n x y e ∙ sym (euclid-end (suc a) m x y (sym (size_same X K n m hy gy) ∙ e))
      go ih (suc d) e =
          euclid-round a n d x y e ∙ ap (next X K (quotient_by X K n d x y)) (ih d e)
          ∙ ap (λ k. next X K (quotient X K (k - d) d x y) (euclid X K a m y (remainder X K (k - d) d x y))) (size_same X K n m hx gx)
          ∙ sym (euclid-round a m d x y (sym (size_same X K n m hy gy) ∙ e))

  -- one round, with no fuel to count
  pub round-law : (n d : ℕ) {x y : S} → Below X n x → Below X n y → sz n y ≡ suc d
      → euclid X K n n x y ≡ next X K (quotient_by X K n d x y) (euclid X K n n y (remainder_by X K n d x y))
  round-law n d {x} {y} hx hy e =
      let room = size-le X K n y in
      let shorter = size-least X K n d (remainder-small n d hx hy e) in
      euclid-fuel n (suc n) n hx hy room (omega arith) ∙ euclid-round n n d x y e

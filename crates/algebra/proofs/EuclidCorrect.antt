-- Euclid's algorithm is right.
--     EuclidOk n x y z     z is an answer on (x, y): the identity, the common divisor and the bounds
-- Theorem:
--     euclid-ok     what `euclid` computes is such an answer, where fuel is at least size n y
-- Assumes nothing.
use mathlib.Core.Path.{◌≡◌, ◌∙◌, refl, sym, ap, ap₂, subst}
use Prim.Native.Nat.{ℕ, zero, suc, ◌-◌, ◌≤◌, ◌<◌, max, zero-le}
use native.Mathlib.Nat as N
use native.Mathlib.Omega.{arith}
use Rattle.algebra.specs.RingLaws as R
use Rattle.algebra.specs.Ring.{CommRing, IsField}
use Rattle.algebra.specs.RingLaws.{RING}
use Rattle.algebra.specs.Series.{SeriesRing}
use Rattle.algebra.specs.Polynomial.{Below, Divides}
use Rattle.algebra.proofs.Polynomial.{below-mono, below-0, below-add, below-neg, below-1, below-mul, polynomial, polynomial-0, polynomial-1, polynomial-add, polynomial-mul}
use Rattle.algebra.specs.Degree.{Degree, size}
use Rattle.algebra.proofs.Degree.{size-le, size_below, size-extent, size-least, size-zero}
use Rattle.algebra.specs.Division.{remainder, quotient}
use Rattle.algebra.proofs.Division.{remainder-zero, quotient-zero, division, remainder-below, quotient-below}
use Rattle.algebra.specs.Euclid.{Euclid, quotient_by, remainder_by, done, next, euclid}
use Rattle.algebra.proofs.Euclid.{euclid-end, euclid-round, remainder-small}

module _ {Rg : CommRing} (X : SeriesRing Rg) (K : IsField Rg) where
  open X.ring use {Carrier as S, zero as 0ˢ, one as 1ˢ, neg as -ˢ◌, add as ◌+ˢ◌, mul as ◌*ˢ◌}

  infixl 65 ◌+ˢ◌
  infixl 70 ◌*ˢ◌
  infix 80 -ˢ◌
  -- the number of coefficients
  abbrev sz : ℕ → S → ℕ
  sz = size X K

  -- the last x divides both, in at most size n y rounds; where y is not 0, by_x is below size y - size last,
  -- and by_y below size x - size last, or a constant
  pub record EuclidOk (n : ℕ) (x y : S) (z : Euclid X K) : Type 0 where
    pub bezout : z.by_x *ˢ x +ˢ z.by_y *ˢ y ≡ z.last
    pub left : Divides X z.last x
    pub right : Divides X z.last y
    pub below : Below X n z.last
    pub few : z.rounds ≤ sz n y
    pub small : 0 < sz n y → sz n z.last ≤ sz n y
    pub by_x-below : 0 < sz n y → Below X (sz n y - sz n z.last) z.by_x
    pub by_y-below : 0 < sz n y → Below X (max 1 (sz n x - sz n z.last)) z.by_y

  done_ok : (n : ℕ) {x y : S} → Below X n x → Below X n y → sz n y ≡ 0 → EuclidOk n x y (done X K x)
  unfolding done
  done_ok n {x} {y} hx hy e =
      record {
        bezout = simp RING;
        left = record { cofactor = 1ˢ; polynomial = polynomial-1 X; equation = simp RING };
        right = record { cofactor = 0ˢ; polynomial = polynomial-0 X; equation = size-zero X K n hy e ∙ simp RING };
        below = hx;
        few = zero-le;
        small = λ l. absurd (omega arith);
        by_x-below = λ l. absurd (omega arith);
        by_y-below = λ l. absurd (omega arith);
      }

  bezout-next : (a b q x y r : S) → x ≡ q *ˢ y +ˢ r → b *ˢ x +ˢ (a +ˢ -ˢ (b *ˢ q)) *ˢ y ≡ a *ˢ y +ˢ b *ˢ r
  bezout-next a b q x y r e = ap (λ z. b *ˢ z +ˢ (a +ˢ -ˢ (b *ˢ q)) *ˢ y) e ∙ expand a b q y r
    where
      expand : (a b q y r : S) → b *ˢ (q *ˢ y +ˢ r) +ˢ (a +ˢ -ˢ (b *ˢ q)) *ˢ y ≡ a *ˢ y +ˢ b *ˢ r
      expand a b q y r = simp RING

  factor-out : (q h a b : S) → q *ˢ (h *ˢ a) +ˢ h *ˢ b ≡ h *ˢ (q *ˢ a +ˢ b)
  factor-out q h a b = simp RING

  below-mul-0 : {n : ℕ} (a : S) {q : S} → q ≡ 0ˢ → Below X n (a *ˢ q)
  below-mul-0 {n} a {q} e = subst (λ w. Below X n w) (sym (ap (λ w. a *ˢ w) e ∙ R.mul-zero X.ring a)) (below-0 X n)

  next-ok : (n d : ℕ) {x y : S} → Below X n x → Below X n y → (e : sz n y ≡ suc d) (z : Euclid X K)
      → EuclidOk n y (remainder_by X K n d x y) z → (sz n (remainder_by X K n d x y) ≡ 0 → z ≡ done X K y)
      → EuclidOk n x y (next X K (quotient_by X K n d x y) z)
  unfolding next done
  next-ok n d {x} {y} hx hy e z ok fin =
      record {
        bezout = bezout-next z.by_x z.by_y q x y r (division X K k d x y) ∙ ok.bezout;
        left = divides-x;
        right = ok.left;
        below = ok.below;
        few = let rounds = ok.few in omega (arith, size-remainder);
        small = λ l. small' (sz n r) refl;
        by_x-below = λ l. by_x' (sz n r) refl;
        by_y-below = λ l. by_y' (sz n r) refl (sz n x - d) refl;
      }
    where
      k : ℕ
      k = sz n x - d

      q : S
      q = quotient X K k d x y

      r : S
      r = remainder X K k d x y

      divides-x : Divides X z.last x
      divides-x =
          record {
            cofactor = q *ˢ ok.left.cofactor +ˢ ok.right.cofactor;
            polynomial =
                polynomial-add X (polynomial-mul X (polynomial X (quotient-below X K k d x y)) ok.left.polynomial)
                ok.right.polynomial;
            equation =
                division X K k d x y ∙ ap₂ (λ a b. q *ˢ a +ˢ b) ok.left.equation ok.right.equation
                ∙ factor-out q z.last ok.left.cofactor ok.right.cofactor;
          }

      degree-y : Degree X d y
      degree-y = size-extent X K n d hy e

      remainder-short : Below X d r
      remainder-short = remainder-below X K k d degree-y (below-mono X (omega arith) (size_below X K n hx))

      size-remainder : sz n r ≤ d
      size-remainder = size-least X K n d remainder-short

      small' : (j : ℕ) → sz n r ≡ j → sz n z.last ≤ sz n y
      small' zero f = N.le_of_eq (ap (λ w. sz n w.last) (fin f))
      small' (suc j) f = let smaller = ok.small (omega arith) in omega (arith, size-remainder)

      by_x' : (j : ℕ) → sz n r ≡ j → Below X (sz n y - sz n z.last) z.by_y
      by_x' zero f = subst (λ w. Below X (sz n y - sz n z.last) w.by_y) (sym (fin f)) (below-0 X _)
      by_x' (suc j) f = let smaller = ok.small (omega arith) in below-mono X (omega (arith, size-remainder)) (ok.by_y-below (omega arith))

      last1 : (a b : S) → a ≡ 1ˢ → b ≡ 0ˢ → Below X 1 (a +ˢ -ˢ (b *ˢ q))
      last1 a b u v = subst (λ w. Below X 1 w) (sym (ap₂ (λ a b. a +ˢ -ˢ (b *ˢ q)) u v ∙ simp RING)) (below-1 X)

      by_y' : (j : ℕ) → sz n r ≡ j → (i : ℕ) → sz n x - d ≡ i → Below X (max 1 (sz n x - sz n z.last)) (z.by_x +ˢ -ˢ (z.by_y *ˢ q))
      by_y' zero f i g = below-mono X (omega arith) (last1 z.by_x z.by_y (ap (λ w. w.by_x) (fin f)) (ap (λ w. w.by_y) (fin f)))
      by_y' (suc j) f zero g = let same : sz n r ≡ sz n x = ap (sz n) (ap (λ i. remainder X K i d x y) g ∙ remainder-zero X K d x y) in
          below-add X (below-mono X (omega arith) (ok.by_x-below (omega arith)))
          (below-neg X (below-mul-0 z.by_y (ap (λ i. quotient X K i d x y) g ∙ quotient-zero X K d x y)))
      by_y' (suc j) f (suc i) g = let smaller = ok.small (omega arith) in
          below-add X (below-mono X (omega (arith, size-remainder)) (ok.by_x-below (omega arith)))
          (below-neg X
          (below-mono X (omega (arith, size-remainder))
          (below-mul X (d - sz n z.last) k (below-mono X (omega (arith, size-remainder)) (ok.by_y-below (omega arith)))
          (quotient-below X K k d x y))))

  -- the algorithm is right
  pub euclid-ok : (fuel n : ℕ) {x y : S} → Below X n x → Below X n y → sz n y ≤ fuel → EuclidOk n x y (euclid X K fuel n x y)
  euclid-ok zero n {x} {y} hx hy l = let e : sz n y ≡ 0 = omega arith in rw (euclid-end X K 0 n x y e) (done_ok n hx hy e)
  euclid-ok (suc fuel) n {x} {y} hx hy l =
      go
      (λ d e. let small = remainder-small X K n d hx hy e in
      euclid-ok fuel n hy (below-mono X (let room = size-le X K n y in omega arith) small)
      (let shorter = size-least X K n d small in omega arith))
      (sz n y) refl
    where
      go : ((d : ℕ) → (e : sz n y ≡ suc d) → EuclidOk n y (remainder_by X K n d x y) (euclid X K fuel n y (remainder_by X K n d x y)))
          → (j : ℕ) → sz n y ≡ j → EuclidOk n x y (euclid X K (suc fuel) n x y)
      go ih zero e = rw (euclid-end X K (suc fuel) n x y e) (done_ok n hx hy e)
      go ih (suc d) e =
          rw (euclid-round X K fuel n d x y e)
          (next-ok n d hx hy e (euclid X K fuel n y (remainder_by X K n d x y)) (ih d e)
          (λ f. euclid-end X K fuel n y (remainder_by X K n d x y) f))

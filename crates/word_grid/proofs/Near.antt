-- Sixteen rows modulo p.
--     Near p x y                    two numbers are the same modulo p
--     near_add                      sums of numbers that are the same modulo p
--     pair-near, pair-term          a pair is the sum of two products modulo p, those of its rows
--     strip-near                    sixteen rows at an output
--     whole-halves, high-below      what the halves of sixteen rows come to
-- Assumes nothing.
use Rattle.std.proofs.Common.{◌≡◌, ℕ, zero, suc, ◌+◌, ◌-◌, ◌*◌, ◌/◌, ◌%◌, ◌<◌, ◌≤◌, List, get_or, sym, refl, ap, arith}
use Rattle.word_pairs.specs.Pairs.{up, pair_of}
use Rattle.word_pairs.proofs.Integers.{least, most, up-less}
use Rattle.word_strips.specs.Strips.{pair_at, whole_at, high_at}
use Rattle.word_layout.specs.Layout.{Stand}
use Rattle.word_grid.specs.Grid.{sum_to, Laid}
use Rattle.word_grid.proofs.Rows.{term_at}

pub record Near (p x y : ℕ) : Type 0 where
  pub left : ℕ
  pub right : ℕ
  pub at : x + p * left ≡ y + p * right

pub near_add : {p x y x' y' : ℕ} → Near p x y → Near p x' y' → Near p (x + x') (y + y')
near_add a b = record { left = a.left + b.left; right = a.right + b.right; at = omega (arith, a.at, b.at) }

single : (p x z a d b c : ℕ) → x + p * b ≡ a + 32768 → z + p * c ≡ d + 32768
    → x * z + 1073741824 + p * (b * d + c * a) ≡ 32768 * x + 32768 * z + a * d + p * (p * b * c)
single p x z a d b c e f = omega (arith, ap (λ i. i * z) e, ap (λ i. a * i) f, ap (λ i. p * b * i) f, e)

pub pair-near : {p y0 x0 y1 x1 w0 v0 w1 v1 : ℕ} → Stand p y0 w0 → Stand p x0 v0 → Stand p y1 w1 → Stand p x1 v1
    → Near p (pair_of w0 v0 w1 v1) (2147483648 + (x0 * y0 + x1 * y1))
unfolding pair_of
pair-near {p} {y0} {x0} {y1} {x1} {w0} {v0} {w1} {v1} a b c d =
    let s = single p (up w0) (up v0) y0 x0 a.turns b.turns a.at b.at in
    let t = single p (up w1) (up v1) y1 x1 c.turns d.turns c.at d.at in
    record {
      left = a.turns * x0 + b.turns * y0 + (c.turns * x1 + d.turns * y1);
      right = p * a.turns * b.turns + p * c.turns * d.turns;
      at = omega (arith, s, t, least (up w0) (up v0) (up-less w0) (up-less v0), least (up w1) (up v1) (up-less w1) (up-less v1));
    }

-- pair e of the group from row b on
pub pair-term : {p : ℕ} {a y w x : List ℕ} (b k d e : ℕ) → d + 4 * e ≡ 28 → Laid p a y w x
    → Near p (pair_at w x b k d e) (2147483648 + (term_at a y b k (2 * e) + term_at a y b k (2 * e + 1)))
unfolding pair_at term_at
pair-term {p} {a} {y} {w} {x} b k d e q l =
    pair-near
    (move y w (k + 14 - 2 * e + 1) (k + 15 - 2 * e) (2 * (k + 14 - 2 * e)) (2 * k + d) (omega (arith, q)) (omega (arith, q)) (l.upper (k + 14 - 2 * e)))
    (l.first (b + 2 * e))
    (move y w (k + 14 - 2 * e) (k + 15 - (2 * e + 1)) (2 * (k + 14 - 2 * e) + 1) (2 * k + d + 1) (omega (arith, q)) (omega (arith, q)) (l.lower (k + 14 - 2 * e)))
    (move a x (b + 2 * e + 1) (b + (2 * e + 1)) (b + 2 * e + 1) (b + 2 * e + 1) (omega arith) refl (l.first (b + 2 * e + 1)))
  where
    move : (s t : List ℕ) (i i' j j' : ℕ) → i ≡ i' → j ≡ j' → Stand p (get_or s i 0) (get_or t j 0) → Stand p (get_or s i' 0) (get_or t j' 0)
    move s t i i' j j' e f x = rw (sym e, sym f) x

pub strip-near : {p : ℕ} {a y w x : List ℕ} (b k : ℕ) → Laid p a y w x
    → Near p (whole_at w x b k) (17179869184 + sum_to 16 (term_at a y b k))
unfolding whole_at sum_to
strip-near {p} {a} {y} {w} {x} b k l =
    let s =
    near_add (near_add (near_add (near_add (near_add (near_add (near_add (pair-term b k 28 0 refl l) (pair-term b k 24 1 refl l))
    (pair-term b k 20 2 refl l)) (pair-term b k 16 3 refl l)) (pair-term b k 12 4 refl l)) (pair-term b k 8 5 refl l)) (pair-term b k 4 6 refl l))
    (pair-term b k 0 7 refl l) in
    record { left = s.left; right = s.right; at = omega (arith, s.at) }

-- a product of two words read as signed is at most 2^30
product_le : (x y : ℕ) → x < 65536 → y < 65536 → x * y ≤ x * 32768 + 32768 * y
product_le zero y h g = omega arith
product_le (suc x) y h g = omega (arith, most (suc x) y (omega arith) h g)

pair-le : (w0 v0 w1 v1 : ℕ) → pair_of w0 v0 w1 v1 ≤ 4294967296
unfolding pair_of
pair-le w0 v0 w1 v1 = omega (arith, product_le (up w0) (up v0) (up-less w0) (up-less v0), product_le (up w1) (up v1) (up-less w1) (up-less v1))

half_le : (w x : List ℕ) (j k d e : ℕ) → pair_at w x j k d e / 65536 ≤ 65536
unfolding pair_at
half_le w x j k d e =
    omega (arith, pair-le (get_or w (2 * k + d) 0) (get_or x (j + 2 * e) 0) (get_or w (2 * k + d + 1) 0) (get_or x (j + 2 * e + 1) 0))

pub high-below : (w x : List ℕ) (j k : ℕ) → high_at w x j k ≤ 524288
unfolding high_at
high-below w x j k =
    let h = half_le w x j k in
    omega (arith, h 28 0, h 24 1, h 20 2, h 16 3, h 12 4, h 8 5, h 4 6, h 0 7)

-- eight numbers by halves
pub record Halves (s h : ℕ) : Type 0 where
  pub low : ℕ
  pub low-le : low ≤ 524280
  pub sum : s ≡ low + 65536 * h

record Some (m s h : ℕ) : Type 0 where
  low : ℕ
  low-le : low ≤ m * 65535
  sum : s ≡ low + 65536 * h

one : (n : ℕ) → Some 1 n (n / 65536)
one n = record { low = n % 65536; low-le = omega arith; sum = omega arith }

more : {m s h : ℕ} → Some m s h → (n : ℕ) → Some (m + 1) (s + n) (h + n / 65536)
more r n = record { low = r.low + n % 65536; low-le = omega (arith, r.low-le); sum = omega (arith, r.sum) }

pub whole-halves : (w x : List ℕ) (j k : ℕ) → Halves (whole_at w x j k) (high_at w x j k)
unfolding whole_at high_at
whole-halves w x j k =
    let f = pair_at w x j k in
    let r = more (more (more (more (more (more (more (one (f 28 0)) (f 24 1)) (f 20 2)) (f 16 3)) (f 12 4)) (f 8 5)) (f 4 6)) (f 0 7) in
    record { low = r.low; low-le = omega (arith, r.low-le); sum = r.sum }

-- The outputs of sixteen rows, one after the other.
--     pair_is       what a pair of v is, where v repeats the pairs of x
--     turn-gain     what one turn of the loop over a strip adds
--     half-gain     the same where the last eight rows are 0
--     joined        one range of outputs after another
--     single        one output
-- Assumes nothing.
use mathlib.Core.Path.{◌≡◌, sym, ap, ◌∙◌, subst}
use mathlib.Core.List.{List}
use Prim.Native.Nat.{ℕ, ◌+◌, ◌*◌, ◌/◌, ◌%◌, ◌≤◌, ◌<◌}
use native.Mathlib.Decide.{dec_lt}
use native.Mathlib.Omega.{arith}
use lib.ListN.{length, get_or, set, length-set}
use lib.Seq.{get_or-set_same, get_or-set_other}
use lib.IntN.{ℤ}
use mir.Syntax.{w32}
use mir.Val.{SFits}
use Rattle.lists.specs.Words.{ZeroFrom}
use Rattle.word_pairs.specs.Pairs.{up, up32, pair_of}
use Rattle.word_pairs.proofs.Integers.{rd, rd-up}
use Rattle.word_strips.specs.Strips.{pair_at, whole_at, high_at, Gain, Spread, Span}

pub pair_is :
    (n : ℕ) (w v x : List ℕ) (j : ℕ) → Spread n v x j → (k l d e : ℕ) → l < 16 → e < n → (z : ℤ) → SFits w32 z
    → up32 z ≡ pair_of (get_or w (2 * k + d) 0) (get_or v (2 * l + 32 * e) 0) (get_or w (2 * k + d + 1) 0) (get_or v (2 * l + 32 * e + 1) 0)
    → up32 (rd z) ≡ pair_at w x j k d e
unfolding pair_at
pair_is n w v x j s k l d e hl he z f q =
    rd-up z f q
    ∙ ap (λ y. pair_of (get_or w (2 * k + d) 0) y (get_or w (2 * k + d + 1) 0) (get_or v (2 * l + 32 * e + 1) 0)) (s.first l e hl he)
    ∙ ap (λ y. pair_of (get_or w (2 * k + d) 0) (get_or x (j + 2 * e) 0) (get_or w (2 * k + d + 1) 0) y) (s.second l e hl he)

-- equal terms have equal sums
same : {x0 x1 x2 x3 x4 x5 x6 x7 y0 y1 y2 y3 y4 y5 y6 y7 : ℕ} → x0 ≡ y0 → x1 ≡ y1 → x2 ≡ y2 → x3 ≡ y3 → x4 ≡ y4 → x5 ≡ y5 → x6 ≡ y6 → x7 ≡ y7
    → x0 + x1 + x2 + x3 + x4 + x5 + x6 + x7 ≡ y0 + y1 + y2 + y3 + y4 + y5 + y6 + y7
same e0 e1 e2 e3 e4 e5 e6 e7 = rw (e0, e1, e2, e3, e4, e5, e6, e7)

half : {x y : ℕ} → x ≡ y → x / 65536 ≡ y / 65536
half e = ap (λ u. u / 65536) e

-- four numbers and four more are eight
both-whole : (a u0 u1 u2 u3 u4 u5 u6 u7 : ℕ) {c c' : ℕ}
    → c' ≡ (a + (u0 + u1 + u2 + u3)) % 4294967296 → c ≡ (c' + (u4 + u5 + u6 + u7)) % 4294967296
    → c ≡ (a + (u0 + u1 + u2 + u3 + u4 + u5 + u6 + u7)) % 4294967296
both-whole a u0 u1 u2 u3 u4 u5 u6 u7 e f = omega (arith, e, f)

both_high : (b u0 u1 u2 u3 u4 u5 u6 u7 : ℕ) {d d' : ℕ}
    → d' ≡ (b + 4294836224 + (u0 + u1 + u2 + u3)) % 4294967296 → d ≡ (d' + 4294836224 + (u4 + u5 + u6 + u7)) % 4294967296
    → d ≡ (b + 4294705152 + (u0 + u1 + u2 + u3 + u4 + u5 + u6 + u7)) % 4294967296
both_high b u0 u1 u2 u3 u4 u5 u6 u7 e f = omega (arith, e, f)

blank : (w0 w1 : ℕ) → pair_of w0 0 w1 0 ≡ 2147483648
unfolding pair_of up
blank w0 w1 = omega arith

-- a pair of rows that are 0, and what four of them add
pair-zero : (w x : List ℕ) (j k d e : ℕ) → get_or x (j + 2 * e) 0 ≡ 0 → get_or x (j + 2 * e + 1) 0 ≡ 0 → pair_at w x j k d e ≡ 2147483648
unfolding pair_at
pair-zero w x j k d e f g = rw (f, g) (blank (get_or w (2 * k + d) 0) (get_or w (2 * k + d + 1) 0))

stays-whole : (n : ℕ) {c : ℕ} → c ≡ n % 4294967296 → c ≡ (c + (2147483648 + 2147483648 + 2147483648 + 2147483648)) % 4294967296
stays-whole n e = omega (arith, e)

stays-high : (n : ℕ) {d : ℕ} → d ≡ n % 4294967296
    → d ≡ (d + 4294836224 + (2147483648 / 65536 + 2147483648 / 65536 + 2147483648 / 65536 + 2147483648 / 65536)) % 4294967296
stays-high n e = omega (arith, e)

pub turn-gain :
    (w x : List ℕ) (j k a b : ℕ) {c' d' c d u0 u1 u2 u3 u4 u5 u6 u7 : ℕ}
    → u0 ≡ pair_at w x j k 28 0 → u1 ≡ pair_at w x j k 24 1 → u2 ≡ pair_at w x j k 20 2 → u3 ≡ pair_at w x j k 16 3
    → u4 ≡ pair_at w x j k 12 4 → u5 ≡ pair_at w x j k 8 5 → u6 ≡ pair_at w x j k 4 6 → u7 ≡ pair_at w x j k 0 7
    → c' ≡ (a + (u0 + u1 + u2 + u3)) % 4294967296
    → c ≡ (c' + (u4 + u5 + u6 + u7)) % 4294967296
    → d' ≡ (b + 4294836224 + (u0 / 65536 + u1 / 65536 + u2 / 65536 + u3 / 65536)) % 4294967296
    → d ≡ (d' + 4294836224 + (u4 / 65536 + u5 / 65536 + u6 / 65536 + u7 / 65536)) % 4294967296
    → Gain a b c d (whole_at w x j k) (high_at w x j k)
unfolding whole_at high_at
turn-gain w x j k a b e0 e1 e2 e3 e4 e5 e6 e7 ec ec' ed ed' = record {
  whole = both-whole _ _ _ _ _ _ _ _ _ ec ec' ∙ ap (λ s. (a + s) % 4294967296) (same e0 e1 e2 e3 e4 e5 e6 e7);
  high = both_high _ _ _ _ _ _ _ _ _ ed ed' ∙ ap (λ s. (b + 4294705152 + s) % 4294967296) (same (half e0) (half e1) (half e2) (half e3) (half e4) (half e5) (half e6) (half e7));
}

pub half-gain :
    (w x : List ℕ) (j k a b : ℕ) {c d u0 u1 u2 u3 : ℕ} → ZeroFrom (j + 8) x
    → u0 ≡ pair_at w x j k 28 0 → u1 ≡ pair_at w x j k 24 1 → u2 ≡ pair_at w x j k 20 2 → u3 ≡ pair_at w x j k 16 3
    → c ≡ (a + (u0 + u1 + u2 + u3)) % 4294967296
    → d ≡ (b + 4294836224 + (u0 / 65536 + u1 / 65536 + u2 / 65536 + u3 / 65536)) % 4294967296
    → Gain a b c d (whole_at w x j k) (high_at w x j k)
half-gain w x j k a b {c} {d} {u0} {u1} {u2} {u3} z e0 e1 e2 e3 ec ed =
    turn-gain w x j k a b e0 e1 e2 e3 (none 12 4 (omega arith)) (none 8 5 (omega arith)) (none 4 6 (omega arith)) (none 0 7 (omega arith))
    ec (stays-whole (a + (u0 + u1 + u2 + u3)) ec) ed (stays-high _ ed)
  where
    none : (d e : ℕ) → 4 ≤ e → 2147483648 ≡ pair_at w x j k d e
    none d e h = sym (pair-zero w x j k d e (z.at _ (omega arith)) (z.at _ (omega arith)))

module _ {w x : List ℕ} {b : ℕ} where
  pub joined : {m n r : ℕ} {lo hi lo' hi' lo'' hi'' : List ℕ} → m ≤ n → n ≤ r
      → Span w x b m n lo hi lo' hi' → Span w x b n r lo' hi' lo'' hi'' → Span w x b m r lo hi lo'' hi''
  joined {m} {n} {r} {lo} {hi} {lo'} {hi'} {lo''} {hi''} mn nr s t =
      record {
        size_lo = t.size_lo ∙ s.size_lo;
        size_hi = t.size_hi ∙ s.size_hi;
        done = λ k g h. go k g h (dec_lt k n);
        below_lo = λ k h. t.below_lo k (omega arith) ∙ s.below_lo k h;
        below_hi = λ k h. t.below_hi k (omega arith) ∙ s.below_hi k h;
        above_lo = λ k h. t.above_lo k h ∙ s.above_lo k (omega arith);
        above_hi = λ k h. t.above_hi k h ∙ s.above_hi k (omega arith);
      }
    where
      go : (k : ℕ) → m ≤ k → k < r → Dec (k < n)
          → Gain (get_or lo (b + k) 0) (get_or hi (b + k) 0) (get_or lo'' (b + k) 0) (get_or hi'' (b + k) 0) (whole_at w x b k) (high_at w x b k)
      go k g h (yes q) = rw (t.below_lo (b + k) (omega arith), t.below_hi (b + k) (omega arith)) (s.done k g q)
      go k g h (no q) =
          rw (sym (s.above_lo (b + k) (omega arith)), sym (s.above_hi (b + k) (omega arith))) (t.done k (omega arith) h)

  pub single : {k : ℕ} (lo hi : List ℕ) (o c d : ℕ) → o ≡ b + k → o < length lo → o < length hi
      → Gain (get_or lo o 0) (get_or hi o 0) c d (whole_at w x b k) (high_at w x b k)
      → Span w x b k (k + 1) lo hi (set lo o c) (set hi o d)
  single {k} lo hi o c d e hl hh g =
      record {
        size_lo = length-set lo o c;
        size_hi = length-set hi o d;
        done = λ i g h. here i (omega arith);
        below_lo = λ i h. get_or-set_other lo o i c 0 (omega (arith, e));
        below_hi = λ i h. get_or-set_other hi o i d 0 (omega (arith, e));
        above_lo = λ i h. get_or-set_other lo o i c 0 (omega (arith, e));
        above_hi = λ i h. get_or-set_other hi o i d 0 (omega (arith, e));
      }
    where
      here : (i : ℕ) → i ≡ k
          → Gain (get_or lo (b + i) 0) (get_or hi (b + i) 0) (get_or (set lo o c) (b + i) 0) (get_or (set hi o d) (b + i) 0) (whole_at w x b i) (high_at w x b i)
      here i q = rw (q, sym e, get_or-set_same lo o c 0 hl, get_or-set_same hi o d 0 hh) g

  pub to : {m n : ℕ} {lo hi lo' hi' : List ℕ} (r : ℕ) → n ≡ r → Span w x b m n lo hi lo' hi' → Span w x b m r lo hi lo' hi'
  to {m} {n} {lo} {hi} {lo'} {hi'} r e t = subst (λ i. Span w x b m i lo hi lo' hi') e t

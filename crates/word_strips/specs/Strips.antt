-- Sixteen rows of a product, by pairs. w has the words of the second factor, each beside the one before it: what is read from w is
-- proved to be that by whoever lays it. Sums are modulo 2^32.
--     pair_at w x j k d e     output k of two rows, those of words j + 2 e and j + 2 e + 1 of x, above -2^31; d is 28 - 4 e
--     eight f                the sum of eight pairs, each with its d and e
--     whole_at w x j k        output k of the sixteen rows from j on, above -2^34
--     high_at w x j k        the sum of its pairs' high halves, above -2^18
--     Spread n v x j         each of the first n pairs of words of x from j on stands sixteen times in v
--     Gain a b c d s h       the sums a and b become c and d: a gains s, b gains h less 2^18
--     Span w x b m n         outputs m to n - 1 of the sixteen rows from b on, which stand from b + m on in lo and hi, have gained; the
--                            rest is what it was
-- Assumes nothing.
use Rattle.std.specs.Prelude.{◌≡◌, List, ℕ, ◌+◌, ◌*◌, ◌/◌, ◌%◌, ◌≤◌, ◌<◌, length, get_or}
use Rattle.word_pairs.specs.Pairs.{pair_of}

unfoldable pub pair_at : (w x : List ℕ) → (j k d e : ℕ) → ℕ
pair_at w x j k d e = pair_of (get_or w (2 * k + d) 0) (get_or x (j + 2 * e) 0) (get_or w (2 * k + d + 1) 0) (get_or x (j + 2 * e + 1) 0)

abbrev pub eight : (ℕ → ℕ → ℕ) → ℕ
eight f = f 28 0 + f 24 1 + f 20 2 + f 16 3 + f 12 4 + f 8 5 + f 4 6 + f 0 7

unfoldable pub whole_at : (w x : List ℕ) → (j k : ℕ) → ℕ
whole_at w x j k = eight (λ d e. pair_at w x j k d e)

unfoldable pub high_at : (w x : List ℕ) → (j k : ℕ) → ℕ
high_at w x j k = eight (λ d e. pair_at w x j k d e / 65536)

pub record Spread (n : ℕ) (v x : List ℕ) (j : ℕ) : Type 0 where
  pub first : (l e : ℕ) → l < 16 → e < n → get_or v (2 * l + 32 * e) 0 ≡ get_or x (j + 2 * e) 0
  pub second : (l e : ℕ) → l < 16 → e < n → get_or v (2 * l + 32 * e + 1) 0 ≡ get_or x (j + 2 * e + 1) 0

pub record Gain (a b c d s h : ℕ) : Type 0 where
  pub whole : c ≡ (a + s) % 4294967296
  pub high : d ≡ (b + 4294705152 + h) % 4294967296

pub record Span (w x : List ℕ) (b m n : ℕ) (lo hi lo' hi' : List ℕ) : Type 0 where
  pub size_lo : length lo' ≡ length lo
  pub size_hi : length hi' ≡ length hi
  pub done : (k : ℕ) → m ≤ k → k < n
      → Gain (get_or lo (b + k) 0) (get_or hi (b + k) 0) (get_or lo' (b + k) 0) (get_or hi' (b + k) 0) (whole_at w x b k) (high_at w x b k)
  pub below_lo : (k : ℕ) → k < b + m → get_or lo' k 0 ≡ get_or lo k 0
  pub below_hi : (k : ℕ) → k < b + m → get_or hi' k 0 ≡ get_or hi k 0
  pub above_lo : (k : ℕ) → b + n ≤ k → get_or lo' k 0 ≡ get_or lo k 0
  pub above_hi : (k : ℕ) → b + n ≤ k → get_or hi' k 0 ≡ get_or hi k 0

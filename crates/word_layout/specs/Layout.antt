-- The two factors of a product in their buffers.
--     Stand p a x              the word x, read as signed, is a modulo p
--     Centred p d l s i        the first i words of l stand so in s, behind d zeros; the rest of s is 0, and no word of it is -2^15
--     Repeated o s t n         s and t stand n times from o on; the rest is what it was
--     Woven y w n              the words 1 to n of y, each beside the one before it; then zeros
-- Assumes nothing.
use Rattle.std.specs.Prelude.{◌≡◌, ℕ, ◌+◌, ◌*◌, ◌<◌, ◌≤◌, List, length, slice_index}
use Rattle.word_pairs.specs.Pairs.{up, Odd}

pub record Stand (p a x : ℕ) : Type 0 where
  pub turns : ℕ
  pub at : up x + p * turns ≡ a + 32768

pub record Centred (p d : ℕ) (l s : List ℕ) (i : ℕ) : Type 0 where
  pub low : (k : ℕ) → k < d → slice_index s k ≡ 0
  pub done : (k : ℕ) → k < i → Stand p (slice_index l k) (slice_index s (d + k))
  pub rest : (k : ℕ) → d + i ≤ k → slice_index s k ≡ 0
  pub odd : Odd s

pub record Repeated (o s t n : ℕ) (old new : List ℕ) : Type 0 where
  pub size : length new ≡ length old
  pub first : (l : ℕ) → l < n → slice_index new (o + 2 * l) ≡ s
  pub second : (l : ℕ) → l < n → slice_index new (o + 2 * l + 1) ≡ t
  pub below : (k : ℕ) → k < o → slice_index new k ≡ slice_index old k
  pub above : (k : ℕ) → o + 2 * n ≤ k → slice_index new k ≡ slice_index old k

pub record Woven (y w : List ℕ) (n : ℕ) : Type 0 where
  pub upper : (i : ℕ) → i < n → slice_index w (2 * i) ≡ slice_index y (i + 1)
  pub lower : (i : ℕ) → i < n → slice_index w (2 * i + 1) ≡ slice_index y i
  pub rest : (k : ℕ) → 2 * n ≤ k → slice_index w k ≡ 0

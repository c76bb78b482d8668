-- Words of 16 bits read as signed integers, and the sum of two of their products.
--     up             a word, read as signed, above -2^15
--     up32           an integer above -2^31
--     Diff z a b     an integer is the difference of two numbers
--     pair_of         the sum of two products of signed words, above -2^31
--     Odd w          no word of w, read as signed, is -2^15; then a pair has 32 bits
-- Assumes nothing.
use Rattle.std.specs.Prelude.{◌≡◌, ℕ, suc, ◌+◌, ◌-◌, ◌*◌, ◌%◌, ◌<◌, List, ℤ, pos, negsuc, slice_index}

unfoldable pub up : ℕ → ℕ
up x = (x + 32768) % 65536

unfoldable pub up32 : ℤ → ℕ
up32 (pos n) = 2147483648 + n
up32 (negsuc n) = 2147483647 - n

abbrev pub Diff : ℤ → (a b : ℕ) → Type 0
Diff (pos n) a b = n + b ≡ a
Diff (negsuc n) a b = a + suc n ≡ b

unfoldable pub pair_of : (w0 v0 w1 v1 : ℕ) → ℕ
pair_of w0 v0 w1 v1 = up w0 * up v0 + up w1 * up v1 + 4294967296 - 32768 * (up w0 + up v0 + up w1 + up v1)

pub record Odd (w : List ℕ) : Type 0 where
  pub at : (k : ℕ) → 0 < up (slice_index w k)

-- Factors cut in two parts, the first of h words.
--     Cut n m h                     factors of n and m words can be cut: the first has 2 h or 2 h - 1 words, the second from h + 2 to 2 h + 1
--     Apart F h a b out             out has the product of the first parts and, from word 2 h on, that of the second, with a 0 between them
--     halves_added p h l x          the words of x plus those of both parts of l
--     products_joined p h s out     the words of out + u^h · (s - l - r), where l is the first 2 h - 1 words of out, and r those from 2 h on
-- Theorems (proofs/Karatsuba):
--     karatsuba     where s is the product of the sums of the parts, and out that of the parts, joined they are the whole product
-- Assumes nothing.
use Rattle.std.specs.Prelude.{◌≡◌, List, ℕ, ◌+◌, ◌-◌, ◌*◌, ◌≤◌, get_or, take, drop}
use Rattle.algebra.specs.PrimeField.{PrimeField}
use Rattle.word_row.specs.Rows.{row, row_from}
use Rattle.word_product.specs.Convolution.{convolution}
use Rattle.word_division.specs.Reduction.{negated}

abbrev pub Cut : (n m h : ℕ) → Type 0
Cut n m h = (4 ≤ h) × (2 * h ≤ n + 1) × (n ≤ 2 * h) × (h + 2 ≤ m) × (m ≤ 2 * h + 1)

pub record Apart (F : PrimeField) (h : ℕ) (a b out : List ℕ) : Type 0 where
  pub first : take (2 * h - 1) out ≡ convolution F (take h a) (take h b)
  pub gap : get_or out (2 * h - 1) 0 ≡ 0
  pub second : drop (2 * h) out ≡ convolution F (drop h a) (drop h b)

unfoldable pub halves_added : (p h : ℕ) → (l x : List ℕ) → List ℕ
halves_added p h l x = row p (row p x 1 (take h l)) 1 (drop h l)

unfoldable pub products_joined : (p h : ℕ) → (s out : List ℕ) → List ℕ
products_joined p h s out =
    row_from p h out 1 (row p (row p s (negated p 1) (take (2 * h - 1) out)) (negated p 1) (drop (2 * h) out))

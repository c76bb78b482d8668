-- The steps of polynomial division on words, for every input.
--     digit              a word of the quotient: word d + k of x times the inverse of the divisor's last word, d + 1 words being the divisor's
--     negated            minus a word, modulo p
--     reduced            the words that are left of x after k steps of the division by y, from the top
--     digits             the k words of the quotient, c_0 first
--     less_product       the words of s - q · t, in as many words as s has
--     reduce_fits        the slices' lengths fit; where they do not, `reduce` writes nothing
--     words_reduced, words_of_quotient     what the slices x and q hold after `reduce`
-- Assumes nothing.
use Rattle.std.specs.Prelude.{Bool, cond, ◌&&◌, List, [], ◌∷◌, ◌++◌, ℕ, zero, suc, ◌+◌, ◌-◌, ◌*◌, ◌%◌, leb, eqb, length, get_or}
use Rattle.word_row.specs.Rows.{row_from}

unfoldable pub negated : (p a : ℕ) → ℕ
negated p a = (p - a % p) % p

unfoldable pub digit : (p inv : ℕ) (y : List ℕ) (k : ℕ) → List ℕ → ℕ
digit p inv y k x = (get_or x (length y - 1 + k) 0 * inv) % p

unfoldable pub reduced : (p inv : ℕ) (y : List ℕ) (k : ℕ) → List ℕ → List ℕ
reduced p inv y zero x = x
reduced p inv y (suc k) x = reduced p inv y k (row_from p k x (negated p (digit p inv y k x)) y)

unfoldable pub digits : (p inv : ℕ) (y : List ℕ) (k : ℕ) → List ℕ → List ℕ
digits p inv y zero x = []
digits p inv y (suc k) x =
    digits p inv y k (row_from p k x (negated p (digit p inv y k x)) y) ++ (digit p inv y k x ∷ [])

-- after the first k words of q
unfoldable pub less_product_to : (p k : ℕ) → (s q t : List ℕ) → List ℕ
less_product_to p zero s q t = s
less_product_to p (suc k) s q t = row_from p k (less_product_to p k s q t) (negated p (get_or q k 0)) t

unfoldable pub less_product : ℕ → (s q t : List ℕ) → List ℕ
less_product p s q t = less_product_to p (length q) s q t

unfoldable pub reduce_fits : (x y q : List ℕ) → Bool
reduce_fits x y q = leb 1 (length y) && eqb (length x + 1) (length y + length q)

abbrev pub words_reduced : (p inv : ℕ) → (x y q : List ℕ) → List ℕ
words_reduced p inv x y q = cond (reduce_fits x y q) (reduced p inv y (length q) x) x

abbrev pub words_of_quotient : (p inv : ℕ) → (x y q : List ℕ) → List ℕ
words_of_quotient p inv x y q = cond (reduce_fits x y q) (digits p inv y (length q) x) q

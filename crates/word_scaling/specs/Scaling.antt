-- Words weighed with the entries of two tables.
--     weighted_at                    word k of x times entry n - 1 of whole, entry k of part and entry n - 1 - k of part, modulo p
--     weighted p whole part n x      the first n words of x, weighed so
--     weigh_fits                     the words and both tables are as long as the result
--     weighed_into                   what the result slice holds at the end: the weighed words where they fit, else what it held
--     partly p e x a b               x times a times b divided by 2^32 modulo p, where e is 1/p modulo 2^16
--     partly_weighted p e part n x   the first n words of x, word k times entry k of part and entry n - 1 - k of part, divided by 2^32
-- Theorems (proofs/Weights):
--     scale-is, unscale-is     with the tables of factorials and of their inverses these are the words of a list's scaled form, and
--                              of the list of a scaled form
--     partly-scaled            with the table of inverse factorials, times (n-1)! and 2^32, partly_weighted has the scaled form of a list
-- Assumes nothing.
use Rattle.std.specs.Prelude.{ℕ, ◌-◌, ◌*◌, ◌%◌, Bool, cond, ◌&&◌, List, length, nat_le, slice_index}
use Rattle.lists.specs.Tabulate.{tabulate}
use Rattle.word_montgomery.specs.Montgomery.{montgomery}

unfoldable pub weighted_at : (p : ℕ) → (whole part : List ℕ) → (n : ℕ) → List ℕ → ℕ → ℕ
weighted_at p whole part n x k = (slice_index x k * slice_index whole (n - 1) * slice_index part k * slice_index part (n - 1 - k)) % p

unfoldable pub weighted : (p : ℕ) → (whole part : List ℕ) → (n : ℕ) → List ℕ → List ℕ
weighted p whole part n x = tabulate n (weighted_at p whole part n x)

unfoldable pub weigh_fits : (words whole part out : List ℕ) → Bool
weigh_fits words whole part out =
    nat_le (length out) (length words) && (nat_le (length out) (length whole) && nat_le (length out) (length part))

abbrev pub weighed_into : (p : ℕ) → (words whole part out : List ℕ) → List ℕ
weighed_into p words whole part out = cond (weigh_fits words whole part out) (weighted p whole part (length out) words) out

unfoldable pub partly : (p e x a b : ℕ) → ℕ
partly p e x a b = montgomery p e b (montgomery p e a x)

unfoldable pub partly_weighted : (p e : ℕ) → (part : List ℕ) → (n : ℕ) → List ℕ → List ℕ
partly_weighted p e part n x = tabulate n (λ k. partly p e (slice_index x k) (slice_index part k) (slice_index part (n - 1 - k)))

-- Remainders by 2^16 - p.
--     split                            2^16 is 2^16 - p modulo p
--     length-reduced, get_or-reduced   the words, reduced
-- Assumes nothing.
use Rattle.std.proofs.Common.{◌≡◌, ℕ, ◌+◌, ◌*◌, ◌%◌, ◌<◌, List, length, get_or, sym, ap, ◌∙◌, arith}
use Rattle.lists.proofs.Tabulate.{length-tabulate, get_or-tabulate}
use Rattle.word_grid.specs.Grid.{low_of, high_of, reduced_words}

-- c is 2^16 - p
module _ (p c : ℕ) (e : c + p ≡ 65536) where
  pub split : (q : ℕ) → c * q + p * q ≡ 65536 * q
  split q = sym (omega arith) ∙ ap (λ x. x * q) e

pub length-reduced : (p n : ℕ) (lo hi : List ℕ) → length (reduced_words p n lo hi) ≡ n
unfolding reduced_words
length-reduced p n lo hi = length-tabulate n _

pub get_or-reduced : (p n : ℕ) (lo hi : List ℕ) (k : ℕ) → k < n
    → get_or (reduced_words p n lo hi) k 0 ≡ (low_of (get_or lo k 0) (get_or hi k 0) + 65536 * high_of p (get_or hi k 0)) % p
unfolding reduced_words
get_or-reduced p n lo hi k l = get_or-tabulate n _ k l

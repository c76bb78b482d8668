-- Sums of x_k · t^k · (1 ± t)^(n-k), n + 1 being the number of words of x, in powers of t: by Horner's rule, on words.
--     signed p plus b            b, or -b modulo p
--     gained p plus x            the words of x times 1 + t, or times 1 - t, as many words: each gains the word before it, or loses it
--     expanded_to p plus k x     the words of x, of which the first k + 1 have been multiplied so in k steps: first two words, then three
--     expanded p plus x          all of them
--     expanded_into p plus x     what a slice holds that is to be expanded: where a word is loose, what it held
-- Theorems (proofs/Horner):
--     expanded-hom      with 1 - t, words of a polynomial s become those of its homogenisation
--     expanded-form     with 1 + t, words of a polynomial P become those of its form, which undoes homogenisation
-- Assumes nothing.
use Rattle.std.specs.Prelude.{Bool, cond, List, ◌∷◌, ◌++◌, ℕ, zero, suc, ◌+◌, ◌-◌, ◌%◌, length, get_or, take, drop}
use Rattle.lists.specs.Tabulate.{tabulate}
use Rattle.lists.specs.Refused.{has_loose}

unfoldable pub signed : (p : ℕ) → Bool → ℕ → ℕ
signed p plus b = cond plus b (p - b)

unfoldable pub gained : (p : ℕ) → Bool → List ℕ → List ℕ
gained p plus x = tabulate (length x) (λ i. (get_or x i 0 + signed p plus (get_or (0 ∷ x) i 0)) % p)

unfoldable pub expanded_to : (p : ℕ) → Bool → ℕ → List ℕ → List ℕ
expanded_to p plus zero x = x
expanded_to p plus (suc k) x =
    gained p plus (take (suc (suc k)) (expanded_to p plus k x)) ++ drop (suc (suc k)) (expanded_to p plus k x)

unfoldable pub expanded : (p : ℕ) → Bool → List ℕ → List ℕ
expanded p plus x = expanded_to p plus (length x - 1) x

abbrev pub expanded_into : (p : ℕ) → Bool → List ℕ → List ℕ
expanded_into p plus x = cond (has_loose p x) x (expanded p plus x)

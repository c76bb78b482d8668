-- The digits of a number, as the code writes them: those of the tenth of it, then the last.
-- Assumes nothing.
use mathlib.Core.Path.{◌≡◌, sym, ◌∙◌, ap}
use mathlib.Core.List.{[], ◌∷◌, ◌++◌}
use Prim.Native.Nat.{ℕ, zero, suc, ◌/◌, ◌%◌, ◌^◌, ◌≤◌, ◌<◌}
use native.Mathlib.Decide.{dec_lt}
use native.Mathlib.Omega.{arith}
use lib.ListN.{length, length-append}
use borrow.Author.Tests.{lt-ltb, le-ltb}
use Rattle.report_text.specs.Text.{digit, decimal_in, decimal}

in_one : (k n : ℕ) → n < 10 → decimal_in (suc k) n ≡ digit n ∷ []
unfolding decimal_in
in_one k n l = rw (lt-ltb n 10 l)

in-more : (k n : ℕ) → 10 ≤ n → decimal_in (suc k) n ≡ decimal_in k (n / 10) ++ (digit (n % 10) ∷ [])
unfolding decimal_in
in-more k n l = rw (le-ltb n 10 l)

-- n + 1 digits are enough, and more change nothing
enough : (j k n : ℕ) → n ≤ j → n ≤ k → decimal_in (suc j) n ≡ decimal_in (suc k) n
enough zero k n lj lk = in_one 0 n (omega arith) ∙ sym (in_one k n (omega arith))
enough (suc j) zero n lj lk = in_one (suc j) n (omega arith) ∙ sym (in_one 0 n (omega arith))
enough (suc j) (suc k) n lj lk = go (dec_lt n 10) (enough j k (n / 10))
  where
    go : Dec (n < 10) → (n / 10 ≤ j → n / 10 ≤ k → decimal_in (suc j) (n / 10) ≡ decimal_in (suc k) (n / 10))
        → decimal_in (suc (suc j)) n ≡ decimal_in (suc (suc k)) n
    go (yes l) ih = in_one (suc j) n l ∙ sym (in_one (suc k) n l)
    go (no f) ih =
        in-more (suc j) n (omega arith)
        ∙ ap (λ d. d ++ (digit (n % 10) ∷ [])) (ih (omega arith) (omega arith))
        ∙ sym (in-more (suc k) n (omega arith))

pub decimal-one : (n : ℕ) → n < 10 → decimal n ≡ digit n ∷ []
unfolding decimal
decimal-one n l = in_one n n l

pub decimal-more : (n : ℕ) → 10 ≤ n → decimal n ≡ decimal (n / 10) ++ (digit (n % 10) ∷ [])
unfolding decimal
decimal-more zero l = absurd (omega arith)
decimal-more (suc m) l =
    in-more (suc m) (suc m) l
    ∙ ap (λ d. d ++ (digit (suc m % 10) ∷ [])) (enough m (suc m / 10) (suc m / 10) (omega arith) (omega arith))

-- a number below 10 ^ (k + 1) has at most k + 1 digits
pub decimal-short : (k n : ℕ) → n < 10 ^ suc k → length (decimal n) ≤ suc k
decimal-short zero n l = rw (decimal-one n (omega arith)) (omega arith)
decimal-short (suc k) n l = go (dec_lt n 10) (decimal-short k (n / 10))
  where
    go : Dec (n < 10) → (n / 10 < 10 ^ suc k → length (decimal (n / 10)) ≤ suc k) → length (decimal n) ≤ suc (suc k)
    go (yes s) ih = rw (decimal-one n s) (omega arith)
    go (no f) ih =
        rw (decimal-more n (omega arith), length-append)
        (omega (arith, ih (omega (arith, l))))

-- Laws of a list given by a rule.
--     length-tabulate, get_or-tabulate     its length and its words
--     tabulated                          a list of n words that follows the rule is the tabulated one
--     tabulate-ext                       two rules that agree below n
-- Assumes nothing.
use mathlib.Core.Path.{◌≡◌, refl, sym, ◌∙◌, ap}
use mathlib.Core.List.{List}
use Prim.Native.Nat.{ℕ, zero, suc, ◌<◌}
use native.Mathlib.Nat.{le_of_suc-le-suc, not-suc-le-zero}
use native.Mathlib.Omega.{arith}
use lib.ListN.{length, get_or}
use lib.Seq.{ext_get_or}
use Rattle.lists.specs.Tabulate.{tabulate}

pub length-tabulate : (n : ℕ) (f : ℕ → ℕ) → length (tabulate n f) ≡ n
unfolding tabulate
length-tabulate zero f = refl
length-tabulate (suc n) f = ap suc (length-tabulate n (λ k. f (suc k)))

pub get_or-tabulate : (n : ℕ) (f : ℕ → ℕ) (k : ℕ) → k < n → get_or (tabulate n f) k 0 ≡ f k
unfolding tabulate
get_or-tabulate zero f k l = absurd (not-suc-le-zero l)
get_or-tabulate (suc n) f zero l = refl
get_or-tabulate (suc n) f (suc k) l = get_or-tabulate n (λ k. f (suc k)) k (le_of_suc-le-suc l)

-- a list of n words that follows the rule is the tabulated one
pub tabulated : (l : List ℕ) (n : ℕ) (f : ℕ → ℕ) → length l ≡ n → ((k : ℕ) → k < n → get_or l k 0 ≡ f k) → l ≡ tabulate n f
tabulated l n f e h =
    ext_get_or 0 l (tabulate n f) (e ∙ sym (length-tabulate n f))
    (λ k j. h k (omega arith) ∙ sym (get_or-tabulate n f k (omega arith)))

-- two rules that agree below n
pub tabulate-ext : (n : ℕ) (f g : ℕ → ℕ) → ((k : ℕ) → k < n → f k ≡ g k) → tabulate n f ≡ tabulate n g
tabulate-ext n f g h = tabulated (tabulate n f) n g (length-tabulate n f) (λ k j. get_or-tabulate n f k j ∙ h k j)

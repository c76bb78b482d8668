-- Products of words, added up without a reduction: one more, and those of a part.
-- Assumes nothing.
use mathlib.Core.Path.{◌≡◌, refl, ◌∙◌, ap, ap₂}
use mathlib.Core.List.{List}
use Prim.Native.Nat.{ℕ, zero, suc, ◌+◌, ◌*◌, ◌<◌}
use native.Mathlib.Nat.{zero-add}
use native.Mathlib.Numerals.{add-one}
use native.Mathlib.Omega.{arith}
use lib.ListN.{get_or}
use Rattle.list_value.specs.Internal.{products_of}

pub products-none : (s : List ℕ) (k : ℕ) (u : List ℕ) → products_of s k u 0 ≡ 0
unfolding products_of
products-none s k u = refl

-- the next words are a and b
pub products-next : (s u : List ℕ) (n : ℕ) {a b sum sum' m : ℕ} → sum ≡ products_of s 0 u n → a ≡ get_or s n 0 → b ≡ get_or u n 0
    → sum' ≡ sum + a * b → m ≡ n + 1 → sum' ≡ products_of s 0 u m
unfolding products_of
products-next s u n h p q r i = r ∙ simp (h, p, q, i, add-one, zero-add)

-- the products of a part are those of the list from the part's place on
pub products-part : (t s : List ℕ) (k : ℕ) (u : List ℕ) (n : ℕ) → ((j : ℕ) → j < n → get_or t j 0 ≡ get_or s (k + j) 0)
    → products_of t 0 u n ≡ products_of s k u n
unfolding products_of
products-part t s k u zero h = refl
products-part t s k u (suc n) h =
    ap₂ (λ a b. a + b * get_or u n 0) (products-part t s k u n (λ j l. h j (omega arith))) (ap (λ i. get_or t i 0) (zero-add n) ∙ h n (omega arith))

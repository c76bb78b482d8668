-- Searches in a list, one word on.
--     none-loose, tight                                      no loose word is found where each word is below p, and only there
--     significant-here, significant-on, significant-none     the search from the top for the last word that is not 0
--     searched-here                                          how many words it has read where it ends at one that is not 0
-- Assumes nothing.
use mathlib.Core.Path.{◌≡◌, refl, sym, ap, ◌∙◌, subst}
use mathlib.Core.Bool.{false}
use mathlib.Core.List.{List, [], ◌∷◌}
use Prim.Native.Nat.{ℕ, zero, suc, ◌+◌, ◌-◌, ◌<◌}
use native.Mathlib.Omega.{arith}
use lib.Dec.{leb}
use lib.ListN.{get_or, length}
use borrow.Author.Tests.{leb-false, lt-leb}
use Rattle.refusal.proofs.First.{or-false}
use Rattle.lists.specs.Degrees.{significant_in, significant, searched}
use Rattle.lists.proofs.Extents.{significant_in-none, significant_in-zero, significant_in-nonzero, significant-extent, extent-searched}
use Rattle.lists.specs.Refused.{has_loose}

module _ (p : ℕ) where
  -- a list with no loose word: each word is below p, and so is the 0 past the end
  pub none-loose : (c : List ℕ) → 0 < p → has_loose p c ≡ false → (k : ℕ) → get_or c k 0 < p
  unfolding has_loose
  none-loose [] pos e k = pos
  none-loose (x ∷ c) pos e zero = leb-false p x (or-false (leb p x) (has_loose p c) e).0
  none-loose (x ∷ c) pos e (suc k) = none-loose c pos (or-false (leb p x) (has_loose p c) e).1 k

  pub tight : (c : List ℕ) → ((k : ℕ) → get_or c k 0 < p) → has_loose p c ≡ false
  unfolding has_loose
  tight [] h = refl
  tight (x ∷ c) h = rw (lt-leb p x (h 0)) (tight c (λ k. h (suc k)))

less : (n : ℕ) → suc n - 1 ≡ n
less n = omega arith

pub significant-here : (c : List ℕ) (n : ℕ) → 0 < n → (get_or c (n - 1) 0 ≡ 0 → ⊥) → significant_in n c ≡ n
significant-here c zero l h = absurd (omega arith)
significant-here c (suc n) l h = significant_in-nonzero n c (λ z. h (ap (λ k. get_or c k 0) (less n) ∙ z))

pub significant-on : (c : List ℕ) (n : ℕ) → 0 < n → get_or c (n - 1) 0 ≡ 0 → significant_in n c ≡ significant_in (n - 1) c
significant-on c zero l h = absurd (omega arith)
significant-on c (suc n) l h =
    significant_in-zero n c (sym (ap (λ k. get_or c k 0) (less n)) ∙ h) ∙ sym (ap (λ k. significant_in k c) (less n))

pub significant-none : (c : List ℕ) (n : ℕ) → n ≡ 0 → significant_in n c ≡ 0
significant-none c n e = ap (λ k. significant_in k c) e ∙ significant_in-none c

-- r words are above the last one that is not 0, which is read too
pub searched-here : (c : List ℕ) (n r : ℕ) → significant c ≡ n → 0 < n → r + n ≡ length c → r + 1 ≡ searched c
searched-here c n r e l q =
    let some = subst (λ m. 0 < m) (sym e) l in
    let read = extent-searched c some in
    let top = significant-extent c some in
    omega arith

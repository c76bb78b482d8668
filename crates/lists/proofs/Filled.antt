-- A list that a loop fills with the words of another list.
--     Filled l i target                   l holds the words of the target below i
--     fill_start, fill_step, fill_end     before the loop, after one more word, and at its end
-- Assumes nothing.
use mathlib.Core.Path.{◌≡◌, ◌∙◌}
use mathlib.Core.List.{List}
use Prim.Native.Nat.{ℕ, ◌+◌, ◌≤◌, ◌<◌}
use native.Mathlib.Decide.{ℕ_discrete}
use native.Mathlib.Omega.{arith}
use lib.ListN.{length, get_or, set}
use lib.Seq.{ext_get_or, get_or-set_same, get_or-set_other}

pub record Filled (l : List ℕ) (i : ℕ) (target : List ℕ) : Type 0 where
  pub at : (k : ℕ) → k < i → get_or l k 0 ≡ get_or target k 0

pub fill_start : (l target : List ℕ) → Filled l 0 target
fill_start l target = record { at = λ k h. absurd (omega arith) }

-- one more word
pub fill_step : {l target : List ℕ} {i : ℕ} (v : ℕ) → Filled l i target → i < length l → v ≡ get_or target i 0 → Filled (set l i v) (i + 1) target
fill_step {l} {target} {i} v h p e = record { at = λ k q. go k q (ℕ_discrete k i) }
  where
    go : (k : ℕ) → k < i + 1 → Dec (k ≡ i) → get_or (set l i v) k 0 ≡ get_or target k 0
    go k q (yes s) = rw s (get_or-set_same l i v 0 p ∙ e)
    go k q (no s) = get_or-set_other l i k v 0 s ∙ h.at k (omega arith)

pub fill_end : {l target : List ℕ} {i : ℕ} → Filled l i target → length l ≡ length target → length l ≤ i → l ≡ target
fill_end {l} {target} h e p = ext_get_or 0 l target e (λ k q. h.at k (omega arith))

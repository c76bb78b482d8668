-- The chunks of a list, one after the other: which words a chunk has, and what is left after it.
-- Assumes nothing.
use mathlib.Core.Path.{◌≡◌, sym, ◌∙◌, ap}
use mathlib.Core.List.{List, ◌++◌}
use Prim.Native.Nat.{ℕ, ◌+◌, ◌*◌, ◌<◌}
use native.Mathlib.Omega.{arith}
use lib.ListN.{length, get_or, drop, get_or-append}
use Rattle.std.proofs.lemmas.List.{get_or-drop, drop-drop, drop_at}

-- of chunk i, of g words
module _ (g i : ℕ) (s chunk left : List ℕ) (e : drop (g * i) s ≡ chunk ++ left) (size : length chunk ≡ g) where
  pub chunk-words : (j : ℕ) → j < g → get_or chunk j 0 ≡ get_or s (g * i + j) 0
  chunk-words j l =
      sym (get_or-append chunk left 0 j (omega arith)) ∙ ap (λ t. get_or t j 0) (sym e) ∙ get_or-drop (g * i) s j 0

  pub chunk-left : (j : ℕ) → j ≡ i + 1 → left ≡ drop (g * j) s
  chunk-left j q =
      sym (drop_at chunk left g size) ∙ ap (drop g) (sym e) ∙ drop-drop g (g * i) s ∙ ap (λ n. drop n s) (rw q (omega arith))

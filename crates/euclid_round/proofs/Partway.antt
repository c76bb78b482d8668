-- A loop that writes a list's words from the left.
--     Partway     of the old list's words those below i follow a rule, and the rest is as it was
-- Assumes nothing.
use mathlib.Core.Path.{◌≡◌}
use mathlib.Core.List.{List}
use Prim.Native.Nat.{ℕ, ◌≤◌, ◌<◌}
use native.Mathlib.Omega.{arith}
use lib.ListN.{length, get_or}
use Rattle.lists.specs.Tabulate.{tabulate}
use Rattle.lists.proofs.Tabulate.{tabulated}

pub record Partway (old : List ℕ) (f : ℕ → ℕ) (x : List ℕ) (i : ℕ) : Type 0 where
  pub size : length x ≡ length old
  pub done : (j : ℕ) → j < i → get_or x j 0 ≡ f j
  pub rest : (j : ℕ) → i ≤ j → get_or x j 0 ≡ get_or old j 0

pub finish : {old x : List ℕ} {f : ℕ → ℕ} {i : ℕ} → Partway old f x i → length x ≤ i → x ≡ tabulate (length old) f
finish {old} {x} {f} {i} w l = tabulated x (length old) f w.size (λ j h. w.done j (let e = w.size in omega arith))

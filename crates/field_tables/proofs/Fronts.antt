-- The two parts of a table, written one after the other.
--     join-parts     a slice that takes both, with the first part at its front and the second after it, holds both
-- Assumes nothing.
use mathlib.Core.Path.{◌≡◌, ap, ap₂, ◌∙◌}
use mathlib.Core.List.{List, ◌++◌, append-nil}
use Prim.Native.Nat.{ℕ, ◌+◌, ◌-◌, ◌≤◌}
use native.Mathlib.Omega.{arith}
use lib.ListN.{length, take, drop, length-append, length-drop, drop_of_length-le}
use lib.Seq.{take_at, drop_at}

-- a slice whose front is the first part
abbrev pub fronted : (first table : List ℕ) (n : ℕ) → List ℕ
fronted first table n = first ++ drop n table

pub length-fronted : (first table : List ℕ) {n : ℕ} → length first ≡ n → n ≤ length table → length (fronted first table n) ≡ length table
length-fronted first table {n} e l = length-append first (drop n table) ∙ omega (arith, length-drop n table)

pub join-parts : (few more table : List ℕ) {first second : List ℕ} → first ≡ few → second ≡ more → length few + length more ≡ length table
    → let whole = fronted first table (length few) in
    take (length few) whole ++ (second ++ drop (length whole - length few) (drop (length few) whole)) ≡ few ++ more
join-parts few more table {first} {second} e f l =
    let whole = fronted first table (length few) in
    let size = length-fronted first table (ap length e) (omega arith) in
    let left = drop_at first (drop (length few) table) (length few) (ap length e) in
    ap₂ (λ a b. a ++ b) (take_at first (drop (length few) table) (length few) (ap length e) ∙ e)
    (ap₂ (λ a b. a ++ b) f
    (ap (drop (length whole - length few)) left ∙ drop_of_length-le (drop (length few) table) {i = length whole - length few} (omega (arith, size, length-drop (length few) table)))
    ∙ append-nil more)

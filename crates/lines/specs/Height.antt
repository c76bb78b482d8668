-- How high the stack grows on which a program is run.
--     needed            how many lists stand on it together at most while the program of a tree is run
--     height_behind     its height behind a byte of a program, from the height before it
--     peak              its greatest height along a program, from the height before it
-- Theorems:
--     peak-program (proofs/Peak)     along the program of a tree the peak is what the tree needs
--     line-height (proofs/Height)    a line whose parentheses are not nested too deep needs at most 2 * max_open + 3
-- Assumes nothing.
use Rattle.std.specs.Prelude.{cond, List, [], ◌∷◌, ℕ, ◌+◌, ◌-◌, max, eqb, ltb}
use Rattle.lines.specs.Grammar.{Tree, list, sum, difference, product, derivative}
use Rattle.lines.specs.Program.{derive_byte, first_operator}

abbrev pub needed : Tree → ℕ
needed (list n) = 1
needed (sum a b) = max (needed a) (1 + needed b)
needed (difference a b) = max (needed a) (1 + needed b)
needed (product a b) = max (needed a) (1 + needed b)
needed (derivative a) = needed a

unfoldable pub height_behind : ℕ → ℕ → ℕ
height_behind h x = cond (ltb x first_operator) (h + 1) (cond (eqb x derive_byte) h (h - 1))

unfoldable pub peak : ℕ → List ℕ → ℕ
peak h [] = h
peak h (x ∷ code) = max h (peak (height_behind h x) code)

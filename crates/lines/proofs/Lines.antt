-- What it says of a line that it is outside the grammar, or is not.
--     OneTree       the grammar has exactly one tree for these tokens
-- Theorems:
--     outside-is    outside: it has more than max_line bytes, or the grammar has no tree for its tokens
--     inside_is     not outside: it has at most max_line bytes, and the grammar has exactly one tree for its tokens
-- Assumes nothing.
use mathlib.Core.Path.{◌≡◌, refl, sym}
use mathlib.Core.Bool.{Bool, true, false, ◌||◌}
use mathlib.Core.Logic.{◌⊎◌, inl, inr}
use mathlib.Core.List.{List}
use Prim.Native.Nat.{ℕ, ◌<◌, ◌≤◌}
use lib.Dec.{ltb}
use lib.ListN.{length}
use borrow.Author.Tests.{ltb-true, ltb-false}
use Rattle.refusal.specs.Limits.{max_line}
use Rattle.lines.specs.declared.Token.{Token}
use Rattle.lines.specs.Grammar.{tokens, Tree, Reads, expression}
use Rattle.lines.specs.Reader.{Reading, reads, outside, reading_of}
use Rattle.lines.specs.Lines.{is_outside, outside_grammar}
use Rattle.lines.proofs.Readings.{no-term, reading-sound, only-reading, outside-none}

pub record OneTree (s : List Token) : Type 0 where
  pub tree : Tree
  pub is : Reads expression s tree
  pub only : (a : Tree) → Reads expression s a → a ≡ tree

pub outside-is : (line : List ℕ) → outside_grammar line ≡ true
    → (max_line < length line) ⊎ ((a : Tree) → Reads expression (tokens line) a → ⊥)
unfolding outside_grammar
outside-is line h = go (ltb max_line (length line)) (reading_of (tokens line)) refl refl h
  where
    go : (b : Bool) (r : Reading) → ltb max_line (length line) ≡ b → reading_of (tokens line) ≡ r → (b || is_outside r) ≡ true
        → (max_line < length line) ⊎ ((a : Tree) → Reads expression (tokens line) a → ⊥)
    go true r e f h = inl (ltb-true max_line (length line) e)
    go false (reads a) e f h = no-term h
    go false outside e f h = inr (outside-none f)

pub inside_is : (line : List ℕ) → outside_grammar line ≡ false → (length line ≤ max_line) × OneTree (tokens line)
unfolding outside_grammar
inside_is line h = go (ltb max_line (length line)) (reading_of (tokens line)) refl refl h
  where
    go : (b : Bool) (r : Reading) → ltb max_line (length line) ≡ b → reading_of (tokens line) ≡ r → (b || is_outside r) ≡ false
        → (length line ≤ max_line) × OneTree (tokens line)
    go true r e f h = no-term (sym h)
    go false (reads a) e f h =
        (ltb-false max_line (length line) e, record { tree = a; is = reading-sound f; only = λ b x. only-reading x (reading-sound f) })
    go false outside e f h = no-term (sym h)

-- What a line is as a whole, and what the call refuses that reads it.
--     is_outside          no tree was read
--     outside_grammar     the line is too long, or its tokens read as no tree
--     too_deep            more parentheses are open together than may be
--     line_refusals       the rows of a line
--     read_outcome        the same with the slice for the program: one that is too short for some line is refused first
--     judged_outcome      the refusal of a line that was read; Done where it has a program
--     ProgramOf           the n bytes written for a line that is read are the program of its tree
-- Theorems (proofs/Lines): outside-is, inside_is    a line is outside the grammar exactly where it has more than max_line bytes, or the
--     grammar has no tree for its tokens; else the grammar has exactly one
-- Assumes nothing.
use Rattle.refusal.specs.declared.Refusal.{Refusal}
use Rattle.refusal.specs.Refusal.{Outcome}
use Rattle.std.specs.Prelude.{◌≡◌, Bool, true, false, cond, ◌||◌, List, [], ◌∷◌, ℕ, ◌≤◌, ltb, length, take, Ok, Err, Result}
use Rattle.refusal.specs.Limits.{max_line, max_open}
use Rattle.refusal.specs.Lowest.{Condition, ◌given-when◌, lowest}
use Rattle.refusal.specs.declared.Refusal.TheVariants.{Line, Nesting, Misfit}
use Rattle.lines.specs.Grammar.{tokens, deepest, Tree}
use Rattle.lines.specs.Reader.{Reading, reads, outside, reading_of}
use Rattle.lines.specs.Program.{postfix}

abbrev pub is_outside : Reading → Bool
is_outside (reads e) = false
is_outside outside = true

unfoldable pub outside_grammar : List ℕ → Bool
outside_grammar line = ltb max_line (length line) || is_outside (reading_of (tokens line))

unfoldable pub too_deep : List ℕ → Bool
too_deep line = ltb max_open (deepest 0 line)

unfoldable pub line_refusals : List ℕ → List Condition
line_refusals line = Line given-when outside_grammar line ∷ Nesting given-when too_deep line ∷ []

abbrev pub read_outcome : (line code : List ℕ) → Outcome
read_outcome line code = cond (ltb (length code) max_line) (Err Misfit) (lowest (line_refusals line))

abbrev pub judged_outcome : Result ℕ Refusal → Outcome
judged_outcome (Ok n) = Ok tt
judged_outcome (Err why) = Err why

abbrev pub ProgramOf : List ℕ → List ℕ → Result ℕ Refusal → Type 0
ProgramOf line code (Ok n) =
    (e : Tree) × (reading_of (tokens line) ≡ reads e) × (n ≤ max_line) × (take n code ≡ postfix e)
ProgramOf line code (Err why) = Unit {0}

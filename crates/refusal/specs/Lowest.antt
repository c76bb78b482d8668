-- Which refusal a call gives: of those that apply, the one of the lowest rank, which goes before the others. Among document 01's refusals
-- that is the one with the lowest number (specs/Rank).
--     Condition               a row of document 01's table for one call: the refusal, and whether it applies to the call's inputs
--     why given-when test     the row of a refusal and its test
--     lower why o             the lower in rank of a refusal and of what the other rows give
--     lowest rows             the refusal of the lowest rank among the rows that apply; Ok where none does
--     Applies why rows        the refusal stands in a row that applies
--     IsLowest rows o         o is a refusal that applies, and none of a lower rank does; or it is Ok, and none applies
--     or_else o next          the outcome of the first tests where they refuse, else that of the later ones
-- Theorem (proofs/Lowest):
--     lowest-is     `lowest` is the lowest
-- Assumes nothing.
use Rattle.refusal.specs.Refusal.{Outcome}
use Rattle.std.specs.Prelude.{◌≡◌, Bool, true, cond, ◌⊎◌, List, [], ◌∷◌, ◌≤◌, ltb, Ok, Err}
use Rattle.refusal.specs.Rank.{rank}
use Rattle.refusal.specs.declared.Refusal.{Refusal}

pub record Condition : Type 0 where
  pub why : Refusal
  pub applies : Bool

infix 68 ◌given-when◌
abbrev pub ◌given-when◌ : Refusal → Bool → Condition
why given-when test = record { why = why; applies = test }

unfoldable pub lower : Refusal → Outcome → Outcome
lower why (Ok _) = Err why
lower why (Err other) = cond (ltb (rank other) (rank why)) (Err other) (Err why)

unfoldable pub lowest : List Condition → Outcome
lowest [] = Ok tt
lowest (c ∷ rows) = cond c.applies (lower c.why (lowest rows)) (lowest rows)

abbrev pub Applies : Refusal → List Condition → Type 0
Applies why [] = ⊥
Applies why (c ∷ rows) = ((c.why ≡ why) × (c.applies ≡ true)) ⊎ Applies why rows

abbrev pub IsLowest : List Condition → Outcome → Type 0
IsLowest rows (Ok _) = (why : Refusal) → Applies why rows → ⊥
IsLowest rows (Err why) = Applies why rows × ((other : Refusal) → Applies other rows → rank why ≤ rank other)

abbrev pub or_else : Outcome → Outcome → Outcome
or_else (Ok _) next = next
or_else (Err why) next = Err why

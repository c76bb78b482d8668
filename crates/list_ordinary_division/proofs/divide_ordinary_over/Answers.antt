-- `list_ordinary_division::divide_ordinary_over` meets its contract: it answers what its judge found, and writes only where nothing is refused.
-- Assumes nothing.
use mathlib.Core.Path.{◌≡◌, sym, ◌∙◌}
use mathlib.Core.List.{List}
use Prim.Native.Nat.{ℕ}
use Rattle.std.specs.Prelude.{Ok}
use Rattle.field.specs.Fields.{modulus, field_at, longest}
use Rattle.field.proofs.Fields.{longest-in}
use Rattle.refusal.specs.Lowest.{lowest}
use Rattle.ordinary_theory.proofs.Ordinary.{ordinary-so}
use Rattle.list_ordinary_division.specs.Calls.{ordinary_rows}
use Rattle.list_ordinary_division.specs.Internal.{OrdinaryFits}
use Rattle.list_ordinary_division.proofs.Judged.{ordinary-fits}
use Rattle.list_ordinary_division.proofs.divide_ordinary_over.Goals as goal

found-fits : (k : ℕ) (g f q r : List ℕ) → Ok tt ≡ lowest (ordinary_rows (modulus k) (longest k) g f q r) → OrdinaryFits (field_at k) (longest k) g f q r
unfolding field_at
found-fits k g f q r e = ordinary-fits (field_at k) (longest k) (longest-in k) g f q r e

pub divide_into-requires : goal.divide_into-requires
divide_into-requires c = found-fits _ _ _ _ _ (sym c.in_ok-judge_ordinary.was ∙ c.judge_ordinary.ensures)

pub returns-clause-property : goal.returns-clause-property
returns-clause-property c =
    let done = c.divide_into.ensures in
    let fits = found-fits _ _ _ _ _ (sym c.in_ok-judge_ordinary.was ∙ c.judge_ordinary.ensures) in
    λ _. rw (done.quotient, done.remainder) (ordinary-so (field_at _) _ _ fits.dividable)

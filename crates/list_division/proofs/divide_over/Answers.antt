-- `list_division::divide_over` meets its contract: it answers what its judge found, and writes only where nothing is refused.
-- Assumes nothing.
use mathlib.Core.Path.{◌≡◌, sym, ◌∙◌}
use mathlib.Core.List.{List}
use Prim.Native.Nat.{ℕ}
use Rattle.std.specs.Prelude.{Ok}
use Rattle.field.specs.Fields.{modulus, field_at, longest}
use Rattle.field.proofs.Fields.{longest-in}
use Rattle.refusal.specs.Lowest.{lowest}
use Rattle.list_division.specs.Calls.{divide_rows}
use Rattle.list_division.specs.Internal.{DivideFits}
use Rattle.list_division.proofs.Judged.{divide-fits}
use Rattle.list_division.proofs.Answers.{divides-so}
use Rattle.list_division.proofs.divide_over.Goals as goal

found-fits : (k : ℕ) (g f q r : List ℕ) → Ok tt ≡ lowest (divide_rows (modulus k) (longest k) g f q r) → DivideFits (field_at k) (longest k) g f q r
unfolding field_at
found-fits k g f q r e = divide-fits (field_at k) (longest k) (longest-in k) g f q r e

pub divide_into-requires : goal.divide_into-requires
divide_into-requires c = found-fits _ _ _ _ _ (sym c.in_ok-judge_divide.was ∙ c.judge_divide.ensures)

pub returns-clause-property : goal.returns-clause-property
returns-clause-property c =
    let parts = c.divide_into.ensures in
    let fits = found-fits _ _ _ _ _ (sym c.in_ok-judge_divide.was ∙ c.judge_divide.ensures) in
    λ _. rw (parts.quotient, parts.remainder) (divides-so (field_at c.args.field) c.args.g.now c.args.f.now fits.divisible)

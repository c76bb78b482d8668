-- `field_tables::factorials` meets its contract: one test over each table, computed.
-- Assumes nothing.
use mathlib.Core.Path.{refl, ◌∙◌}
use Rattle.field.specs.Fields.{modulus, field_at, longest}
use Rattle.field.proofs.Fields.{p-at, modulus-first, modulus-second, modulus-third}
use Rattle.field_tables.proofs.Entries.{factorials-hold}
use Rattle.field_tables.proofs.factorials.Goals as goal

pub returns-in-0 : goal.returns-in-0
unfolding longest modulus
returns-in-0 c = factorials-hold (field_at _) (p-at _ ∙ modulus-first c.in-0.is) _ _ refl tt

pub returns-in-1 : goal.returns-in-1
unfolding longest modulus
returns-in-1 c = factorials-hold (field_at _) (p-at _ ∙ modulus-second c.in-1.is) _ _ refl tt

pub returns-in_default : goal.returns-in_default
unfolding longest modulus
returns-in_default c = factorials-hold (field_at _) (p-at _ ∙ modulus-third c.in_default.in_default-own.rest.0.1 c.in_default.in_default-own.rest.1) _ _ refl tt

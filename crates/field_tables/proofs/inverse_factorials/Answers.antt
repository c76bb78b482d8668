-- `field_tables::inverse_factorials` meets its contract: one test over each table, computed.
-- Assumes nothing.
use mathlib.Core.Path.{refl, ◌∙◌}
use Rattle.field.specs.Fields.{modulus, field_at, longest}
use Rattle.field.proofs.Fields.{p-at, modulus-first, modulus-second, modulus-third, longest-in}
use Rattle.field_tables.proofs.Entries.{inverses-hold}
use Rattle.field_tables.proofs.inverse_factorials.Goals as goal

pub returns-in-0 : goal.returns-in-0
unfolding longest modulus
returns-in-0 c = inverses-hold (field_at _) (p-at _ ∙ modulus-first c.in-0.is) _ _ refl (longest-in _) tt

pub returns-in-1 : goal.returns-in-1
unfolding longest modulus
returns-in-1 c = inverses-hold (field_at _) (p-at _ ∙ modulus-second c.in-1.is) _ _ refl (longest-in _) tt

pub returns-in_default : goal.returns-in_default
unfolding longest modulus
returns-in_default c = inverses-hold (field_at _) (p-at _ ∙ modulus-third c.in_default.in_default-own.rest.0.1 c.in_default.in_default-own.rest.1) _ _ refl (longest-in _) tt

-- `field_tables::inverses` meets its contract: one test over each table, computed.
-- Assumes nothing.
use mathlib.Core.Path.{refl, ◌∙◌}
use Rattle.refusal.specs.Limits.{max_words}
use Rattle.field.specs.Fields.{modulus, field_at}
use Rattle.field.proofs.Fields.{p-at, modulus-first, modulus-second, modulus-third}
use Rattle.field_tables.proofs.InverseEntries.{table_is}
use Rattle.field_tables.proofs.inverses.Goals as goal

pub returns-in-0 : goal.returns-in-0
unfolding modulus
returns-in-0 c = table_is (field_at _) (p-at _ ∙ modulus-first c.in-0.is) max_words _ refl tt

pub returns-in-1 : goal.returns-in-1
unfolding modulus
returns-in-1 c = table_is (field_at _) (p-at _ ∙ modulus-second c.in-1.is) max_words _ refl tt

pub returns-in_default : goal.returns-in_default
unfolding modulus
returns-in_default c = table_is (field_at _) (p-at _ ∙ modulus-third c.in_default.in_default-own.rest.0.1 c.in_default.in_default-own.rest.1) max_words _ refl tt

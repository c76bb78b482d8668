-- `list_gcd::scale_into` meets its contract: a buffer of zeros then holds the scaled form.
-- Assumes nothing.
use mathlib.Core.Path.{refl}
use native.Mathlib.Omega.{arith}
use Rattle.field.specs.Fields.{field_at}
use Rattle.field.proofs.Fields.{p-at, longest-in}
use Rattle.field_tables.proofs.Entries.{tables-within}
use Rattle.list_gcd.proofs.Buffers.{holds-scaled}
use Rattle.list_gcd.proofs.scale_into.Goals as goal

pub returns : goal.returns
returns c =
    let pre = c.requires in
    let tables = tables-within (field_at _) _ pre.list_in_bounds.1 (record { factorials = c.factorials-whole.ensures; inverses = c.inverse_factorials-part.ensures }) in
    holds-scaled (field_at _) (p-at _) _ (omega (arith, longest-in c.args.field)) _ _ tables _ _ pre.list_in_bounds.0 refl pre.by_index c.weigh.ensures

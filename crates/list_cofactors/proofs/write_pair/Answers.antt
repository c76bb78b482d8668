-- `list_cofactors::write_pair` meets its contract: each cofactor fills its slice.
-- Assumes nothing.
use mathlib.Core.Path.{refl}
use native.Mathlib.Omega.{arith}
use Rattle.field.specs.Fields.{field_at}
use Rattle.field.proofs.Fields.{p-at, longest-in}
use Rattle.field_tables.proofs.Entries.{tables-within}
use Rattle.list_cofactors.proofs.Written.{pair-written}
use Rattle.list_cofactors.proofs.write_pair.Goals as goal

pub returns : goal.returns
returns c =
    let pre = c.requires in
    let short = longest-in c.args.field in
    let tables = tables-within (field_at _) _ pre.s_in_bounds (record { factorials = c.factorials-whole.ensures; inverses = c.inverse_factorials-part.ensures }) in
    record {
      a_after = pair-written (field_at _) (p-at _) _ (omega arith) _ _ tables _ c.args.m c.args.t.now c.args.a.now pre.t_len.0 refl pre.t_len.1 (c.write_list.ensures.form, c.write_list.ensures.writes);
      b_after = pair-written (field_at _) (p-at _) _ (omega arith) _ _ tables _ c.args.m c.args.s.now c.args.b.now refl refl pre.t_len.2 (c.write_list-2.ensures.form, c.write_list-2.ensures.writes);
    }

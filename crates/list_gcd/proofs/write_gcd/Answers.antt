-- `list_gcd::write_gcd` meets its contract: the last x times the inverse of its last word, unscaled.
-- Assumes nothing.
use native.Mathlib.Omega.{arith}
use Rattle.field.specs.Fields.{field_at}
use Rattle.field.proofs.Fields.{p-at, longest-in}
use Rattle.field_tables.proofs.Entries.{tables-within}
use Rattle.lists.proofs.Extents.{significant-le}
use Rattle.list_gcd.proofs.Finish.{inverse-found, gcd-written}
use borrow.Author.Rules.{rules}
use Rattle.list_gcd.proofs.write_gcd.Goals as goal

pub offset_bounds-last-n : goal.offset_bounds-last-n
offset_bounds-last-n c = let most = significant-le c.args.last.now in search rules

pub bounds-last-n : goal.bounds-last-n
bounds-last-n c = let most = significant-le c.args.last.now in search rules

pub returns-clause-inverse_value : goal.returns-clause-inverse_value
returns-clause-inverse_value c =
    let pre = c.requires in
    inverse-found (field_at _) _ _ pre.buffer.0 pre.last_nonzero.0 _ _ c.significant_words-n.ensures c.inverse_or_zero-inv.ensures

pub returns-clause-h_after : goal.returns-clause-h_after
returns-clause-h_after c =
    let pre = c.requires in
    let tables = tables-within (field_at _) _ pre.buffer.1 (record { factorials = c.factorials-whole.ensures; inverses = c.inverse_factorials-part.ensures }) in
    gcd-written (field_at _) _ _ pre.buffer.0 pre.last_nonzero.0 (p-at _) (omega (arith, pre.buffer.1, longest-in c.args.field)) _ _ tables _ _ _ pre.last_nonzero.1 pre.buffer.1 c.significant_words-n.ensures c.inverse_or_zero-inv.ensures (c.write_list.ensures.form, c.write_list.ensures.writes)

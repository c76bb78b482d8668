-- `list_cofactors::cofactors_in` meets its contract: what is written from the quotients is what the definitions name.
-- Assumes nothing.
use mathlib.Core.Path.{sym, ◌∙◌}
use native.Mathlib.Omega.{arith}
use Rattle.field.specs.Fields.{field_at}
use Rattle.field.proofs.Fields.{longest-room}
use Rattle.list_cofactors.proofs.Results.{slices-short, results}
use Rattle.list_cofactors.proofs.cofactors_in.Goals as goal

pub substitute_back-first-requires-clause-s_nonzero : goal.substitute_back-first-requires-clause-s_nonzero
substitute_back-first-requires-clause-s_nonzero c =
    let pre = c.requires in
    let size = pre.zeros.1.size_s in (omega (arith, pre.in_bounds), omega (arith, pre.in_bounds, longest-room c.args.field))

pub write_pair-requires-clause-t_len : goal.write_pair-requires-clause-t_len
write_pair-requires-clause-t_len c =
    let pre = c.requires in
    let short = slices-short (field_at _) _ _ pre.in_bounds.0 pre.ready pre.slices in
    let back = c.substitute_back-first.ensures in
    let size = back.size_s ∙ pre.zeros.1.size_s in (back.size_t ∙ sym back.size_s, omega (arith, size, short.0), omega (arith, size, short.1))

pub returns : goal.returns
returns c =
    let pre = c.requires in
    let found = c.gcd_in-found.ensures in
    let back = rw pre.zeros.1.size_s at c.substitute_back-first.ensures in
    results (field_at _) _ _ pre.in_bounds.0 pre.ready pre.slices found.numbers found.h_after found.trail_of.0 back c.write_pair.ensures.a_after c.write_pair.ensures.b_after

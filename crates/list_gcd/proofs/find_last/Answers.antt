-- `list_gcd::find_last` meets its contract: the buffers hold the scaled forms, and the rounds on them are those of the definition.
-- Assumes nothing.
use native.Mathlib.Omega.{arith}
use Rattle.field.specs.Fields.{field_at}
use Rattle.field.proofs.Fields.{longest-room}
use Rattle.list_gcd.proofs.Finish.{ready-ends, holds_as}
use Rattle.list_gcd.proofs.find_last.Goals as goal

pub all_rounds-requires-clause-x_len_bound : goal.all_rounds-requires-clause-x_len_bound
all_rounds-requires-clause-x_len_bound c =
    let same = c.scale_into.ensures.buffer.size in
    let room = c.requires.zeros.size-kept in (omega (arith, longest-room c.args.field), omega arith)

pub returns : goal.returns
returns c =
    let y = holds_as (field_at _) c.requires.zeros.size_y c.scale_into-2.ensures in
    let ended = c.all_rounds.ensures in
    let found = ready-ends (field_at _) _ _ _ c.requires.ready.0 c.scale_into.ensures y ended.ends in record { rounds_value = found.0; last_of = found.1.0; trail_of = (found.1.1, ended.kept_in_bounds) }

-- `report_text::put_field` meets its contract.
-- Assumes nothing.
use mathlib.Core.List.{[], ◌∷◌}
use Rattle.report_text.proofs.Puts.{put_then, room-first, room-then}
use Rattle.report_text.proofs.slice.put_field.Goals as goal

pub put-next-requires : goal.put-next-requires
put-next-requires c = room-first (32 ∷ []) _ c.requires

pub put_number-requires : goal.put_number-requires
put_number-requires c = room-then c.requires c.put-next.ensures

pub returns : goal.returns
returns c = put_then c.put-next.ensures c.put_number.ensures

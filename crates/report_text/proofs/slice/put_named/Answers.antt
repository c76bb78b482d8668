-- `report_text::put_named` meets its contract: the name, the number, and the end of the line.
-- Assumes nothing.
use mathlib.Core.Path.{refl, sym}
use mathlib.Core.List.{[], ◌∷◌, ◌++◌}
use Rattle.report_text.specs.Text.{decimal}
use Rattle.report_text.specs.Internal.{Room}
use Rattle.report_text.proofs.Puts.{put_is, put_then, room-is, room-first, room-then}
use Rattle.report_text.proofs.Lines.{named-line}
use Rattle.report_text.proofs.slice.put_named.Goals as goal

pub put_bytes-named-requires : goal.put_bytes-named-requires
put_bytes-named-requires c = room-first _ _ (room-is (named-line _ _) c.requires)

pub put_field-end-requires : goal.put_field-end-requires
put_field-end-requires c =
    let name-room : Room ((32 ∷ decimal c.args.n) ++ (10 ∷ [])) c.put_bytes-named.result c.put_bytes-named.new.out = room-then (room-is (named-line _ _) c.requires) c.put_bytes-named.ensures in
    room-first _ _ name-room

pub put-requires : goal.put-requires
put-requires c =
    let name-room : Room ((32 ∷ decimal c.args.n) ++ (10 ∷ [])) c.put_bytes-named.result c.put_bytes-named.new.out = room-then (room-is (named-line _ _) c.requires) c.put_bytes-named.ensures in
    room-then name-room c.put_field-end.ensures

pub returns : goal.returns
returns c = put_is (sym (named-line _ _)) refl (put_then c.put_bytes-named.ensures (put_then c.put_field-end.ensures c.put.ensures))

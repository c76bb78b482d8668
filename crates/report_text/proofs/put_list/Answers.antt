-- `report_text::put_list` meets its contract: the list's number, its naive degree, and the end of its line.
-- Assumes nothing.
use mathlib.Core.Path.{refl, sym}
use mathlib.Core.List.{◌∷◌, ◌++◌}
use Rattle.report_text.specs.Text.{decimal}
use Rattle.report_text.specs.Internal.{Room, line_end}
use Rattle.report_text.proofs.Puts.{put_is, put_then, room-is, room-first, room-then}
use Rattle.report_text.proofs.Lines.{list-line}
use Rattle.report_text.proofs.put_list.Goals as goal

pub put_number-requires : goal.put_number-requires
put_number-requires c = room-first _ _ (room-is (list-line _ _ refl) c.requires.1)

pub put_field-requires : goal.put_field-requires
put_field-requires c =
    let number-room : Room ((32 ∷ decimal c.degree_of-degree.result.0) ++ line_end c.args.list.now) c.put_number.new.self.used c.put_number.new.self.bytes = room-then (room-is (list-line _ _ c.degree_of-degree.ensures) c.requires.1) c.put_number.ensures in
    room-first _ _ number-room

pub put_extent-requires : goal.put_extent-requires
put_extent-requires c =
    let number-room : Room ((32 ∷ decimal c.degree_of-degree.result.0) ++ line_end c.args.list.now) c.put_number.new.self.used c.put_number.new.self.bytes = room-then (room-is (list-line _ _ c.degree_of-degree.ensures) c.requires.1) c.put_number.ensures in
    room-then number-room c.put_field.ensures

pub returns : goal.returns
returns c = put_is (sym (list-line _ _ c.degree_of-degree.ensures)) refl (put_then c.put_number.ensures (put_then c.put_field.ensures c.put_extent.ensures))

-- `report_text::put_extent` meets its contract: the numbers of a list that is not zero, else dashes.
-- Assumes nothing.
use mathlib.Core.Path.{◌≡◌, refl, sym}
use mathlib.Core.List.{[], ◌∷◌, ◌++◌}
use Rattle.report_text.specs.Text.{decimal}
use Rattle.report_text.specs.Internal.{Room, line_end}
use Rattle.report_text.proofs.Puts.{put_is, put_then, room-is, room-first, room-then}
use Rattle.report_text.proofs.Lines.{end-zero, end-nonzero}
use Rattle.report_text.proofs.put_extent.Goals as goal

pub put_bytes-requires : goal.put_bytes-requires
put_bytes-requires c = room-is (end-zero _ c.significant_words.ensures c.if-significant_words-eq0.true) c.requires

pub returns-then-significant_words-eq0 : goal.returns-then-significant_words-eq0
returns-then-significant_words-eq0 c = put_is (sym (end-zero _ c.significant_words.ensures c.if-significant_words-eq0.true)) refl c.put_bytes.ensures

pub put_field-requires : goal.put_field-requires
put_field-requires c =
    let numbers : line_end c.args.list.now ≡ (32 ∷ decimal c.extent_of-extent.result.0) ++ ((32 ∷ decimal c.power_in-power.result.0) ++ (10 ∷ [])) = end-nonzero _ c.significant_words.ensures c.if-significant_words-eq0.false c.extent_of-extent.ensures c.power_in-power.ensures in
    room-first _ _ (room-is numbers c.requires)

pub put_field-requires-2 : goal.put_field-requires-2
put_field-requires-2 c =
    let numbers : line_end c.args.list.now ≡ (32 ∷ decimal c.extent_of-extent.result.0) ++ ((32 ∷ decimal c.power_in-power.result.0) ++ (10 ∷ [])) = end-nonzero _ c.significant_words.ensures c.if-significant_words-eq0.false c.extent_of-extent.ensures c.power_in-power.ensures in
    let extent-room : Room ((32 ∷ decimal c.power_in-power.result.0) ++ (10 ∷ [])) c.put_field.new.self.used c.put_field.new.self.bytes = room-then (room-is numbers c.requires) c.put_field.ensures in
    room-first _ _ extent-room

pub put-requires : goal.put-requires
put-requires c =
    let numbers : line_end c.args.list.now ≡ (32 ∷ decimal c.extent_of-extent.result.0) ++ ((32 ∷ decimal c.power_in-power.result.0) ++ (10 ∷ [])) = end-nonzero _ c.significant_words.ensures c.if-significant_words-eq0.false c.extent_of-extent.ensures c.power_in-power.ensures in
    let extent-room : Room ((32 ∷ decimal c.power_in-power.result.0) ++ (10 ∷ [])) c.put_field.new.self.used c.put_field.new.self.bytes = room-then (room-is numbers c.requires) c.put_field.ensures in
    room-then extent-room c.put_field-2.ensures

pub returns : goal.returns
returns c =
    let numbers : line_end c.args.list.now ≡ (32 ∷ decimal c.extent_of-extent.result.0) ++ ((32 ∷ decimal c.power_in-power.result.0) ++ (10 ∷ [])) = end-nonzero _ c.significant_words.ensures c.if-significant_words-eq0.false c.extent_of-extent.ensures c.power_in-power.ensures in
    put_is (sym numbers) refl (put_then c.put_field.ensures (put_then c.put_field-2.ensures c.put.ensures))

-- `report_text::put_words` meets its contract.
-- Assumes nothing.
use mathlib.Core.Path.{refl, sym}
use mathlib.Core.List.{[], ◌∷◌}
use native.Mathlib.Omega.{arith}
use Rattle.report_text.proofs.Puts.{put_is, put_then, room-is, room-first, room-then, left-start, left-next, left-room, left_end}
use Rattle.report_text.proofs.Lines.{words-line, fields-next, fields-end}
use Rattle.report_text.proofs.slice.put_words.Goals as goal

pub put_number-place-requires : goal.put_number-place-requires
put_number-place-requires c = room-first _ _ (room-is (words-line c.args.h.now c.requires.0) c.requires.1)

pub loop-k-init : goal.loop-k-init
loop-k-init c = left-start

pub put_field-place-requires : goal.put_field-place-requires
put_field-place-requires c =
    let rest-room = room-then (room-is (words-line c.args.h.now c.requires.0) c.requires.1) c.put_number-place.ensures in
    left-room _ _ (fields-next _ _ c.loop-k-test.true) c.loop-k.invariant rest-room

pub loop-k-preserved : goal.loop-k-preserved
loop-k-preserved c = left-next _ _ (fields-next _ _ c.loop-k-test.true) c.loop-k.invariant c.put_field-place.ensures

pub put-requires : goal.put-requires
put-requires c =
    let rest-room = room-then (room-is (words-line c.args.h.now c.requires.0) c.requires.1) c.put_number-place.ensures in
    left-room (10 ∷ []) [] (fields-end c.args.h.now c.loop-k.k (omega (arith, c.requires.0))) c.loop-k.invariant rest-room

pub returns : goal.returns
returns c =
    put_is (sym (words-line c.args.h.now c.requires.0)) refl
    (put_then c.put_number-place.ensures
    (left_end (left-next (10 ∷ []) [] (fields-end c.args.h.now c.loop-k.k (omega (arith, c.requires.0))) c.loop-k.invariant c.put.ensures)))

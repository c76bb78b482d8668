-- `report_text::put_lists` meets its contract: each list is read whole, and its line put.
-- Assumes nothing.
use mathlib.Core.Path.{refl, sym, ◌∙◌, ap}
use mathlib.Core.List.{[]}
use native.Mathlib.Omega.{arith}
use lib.ListN.{length}
use Rattle.field.specs.Fields.{modulus, longest}
use Rattle.field.proofs.Fields.{longest-full}
use Rattle.album_layout.specs.Layout.{nth_list, lists_of}
use Rattle.album_layout.proofs.Places.{length-lists, list_at}
use Rattle.album_reader.specs.Internal.{Held}
use Rattle.album_reader.proofs.Held.{held-take, held-inside, held-count, read_held}
use Rattle.report_text.specs.Report.{list_line}
use Rattle.report_text.proofs.Puts.{put-none, put_is, room-is, left-start, left-next, left-room, left_end}
use Rattle.report_text.proofs.Lines.{lines_next, lines_end}
use Rattle.report_text.proofs.put_lists.Goals as goal

pub loop-i-init : goal.loop-i-init
loop-i-init c = left-start

pub slice_bounds-list-end : goal.slice_bounds-list-end
unfolding longest
slice_bounds-list-end c =
    let s = c.args.album.now in
    let bytes = c.type_inv.album in
    let counted = length-lists s in
    let read = c.byte_at-i-end.ensures in
    let held : Held (modulus c.args.field) (longest c.args.field) c.read_at-m.new.out c.read_at-m.result (nth_list s c.loop-i.i) =
    read_held _ _ _ _ _ c.requires.passed (λ k. omega (arith, bytes k)) (omega arith) c.loop-i-test.array_long (omega (arith, longest-full c.args.field)) c.read_at-m.ensures.answer c.read_at-m.ensures.writes in
    held-inside held

pub slice_bounds-put_list-end : goal.slice_bounds-put_list-end
unfolding longest
slice_bounds-put_list-end c =
    let s = c.args.album.now in
    let bytes = c.type_inv.album in
    let counted = length-lists s in
    let read = c.byte_at-i-end.ensures in
    let held : Held (modulus c.args.field) (longest c.args.field) c.read_at-m.new.out c.read_at-m.result (nth_list s c.loop-i.i) =
    read_held _ _ _ _ _ c.requires.passed (λ k. omega (arith, bytes k)) (omega arith) c.loop-i-test.array_long (omega (arith, longest-full c.args.field)) c.read_at-m.ensures.answer c.read_at-m.ensures.writes in
    held-count held

pub put_list-requires : goal.put_list-requires
unfolding longest
put_list-requires c =
    let s = c.args.album.now in
    let bytes = c.type_inv.album in
    let counted = length-lists s in
    let read = c.byte_at-i-end.ensures in
    let held : Held (modulus c.args.field) (longest c.args.field) c.read_at-m.new.out c.read_at-m.result (nth_list s c.loop-i.i) =
    read_held _ _ _ _ _ c.requires.passed (λ k. omega (arith, bytes k)) (omega arith) c.loop-i-test.array_long (omega (arith, longest-full c.args.field)) c.read_at-m.ensures.answer c.read_at-m.ensures.writes in (
      omega (arith, ap length (held-take held), held.listed.some),
      room-is (ap (list_line _) (list_at s _ (omega arith) ∙ sym (held-take held)))
          (left-room _ _ (lines_next (lists_of s) _ (omega arith)) c.loop-i.invariant c.requires.room),
    )

pub loop-i-preserved : goal.loop-i-preserved
unfolding longest
loop-i-preserved c =
    let s = c.args.album.now in
    let bytes = c.type_inv.album in
    let counted = length-lists s in
    let read = c.byte_at-i-end.ensures in
    let held : Held (modulus c.args.field) (longest c.args.field) c.read_at-m.new.out c.read_at-m.result (nth_list s c.loop-i.i) =
    read_held _ _ _ _ _ c.requires.passed (λ k. omega (arith, bytes k)) (omega arith) c.loop-i-test.array_long (omega (arith, longest-full c.args.field)) c.read_at-m.ensures.answer c.read_at-m.ensures.writes in
    left-next _ _ (lines_next (lists_of s) _ (omega arith)) c.loop-i.invariant
    (put_is (ap (list_line _) (held-take held ∙ sym (list_at s _ (omega arith)))) refl c.put_list.ensures)

pub returns : goal.returns
returns c =
    let s = c.args.album.now in
    let counted = length-lists s in
    let read = c.byte_at-i-end.ensures in
    left_end (left-next [] [] (lines_end (lists_of s) c.loop-i.i (omega arith)) c.loop-i.invariant (put-none _ _))

-- `report_text::put_lists` meets its contract. The loop's invariant: the lines of the lists below i are put.
-- Assumes nothing.
use lib.ListN.{drop}
use Rattle.album_layout.specs.Layout.{lists_of}
use Rattle.report_text.specs.Report.{list_lines}
use Rattle.report_text.proofs.Puts.{Left}
use Rattle.report_text.proofs.put_lists.Given as goal

abbrev pub invariant-loop-i : goal.invariant-loop-i
invariant-loop-i l =
    Left (list_lines 0 (lists_of l.album)) (list_lines l.i (drop l.i (lists_of l.album)))
    l.initial.page.used l.initial.page.bytes l.page.bytes l.page.used

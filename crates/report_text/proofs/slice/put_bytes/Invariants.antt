-- `report_text::put_bytes` meets its contract. The loop's invariant: the bytes so far are put.
-- Assumes nothing.
use lib.ListN.{take}
use Rattle.report_text.specs.Internal.{Put}
use Rattle.report_text.proofs.slice.put_bytes.Given as goal

abbrev pub invariant-loop-byte : goal.invariant-loop-byte
invariant-loop-byte l = Put (take l.byte-index l.bytes) l.at l.initial.out l.out l.place

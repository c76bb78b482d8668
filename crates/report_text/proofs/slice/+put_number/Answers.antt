-- `report_text::put_number` meets its contract: the digits of the tenth, then the last one.
-- Assumes nothing.
use mathlib.Core.Path.{refl, sym}
use native.Mathlib.Omega.{arith}
use Rattle.report_text.proofs.Puts.{put_is, put_then, room-is, room-first, room-then}
use Rattle.report_text.proofs.Digits.{decimal-one, decimal-more}
use Rattle.report_text.proofs.slice.+put_number.Goals as goal

pub put-requires : goal.put-requires
put-requires t c = room-is (decimal-one _ (omega arith)) c.requires

pub returns-then-n-lt10 : goal.returns-then-n-lt10
returns-then-n-lt10 t c = put_is (sym (decimal-one _ (omega arith))) refl c.put.ensures

pub put_number-last-requires : goal.put_number-last-requires
put_number-last-requires t c = (omega (arith, c.decreases), room-first _ _ (room-is (decimal-more _ (omega arith)) c.requires))

pub put-requires-2 : goal.put-requires-2
put-requires-2 t c = room-then (room-is (decimal-more _ (omega arith)) c.requires) c.put_number-last.ensures

pub returns : goal.returns
returns t c = put_is (sym (decimal-more _ (omega arith))) refl (put_then c.put_number-last.ensures c.put-2.ensures)

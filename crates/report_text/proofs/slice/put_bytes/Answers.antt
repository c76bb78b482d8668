-- `report_text::put_bytes` meets its contract.
-- Assumes nothing.
use mathlib.Core.Path.{refl}
use native.Mathlib.Numerals.{add-one}
use native.Mathlib.Omega.{arith}
use lib.Seq.{take-suc, take_all, length-take-le}
use Rattle.report_text.proofs.Puts.{put-none, put_is, put_then}
use Rattle.report_text.proofs.slice.put_bytes.Goals as goal

pub loop-byte-init : goal.loop-byte-init
loop-byte-init c = put-none _ _

pub put-place-requires : goal.put-place-requires
put-place-requires c =
    let so_far = c.loop-byte.invariant in
    record { fits = omega (arith, c.requires.fits, so_far.next, so_far.same, length-take-le c.loop-byte.byte-index c.args.bytes.now (omega arith)) }

pub loop-byte-preserved : goal.loop-byte-preserved
loop-byte-preserved c =
    put_is (rw (add-one, take-suc c.args.bytes.now c.loop-byte.byte-index 0 c.loop-byte-test.true)) refl (put_then c.loop-byte.invariant c.put-place.ensures)

pub returns : goal.returns
returns c = put_is (take_all c.loop-byte.byte-index c.args.bytes.now (omega arith)) refl c.loop-byte.invariant

-- `line_text::put_text` meets its contract: the line and the album are parts of the input.
-- Assumes nothing.
use mathlib.Core.Path.{refl, sym}
use Prim.Native.Nat.{◌≤◌}
use native.Mathlib.Omega.{arith}
use lib.ListN.{length}
use lib.Seq.{length-take-le}
use Rattle.report_text.proofs.Puts.{put_is}
use Rattle.line_text.proofs.Parts.{line-inside}
use Rattle.line_text.proofs.Texts.{parts-text}
use Rattle.line_text.proofs.put_text.Goals as goal

pub overflow_add-end : goal.overflow_add-end
overflow_add-end c = omega (arith, c.line_end-end.ensures, line-inside c.args.input.now)

pub slice_bounds-line-end : goal.slice_bounds-line-end
slice_bounds-line-end c =
    let inside : c.line_end-end.result ≤ length c.args.input.now = omega (arith, c.line_end-end.ensures, line-inside c.args.input.now) in
    sym (length-take-le _ _ inside)

pub returns : goal.returns
returns c = put_is (parts-text c.args.field c.args.input.now c.line_end-end.ensures c.smaller-start.ensures) refl c.put_value.ensures

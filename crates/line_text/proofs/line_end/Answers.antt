-- `line_text::line_end` meets its contract.
-- Assumes nothing.
use native.Mathlib.Omega.{arith}
use Rattle.line_text.proofs.Parts.{ends-here, ends_on, ends-none}
use Rattle.line_text.proofs.line_end.Goals as goal

pub returns-then-byte-eq-LINE_END : goal.returns-then-byte-eq-LINE_END
returns-then-byte-eq-LINE_END c =
    let input = c.args.input.now in
    let loop = c.loop-i in
    omega (arith, ends-here input loop.i c.loop-i-test.true c.if-byte-eq-LINE_END.true, loop.invariant)

pub loop-i-preserved : goal.loop-i-preserved
loop-i-preserved c =
    let input = c.args.input.now in
    let loop = c.loop-i in
    omega (arith, ends_on input loop.i c.loop-i-test.true c.if-byte-eq-LINE_END.false, loop.invariant)

pub returns : goal.returns
returns c = omega (arith, ends-none c.args.input.now c.loop-i.i (omega arith), c.loop-i.invariant)

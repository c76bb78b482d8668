-- `lines::nesting` meets its contract.
-- Assumes nothing.
use mathlib.Core.Path.{◌≡◌, sym, ◌∙◌}
use native.Mathlib.Omega.{arith}
use Prim.Native.Nat.{max}
use lib.ListN.{get_or}
use Rattle.lines.proofs.Whole.{deepest-turn, deepest-end, open-bound}
use Rattle.lines.proofs.nesting.Goals as goal

pub loop-b-preserved : goal.loop-b-preserved
loop-b-preserved c =
    let s = c.args.line.now in
    let i = c.loop-b.b-index in
    let d = c.loop-b.depth in
    let m = c.loop-b.most in
    let larger : c.max-most.result ≡ max m d = c.max-most.ensures in (
      omega (arith, open-bound d (get_or s i 0), c.open_behind-depth.ensures),
      rw (larger, c.open_behind-depth.ensures) (sym (deepest-turn s i m d c.loop-b-test.true) ∙ c.loop-b.invariant.1),
    )

pub returns : goal.returns
returns c = omega (arith, c.max.ensures, c.loop-b.invariant.1, deepest-end c.args.line.now c.loop-b.b-index c.loop-b.depth (omega arith))

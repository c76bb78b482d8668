-- `test_calls::copy` meets its contract.
-- Assumes nothing.
use mathlib.Core.Path.{refl, sym, ◌∙◌}
use native.Mathlib.Omega.{arith}
use Rattle.lists.proofs.Filled.{fill_start, fill_step, fill_end}
use Rattle.test_calls.proofs.copy.Goals as goal

pub loop-k-init : goal.loop-k-init
loop-k-init c = fill_start _ _

pub loop-k-preserved : goal.loop-k-preserved
loop-k-preserved c = fill_step _ c.loop-k.invariant (omega (arith, c.loop-k.auto.to, c.loop-k-test.true, c.requires)) refl

pub returns : goal.returns
returns c = fill_end c.loop-k.invariant (c.loop-k.auto.to ∙ sym c.requires) (omega (arith, c.loop-k.auto.k-end))

-- `list_derivative::differences` meets its contract: one more word of the derivative in each turn.
-- Assumes nothing.
use native.Mathlib.Omega.{arith}
use Rattle.field.specs.Fields.{field_at}
use Rattle.field.proofs.Fields.{p-at}
use Rattle.lists.proofs.Filled.{fill_step, fill_end}
use Rattle.list_derivative.proofs.Derived.{length-is, word-is}
use Rattle.list_derivative.proofs.differences.Goals as goal

pub loop-k-preserved : goal.loop-k-preserved
loop-k-preserved c =
    let word = word-is (field_at _) c.args.f.now _ c.requires.0 c.requires.1 (p-at _) in
    fill_step _ c.loop-k.invariant (omega arith) (word _ _ _ (omega arith) c.sub.ensures c.mul.ensures)

pub returns : goal.returns
returns c =
    let size = length-is (field_at c.args.field) c.args.f.now _ c.requires.0 c.requires.1 in
    fill_end c.loop-k.invariant (omega arith) (omega arith)

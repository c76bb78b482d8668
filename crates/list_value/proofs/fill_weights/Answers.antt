-- `list_value::fill_weights` meets its contract. The loop's invariant: the words below j are written.
-- Assumes nothing.
use mathlib.Core.Path.{sym, ◌∙◌}
use native.Mathlib.Omega.{arith}
use lib.ListN.{length}
use Rattle.field.specs.Fields.{modulus}
use Rattle.lists.proofs.Filled.{fill_step, fill_end}
use Rattle.list_value.proofs.Weights.{length-weights, word-weights}
use Rattle.list_value.proofs.fill_weights.Goals as goal

pub loop-j-preserved : goal.loop-j-preserved
loop-j-preserved c =
    let args = c.args in
    let word = word-weights _ (length args.u.now) args.a.now args.b.now c.loop-j.j (omega arith) in
    fill_step _ c.loop-j.invariant (omega arith) (c.mul.ensures ∙ sym word)

pub returns : goal.returns
returns c =
    let args = c.args in
    let size = length-weights (modulus args.field) (length args.u.now) args.a.now args.b.now in
    fill_end c.loop-j.invariant (omega arith) (omega arith)

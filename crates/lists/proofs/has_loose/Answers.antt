-- `lists::has_loose` meets its contract.
-- Assumes nothing.
use mathlib.Core.Path.{sym, ◌∙◌}
use native.Mathlib.Omega.{arith}
use Rattle.field.proofs.Fields.{modulus-some}
use Rattle.lists.proofs.Largest.{loose-start, loose-next, loose-end}
use Rattle.lists.proofs.has_loose.Goals as goal

pub loop-word-init : goal.loop-word-init
loop-word-init c = loose-start _ c.args.list.now (modulus-some c.args.field)

pub loop-word-preserved : goal.loop-word-preserved
loop-word-preserved c =
    let loop = c.loop-word in
    loop.invariant ∙ loose-next _ c.args.list.now loop.largest loop.word-index (omega arith) c.max-largest.ensures

pub returns : goal.returns
returns c =
    let loop = c.loop-word in
    rw c.modulus_of.ensures
    (sym (loop.invariant ∙ loose-end _ c.args.list.now loop.largest loop.word-index (omega arith)))

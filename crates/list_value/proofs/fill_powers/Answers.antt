-- `list_value::fill_powers` meets its contract. The loop's invariant: the words before the next are written, and `power` is the next.
-- Assumes nothing.
use mathlib.Core.Path.{sym, ◌∙◌}
use native.Mathlib.Omega.{arith}
use lib.ListN.{length}
use Rattle.field.specs.Fields.{field_at}
use Rattle.field.proofs.Fields.{p-at, modulus-half}
use Rattle.lists.proofs.Filled.{fill_start, fill_step, fill_end}
use Rattle.list_value.proofs.Weights.{length-powers, word-powers, power-start, power-next}
use Rattle.list_value.proofs.fill_powers.Goals as goal

pub loop-word-init : goal.loop-word-init
loop-word-init c =
    (fill_start _ _, power-start (field_at _) (p-at _) c.args.x (omega (arith, modulus-half c.args.field)))

pub loop-word-preserved : goal.loop-word-preserved
loop-word-preserved c =
    let args = c.args in
    let loop = c.loop-word in
    let word = loop.invariant.1 ∙ sym (word-powers (field_at _) args.x (length args.u.now) loop.word-index (omega arith)) in
    (fill_step _ loop.invariant.0 (omega arith) word, power-next (field_at _) (p-at _) args.x loop.word-index loop.invariant.1 c.mul-power.ensures)

pub returns-clause-words : goal.returns-clause-words
returns-clause-words c =
    let size = length-powers (field_at c.args.field) c.args.x (length c.args.u.now) in
    fill_end c.loop-word.invariant.0 (omega arith) (omega arith)

-- `list_value::homogeneous` meets its contract. The loop's invariant: `sum` stands for the sum of the first k terms, as if the list had k
-- words, and `power` for x^k, both times c.
-- Assumes nothing.
use native.Mathlib.Omega.{arith}
use mathlib.Core.Path.{◌∙◌}
use Prim.Native.Nat.{◌-◌, ◌*◌, ◌/◌}
use lib.ListN.{length, drop, length-take}
use Rattle.std.proofs.lemmas.List.{get_or-take, get_or-drop}
use Rattle.field.specs.Fields.{field_at}
use Rattle.field.proofs.Fields.{p-at}
use Rattle.list_value.proofs.Values.{word_next, terms-end}
use Rattle.list_value.proofs.homogeneous.Goals as goal

pub loop-word-preserved : goal.loop-word-preserved
loop-word-preserved c =
    let args = c.args in
    let loop = c.loop-word in
    let s = args.s.now in
    let whole = 8 * (length s / 8) in
    let word = get_or-take (length s - whole) (drop whole s) loop.word-index 0 (omega (arith, length-take (length s - whole) (drop whole s))) ∙ get_or-drop whole s loop.word-index 0 in
    word_next (field_at _) (p-at _) s args.x args.y args.c _ _ loop.invariant word c.two_products-sum.ensures c.mul-power.ensures (omega arith)

pub returns : goal.returns
returns c =
    let args = c.args in
    terms-end (field_at _) args.s.now args.x args.y args.c (omega arith) c.loop-word.invariant

-- `word_product::dots` meets its contract: the words below k are written.
-- Assumes nothing.
use mathlib.Core.Path.{sym, ap, ◌∙◌}
use Prim.Native.Nat.{◌%◌}
use native.Mathlib.Omega.{arith}
use lib.ListN.{length}
use Rattle.field.specs.Fields.{modulus, field_at}
use Rattle.field.proofs.Fields.{p-at}
use Rattle.lists.proofs.Filled.{fill_step, fill_end}
use Rattle.word_product.proofs.Convolution.{length-remainders, get_or-remainders, convolution-is}
use Rattle.word_product.proofs.dots.Goals as goal

pub loop-k-preserved : goal.loop-k-preserved
loop-k-preserved c =
    fill_step _ c.loop-k.invariant (omega arith)
    (c.reduce.ensures ∙ ap (λ n. n % modulus c.args.field) c.dot.ensures
    ∙ sym (get_or-remainders _ (length c.args.out.now) c.args.a.now c.args.b.now c.loop-k.k (omega arith)))

pub returns : goal.returns
returns c =
    let n = length c.args.out.now in
    let a = c.args.a.now in
    let b = c.args.b.now in
    fill_end c.loop-k.invariant (omega (arith, length-remainders (modulus c.args.field) n a b)) (omega arith)
    ∙ convolution-is (field_at _) a b (p-at _) n (omega arith)

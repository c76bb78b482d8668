-- `list_value::sum_products` meets its contract. The loop's invariant: `sum` has as many products as there were turns, and is at most as many
-- times the largest.
-- Assumes nothing.
use mathlib.Core.Path.{sym}
use native.Mathlib.Omega.{arith}
use Rattle.std.proofs.lemmas.List.{length_push}
use Rattle.std.proofs.lemmas.Slice.Zip.{zip_turn}
use Rattle.list_value.proofs.Products.{products-none, products-next}
use Rattle.list_value.proofs.sum_products.Goals as goal

pub loop-a-init : goal.loop-a-init
loop-a-init c = (sym (products-none _ _ _), omega arith)

pub loop-a-preserved : goal.loop-a-preserved
loop-a-preserved c =
    let args = c.args in
    let loop = c.loop-a in
    let turn = zip_turn args.s.now args.u.now loop.yielded c.into_iter-a-iterator.result loop.a-iterator c.next.new.self _ (cc) (cc) loop.yielded_by _ c.in-Some.is c.next.ensures.steps in
    let more = length_push loop.yielded (c.in-Some.field-0-0, c.in-Some.field-0-1) in
    (products-next args.s.now args.u.now _ loop.invariant.0 (turn.2 0) (turn.3 0) c.add_product-sum.ensures.0 more, omega arith)

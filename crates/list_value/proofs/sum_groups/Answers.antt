-- `list_value::sum_groups` meets its contract. The loop's invariant: the groups that are left are the words after i groups, `sum` stands for the
-- sum over the first i groups, as if there were i, and `power` for x^i, both times c.
-- Assumes nothing.
use mathlib.Core.Path.{◌≡◌, sym, ◌∙◌}
use mathlib.Core.List.{◌++◌}
use native.Mathlib.Omega.{arith}
use Prim.Native.Nat.{◌*◌}
use lib.ListN.{length, drop}
use Rattle.std.specs.Slice.Iter.{chunks_exact_rest}
use Rattle.std.proofs.lemmas.List.{length_push}
use Rattle.field.specs.Fields.{field_at}
use Rattle.field.proofs.Fields.{p-at}
use Rattle.list_value.specs.Internal.{groups}
use Rattle.list_value.proofs.Values.{terms-start, terms-next}
use Rattle.list_value.proofs.Products.{products-part}
use Rattle.list_value.proofs.Groups.{group-sum}
use Rattle.list_value.proofs.Chunks.{chunk-words, chunk-left}
use Rattle.list_value.proofs.sum_groups.Goals as goal

pub loop-group-init : goal.loop-group-init
loop-group-init c = record { size = cc; left = cc; terms = terms-start (field_at _) _ _ _ _ }

pub loop-group-preserved : goal.loop-group-preserved
loop-group-preserved c =
    let args = c.args in
    let s = args.s.now in
    let u = args.u.now in
    let loop = c.loop-group in
    let i = length loop.yielded in
    let group = c.in-Some.group.now in
    let steps = c.in-Some.ensures.steps in
    let parts : drop (8 * i) s ≡ group ++ chunks_exact_rest c.next.new.self = sym loop.invariant.left ∙ steps.1.0 in
    let size : length group ≡ 8 = steps.1.1 ∙ loop.invariant.size in
    let products = c.sum_products.ensures.0 ∙ products-part group s (8 * i) u (length u) (λ j l. chunk-words 8 i s group _ parts size j (omega arith)) in
    let sum = group-sum (field_at _) 8 s u i c.requires products in
    let more = length_push loop.yielded c.in-Some.group in
    let terms = terms-next (field_at _) (p-at _) (groups (field_at _) 8 s u) args.x args.y args.c i _ loop.invariant.terms sum c.two_products-sum.ensures c.mul-power.ensures in
    record { size = steps.0 ∙ loop.invariant.size; left = chunk-left 8 i s group _ parts size _ more; terms = rw more terms }

-- `list_product::product_in` meets its contract: the product of the scaled forms, divided by the binomial coefficients again.
-- Assumes nothing.
use Rattle.field.specs.Fields.{field_at}
use Rattle.field.proofs.Fields.{p-at, longest-in, longest-room}
use Rattle.list_product.proofs.Products.{product_is}
use Rattle.list_product.proofs.product_in.Goals as goal

pub returns : goal.returns
returns c =
    let k = c.args.field in
    product_is (field_at _) (p-at _) _ _ (longest-in k) (longest-room k) _ _
    (record { factorials = c.factorials-whole.ensures; inverses = c.inverse_factorials-part.ensures })
    _ _ _ _ _ _ c.requires.product_fits c.requires.a_len.0 c.requires.a_len.1 c.requires.a_len.2
    c.weigh.ensures
    c.weigh-2.ensures
    c.convolve.ensures
    c.weigh-3.ensures

-- `word_scaling::product_of_three` meets its contract: the first product of Montgomery's is below p, as the second one asks.
-- Assumes nothing.
use Rattle.std.proofs.Common.{ℕ, ap, ◌∙◌, ap₂, arith}
use Rattle.field.proofs.Fields.{modulus-some}
use Rattle.word_montgomery.specs.Montgomery.{montgomery}
use Rattle.word_montgomery.proofs.Montgomery.{montgomery-below}
use Rattle.word_scaling.specs.Scaling.{partly}
use Rattle.word_scaling.proofs.product_of_three.Goals as goal

pub montgomery_product-requires : goal.montgomery_product-requires
montgomery_product-requires c =
    let some = modulus-some c.args.field in
    let p = c.modulus_of-p.ensures in
    rw c.montgomery_product-xa.ensures (montgomery-below _ _ _ _ (omega arith))

pub returns : goal.returns
unfolding partly
returns c =
    let start = c.args in
    c.montgomery_product.ensures
    ∙ ap (montgomery _ _ start.b) c.montgomery_product-xa.ensures
    ∙ ap₂ (λ (p e : ℕ). montgomery p e start.b (montgomery p e start.a start.x))
    c.modulus_of-p.ensures c.word_inverse_of-e.ensures

-- `word_scaling::product_of_four` meets its contract: each product of Montgomery's is below p, as the next one asks.
-- Assumes nothing.
use Rattle.std.proofs.Common.{◌≡◌, ℕ, ◌*◌, ◌%◌, ◌<◌, sym, ap, ◌∙◌, mod-lt, arith}
use Rattle.field.specs.Fields.{modulus, field_at}
use Rattle.field.proofs.Fields.{modulus-some, p-at, fourth-is}
use Rattle.word_montgomery.specs.Montgomery.{montgomery}
use Rattle.word_montgomery.proofs.Montgomery.{montgomery-below}
use Rattle.word_scaling.proofs.Products.{constants-of, product-of-four}
use Rattle.word_scaling.proofs.product_of_four.Goals as goal

-- a product of Montgomery's is below p
below : (k e x y : ℕ) {p w : ℕ} → p ≡ modulus k → w ≡ montgomery p e x y → w < p
below k e x y {p} q is = rw is (montgomery-below p e x y (omega (arith, modulus-some k)))

pub montgomery_product-c-requires : goal.montgomery_product-c-requires
montgomery_product-c-requires c =
    let k = c.args.field in
    rw (c.fourth_of.ensures, fourth-is k, c.modulus_of-p.ensures) (mod-lt _ (modulus-some k))

pub montgomery_product-xc-requires : goal.montgomery_product-xc-requires
montgomery_product-xc-requires c = below _ _ _ _ c.modulus_of-p.ensures c.montgomery_product-c.ensures

pub montgomery_product-xca-requires : goal.montgomery_product-xca-requires
montgomery_product-xca-requires c = below _ _ _ _ c.modulus_of-p.ensures c.montgomery_product-xc.ensures

pub montgomery_product-requires : goal.montgomery_product-requires
montgomery_product-requires c = below _ _ _ _ c.modulus_of-p.ensures c.montgomery_product-xca.ensures

pub returns : goal.returns
returns c =
    let start = c.args in
    let p = c.modulus_of-p.ensures in
    let e = c.word_inverse_of-e.ensures in
    let w = c.fourth_of.ensures in
    product-of-four (field_at start.field) (p-at start.field ∙ sym p) (constants-of start.field p e w) start.x start.d start.a start.b
    c.montgomery_product-c.ensures c.montgomery_product-xc.ensures c.montgomery_product-xca.ensures c.montgomery_product.ensures
    ∙ ap (λ (n : ℕ). (start.x * start.d * start.a * start.b) % n) p

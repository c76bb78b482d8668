-- `word_row::add_product_below` meets its contract: the difference of the high halves is the product.
-- Assumes nothing.
use Rattle.std.proofs.Common.{◌*◌, ◌/◌, ◌<◌, ap, ◌∙◌, le_refl, mod-lt, arith}
use Rattle.word_montgomery.proofs.Words.{high-below}
use Rattle.word_row.proofs.Montgomery.{added}
use Rattle.word_row.proofs.add_product_below.Goals as goal

pub returns : goal.returns
returns c =
    let less-below : c.high_half-less.result < c.args.p = rw c.high_half-less.ensures (high-below c.low_half.result (omega arith) (le_refl _) (omega arith)) in (
      rw c.add_below.ensures (mod-lt _ (omega arith)),
      λ e m f.
          let a = c.args in
          added a.x a.y _ _ _ _ f less-below c.high_half.ensures
          (c.high_half-less.ensures ∙ ap (λ l. l * a.p / 65536) c.low_half.ensures)
          c.sub_below.ensures c.add_below.ensures,
    )

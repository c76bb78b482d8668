-- `word_scaling::montgomery_product` meets its contract: where the high half is less than what is taken off, p comes to their difference.
-- Assumes nothing.
use Rattle.std.proofs.Common.{◌∙◌}
use Rattle.word_scaling.proofs.Products.{halves, below-zero, not-below}
use Rattle.word_scaling.proofs.montgomery_product.Goals as goal

pub returns-then-p-less : goal.returns-then-p-less
returns-then-p-less c =
    let both = halves _ _ _ _ c.ranges.x.fits c.requires c.high_half-high.ensures c.low_half.ensures c.low_half-2.ensures c.high_half-less.ensures in
    below-zero _ _ _ both.0 both.1 c.ranges.p.fits c.if-p-less.true ∙ both.2

pub returns-else-p-less : goal.returns-else-p-less
returns-else-p-less c =
    let both = halves _ _ _ _ c.ranges.x.fits c.requires c.high_half-high.ensures c.low_half.ensures c.low_half-2.ensures c.high_half-less.ensures in
    not-below _ _ _ both.0 both.1 c.ranges.p.fits c.if-p-less.false ∙ both.2

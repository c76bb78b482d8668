-- `list_product::product_over` meets its contract: the slice is written where nothing is refused.
-- Assumes nothing.
use mathlib.Core.Path.{sym, ◌∙◌}
use Rattle.field.proofs.Fields.{modulus-some}
use Rattle.list_product.proofs.Judged.{product-fits}
use Rattle.list_product.proofs.product_over.Goals as goal

pub product_into-requires : goal.product_into-requires
product_into-requires c = product-fits _ _ (modulus-some _) _ _ _ (sym c.in_ok-judge_product.was ∙ c.judge_product.ensures)

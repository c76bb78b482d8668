-- `list_product::raise_into` meets its contract: the product with a list of ones.
-- Assumes nothing.
use mathlib.Core.Path.{refl}
use Rattle.field.specs.Fields.{field_at}
use Rattle.field.proofs.Fields.{longest-room}
use Rattle.refusal.specs.Limits.{max_words}
use Rattle.list_product.proofs.Products.{raise-is}
use Rattle.list_product.proofs.raise_into.Goals as goal

pub returns : goal.returns
returns c = raise-is (field_at _) max_words (longest-room c.args.field) _ _ _ c.requires refl c.product_into.ensures

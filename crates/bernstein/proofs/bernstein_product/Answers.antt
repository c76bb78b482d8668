-- `bernstein::bernstein_product` meets its contract: what its core ensures at field 0, which implies the demands.
-- Assumes nothing.
use Rattle.field.specs.Fields.{longest}
use Rattle.statement.proofs.Demand1.{demand1, no-slice, and-slice}
use Rattle.bernstein.proofs.Demands.{product-so}
use Rattle.bernstein.proofs.bernstein_product.Goals as goal

pub returns : goal.returns
unfolding longest
returns c = let core = c.product_over.ensures in record { answer = core.answer; writes = core.writes; demand1 = demand1 _ _ _ core.answer (and-slice _ core.writes no-slice); demand2 = product-so _ _ _ core.answer core.writes }

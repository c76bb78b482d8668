-- `word_product::dot` meets its contract: each turn is one row more.
-- Assumes nothing.
use mathlib.Core.Path.{sym, ◌∙◌}
use native.Mathlib.Omega.{arith}
use Rattle.word_product.proofs.RowSums.{dot-start, dot-next, dot-end}
use Rattle.word_product.proofs.dot.Goals as goal

pub loop-j-init : goal.loop-j-init
loop-j-init c = (omega arith, sym (dot-start _ _ _ _ c.first_row-j.ensures))

pub loop-j-preserved : goal.loop-j-preserved
loop-j-preserved c = (omega arith, omega (arith, dot-next c.args.a.now c.args.b.now c.args.k c.loop-j.j))

pub returns : goal.returns
returns c = c.loop-j.invariant.1 ∙ dot-end _ _ _ _ (omega arith)

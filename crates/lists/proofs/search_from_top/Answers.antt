-- `lists::search_from_top` meets its contract.
-- Assumes nothing.
use mathlib.Core.Path.{refl, sym, ◌∙◌}
use Rattle.lists.specs.Degrees.{significant}
use Rattle.lists.proofs.Extents.{searched-zero}
use Rattle.lists.proofs.Search.{significant-here, significant-on, significant-none, searched-here}
use native.Mathlib.Omega.{arith}
use borrow.Author.Rules.{rules}
use Rattle.lists.proofs.search_from_top.Goals as goal

pub loop-n-init : goal.loop-n-init
unfolding significant
loop-n-init c = (search rules, refl)

pub returns-then-word-ne0 : goal.returns-then-word-ne0
returns-then-word-ne0 c =
    let loop = c.loop-n in
    let found = loop.invariant.1 ∙ significant-here _ _ (omega arith) c.if-word-ne0.true in
    record { words = omega (arith, found); read = searched-here _ _ _ found (omega arith) loop.invariant.0 }

pub loop-n-preserved : goal.loop-n-preserved
loop-n-preserved c = (omega arith, c.loop-n.invariant.1 ∙ significant-on _ _ (omega arith) c.if-word-ne0.false)

pub returns : goal.returns
returns c =
    let loop = c.loop-n in
    let none = loop.invariant.1 ∙ significant-none _ _ (omega arith) in
    record { words = sym none; read = omega (arith, searched-zero _ none) }

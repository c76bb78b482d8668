-- `word_row::add_product` meets its contract: x is reduced first.
-- Assumes nothing.
use Rattle.std.proofs.Common.{◌+◌, ◌*◌, ◌%◌, ap, ◌∙◌}
use native.Mathlib.Nat.{mod-add-mod}
use Rattle.word_row.proofs.add_product.Goals as goal

pub returns : goal.returns
returns c =
    λ e m f. let a = c.args in
    c.add_product_below.ensures.1 e m f ∙ ap (λ n. (n + m * a.y) % a.p) c.once_reduced.ensures ∙ mod-add-mod a.x a.p (m * a.y)

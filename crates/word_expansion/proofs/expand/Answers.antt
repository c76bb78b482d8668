-- `word_expansion::expand` meets its contract: where it finds no loose word, it expands.
-- Assumes nothing.
use mathlib.Core.Path.{sym, ◌∙◌}
use Rattle.field.specs.Fields.{modulus}
use Rattle.field.proofs.Fields.{modulus-some}
use Rattle.lists.proofs.Search.{none-loose}
use Rattle.word_expansion.proofs.expand.Goals as goal

pub expand_in-requires : goal.expand_in-requires
expand_in-requires c =
    let a = c.args in
    let none = sym c.has_loose.ensures ∙ c.if-has_loose.false in
    rw c.modulus_of.ensures
    (record { at = none-loose (modulus a.field) a.x.now (modulus-some a.field) none })

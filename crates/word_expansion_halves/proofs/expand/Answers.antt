-- `word_expansion_halves::expand` meets its contract: where it finds no loose word, it expands.
-- Assumes nothing.
use mathlib.Core.Path.{sym, ◌∙◌}
use native.Mathlib.Omega.{arith}
use Rattle.field.specs.Fields.{modulus}
use Rattle.field.proofs.Fields.{modulus-some, longest-room}
use Rattle.lists.proofs.Search.{none-loose}
use Rattle.word_expansion_halves.proofs.expand.Goals as goal

pub expand_tight-requires : goal.expand_tight-requires
expand_tight-requires c =
    let a = c.args in
    let none = sym c.has_loose.ensures ∙ c.if-has_loose.false in
    (omega (arith, longest-room a.field), record { at = none-loose (modulus a.field) a.x.now (modulus-some a.field) none })

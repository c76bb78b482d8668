-- `list_powers::powers_of_t` meets its contract: the weighed words, expanded.
-- Assumes nothing.
use mathlib.Core.Path.{◌∙◌, ap}
use mathlib.Core.Bool.{false}
use native.Mathlib.Omega.{arith}
use Rattle.field.specs.Fields.{modulus}
use Rattle.field.proofs.Fields.{longest-room}
use Rattle.field_tables.proofs.Entries.{fetched}
use Rattle.word_expansion.specs.Expansion.{expanded_into}
use Rattle.list_powers.proofs.Powers.{powers-written}
use Rattle.list_powers.proofs.powers_of_t.Goals as goal

pub returns : goal.returns
returns c =
    let a = c.args in
    let tables = fetched a.field c.factorials-whole.ensures c.inverse_factorials-part.ensures (omega arith) in
    c.expand.ensures
    ∙ ap (expanded_into (modulus a.field) false) c.weigh.ensures
    ∙ powers-written a.field tables a.list.now a.out.now (omega (arith, longest-room a.field))

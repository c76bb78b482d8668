-- `list_powers::list_of_powers` meets its contract: the words expanded, and weighed.
-- Assumes nothing.
use mathlib.Core.Path.{◌∙◌, ap}
use native.Mathlib.Omega.{arith}
use Rattle.field.proofs.Fields.{longest-room}
use Rattle.field_tables.proofs.Entries.{fetched}
use Rattle.list_powers.specs.Powers.{list_written}
use Rattle.list_powers.proofs.Powers.{list-written}
use Rattle.list_powers.proofs.list_of_powers.Goals as goal

pub returns-clause-writes : goal.returns-clause-writes
returns-clause-writes c =
    let a = c.args in
    let tables = fetched a.field c.factorials-whole.ensures c.inverse_factorials-part.ensures (omega arith) in
    c.weigh.ensures
    ∙ list-written a.field tables c.expand.new.x a.out.now (omega (arith, longest-room a.field))
    ∙ ap (λ w. list_written a.field w a.out.now) c.expand.ensures

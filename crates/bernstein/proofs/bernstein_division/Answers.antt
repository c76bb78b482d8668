-- `bernstein::bernstein_division` meets its contract: what its core ensures at field 0, which implies the demands.
-- Assumes nothing.
use Rattle.field.specs.Fields.{longest}
use Rattle.statement.proofs.Demand1.{demand1, no-slice, and-slice}
use Rattle.bernstein.proofs.Demands.{division-so}
use Rattle.bernstein.proofs.bernstein_division.Goals as goal

pub returns : goal.returns
unfolding longest
returns c =
    let core = c.divide_over.ensures in
    let q = core.quotient in
    let r = core.remainder in record { answer = core.answer; quotient = q; remainder = r; demand1 = demand1 _ _ _ core.answer (and-slice _ q (and-slice _ r no-slice)); demand3 = division-so _ _ _ _ core.answer q r }

-- `bernstein::bernstein_gcd` meets its contract: what its core ensures at field 0, which implies the demands.
-- Assumes nothing.
use Rattle.field.specs.Fields.{longest}
use Rattle.statement.proofs.Demand1.{demand1, no-slice, and-slice}
use Rattle.bernstein.proofs.Demands.{gcd-so}
use Rattle.bernstein.proofs.bernstein_gcd.Goals as goal

pub returns : goal.returns
unfolding longest
returns c =
    let core = c.gcd_over.ensures in
    let h = core.writes in
    let answer = core.values in record { answer = core.answer; writes = h; values = answer; demand1 = demand1 _ _ _ core.answer (and-slice _ h (and-slice _ answer no-slice)); demand3 = gcd-so _ _ _ _ core.answer h answer }

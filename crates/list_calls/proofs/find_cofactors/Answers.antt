-- `list_calls::find_cofactors` meets its contract: what its core ensures at field 0, which implies the demands.
-- Assumes nothing.
use Rattle.field.specs.Fields.{longest}
use Rattle.statement.proofs.Demand1.{replies, no-slice, and-slice}
use Rattle.statement.proofs.Demand3Calls.{cofactors-of}
use Rattle.list_calls.proofs.find_cofactors.Goals as goal

pub returns : goal.returns
unfolding longest
returns c =
    let core = c.cofactors_over.ensures in
    let h = core.gcd in
    let a = core.cofactor_a in
    let b = core.cofactor_b in record { answer = core.answer; gcd = h; cofactor_a = a; cofactor_b = b; demand1 = replies _ core.answer (and-slice _ h (and-slice _ a (and-slice _ b no-slice))); greatest = core.greatest; demand3 = cofactors-of _ _ _ _ _ core.answer h a b }

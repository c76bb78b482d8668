-- `album_calls::read_list` meets its contract: what its core ensures at field 0, which implies the demands.
-- Assumes nothing.
use Rattle.field.specs.Fields.{longest}
use native.Mathlib.Omega.{arith}
use Rattle.statement.proofs.Demand1.{replies, no-slice, and-slice}
use Rattle.statement.proofs.Demand2Albums.{read-so}
use Rattle.album_calls.proofs.read_list.Goals as goal

pub returns : goal.returns
unfolding longest
returns c =
    let core = c.read_list_over.ensures in
    let bytes = c.type_inv.album in record { answer = core.answer; writes = core.writes; demand1 = replies _ core.answer (and-slice _ core.writes no-slice); demand2 = read-so _ _ _ (λ k. omega (arith, bytes k)) core.answer core.writes }

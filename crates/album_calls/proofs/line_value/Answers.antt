-- `album_calls::line_value` meets its contract: what its core ensures at field 0, which implies the demands.
-- Assumes nothing.
use native.Mathlib.Omega.{arith}
use Rattle.field.specs.Fields.{longest}
use Rattle.statement.proofs.Demand1.{replies-after, no-slice, and-slice}
use Rattle.statement.proofs.Demand2Lines.{line-so}
use Rattle.album_calls.proofs.line_value.Goals as goal

pub returns : goal.returns
unfolding longest
returns c =
    let core = c.line_value_over.ensures in
    let bytes = c.type_inv.album in record { answer = core.answer; writes = core.writes; demand1 = replies-after _ _ core.answer (and-slice _ core.writes no-slice); demand2 = line-so _ _ _ (λ k. omega (arith, bytes k)) core.answer core.writes }

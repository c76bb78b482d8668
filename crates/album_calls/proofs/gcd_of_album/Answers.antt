-- `album_calls::gcd_of_album` meets its contract: what its core ensures at field 0, which implies the demands.
-- Assumes nothing.
use Rattle.field.specs.Fields.{longest}
use Rattle.statement.proofs.Demand1.{replies, no-slice, and-slice}
use Rattle.album_calls.proofs.gcd_of_album.Goals as goal

pub returns : goal.returns
unfolding longest
returns c = let core = c.album_gcd_over.ensures in record { answer = core.answer; writes = core.writes; demand1 = replies _ core.answer (and-slice _ core.writes no-slice); demand3 = core.greatest }

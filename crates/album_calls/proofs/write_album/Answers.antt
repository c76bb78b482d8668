-- `album_calls::write_album` meets its contract: what its core ensures at field 0, which implies the demands.
-- Assumes nothing.
use Rattle.statement.proofs.Demand1.{replies, no-slice, and-slice}
use Rattle.statement.proofs.Demand2Writer.{write-so}
use Rattle.album_calls.proofs.write_album.Goals as goal

pub returns : goal.returns
returns c = let core = c.write_album_over.ensures in record { answer = core.answer; writes = core.writes; demand1 = replies _ core.answer (and-slice _ core.writes no-slice); album = write-so _ _ _ core.answer core.writes }

-- `album_calls::body` meets its contract: what its core ensures at field 0, which implies the demands.
-- Assumes nothing.
use Rattle.album_layout.specs.Calls.{body_of}
use Rattle.statement.proofs.Demand1.{empty-refused}
use Rattle.statement.proofs.Demand2Albums.{body-so}
use Rattle.album_calls.proofs.body.Goals as goal

pub returns : goal.returns
unfolding body_of
returns c = let core = c.body_over.ensures in record { part = core.part; place = core.place; some = core.some; demand1 = empty-refused _ _ _ core.part; demand2 = body-so _ _ core.part }

-- `album_reader::read_at` meets its contract: the words of the body where the slice has room for them.
-- Assumes nothing.
use native.Mathlib.Omega.{arith}
use Rattle.album_reader.proofs.Reading.{at-short, at-fits}
use Rattle.refusal.proofs.Clauses.{answer_and_writes}
use Rattle.album_reader.proofs.read_at.Goals as goal

pub returns-then-out-n : goal.returns-then-out-n
returns-then-out-n c = answer_and_writes (at-short _ _ _ c.body_at-body.ensures.part (omega arith))

pub returns : goal.returns
returns c = answer_and_writes (at-fits _ _ _ c.body_at-body.ensures.part (omega arith) c.read_words.ensures)

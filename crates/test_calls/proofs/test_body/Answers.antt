-- `test_calls::test_body` meets its contract: the part is copied where it fits.
-- Assumes nothing.
use Rattle.album_layout.specs.Calls.{body_of}
use Rattle.test_calls.proofs.Answers.{copied, left_out}
use Rattle.refusal.proofs.Clauses.{answer_and_writes}
use Rattle.test_calls.proofs.test_body.Goals as goal

pub returns-then-out-part : goal.returns-then-out-part
returns-then-out-part c = answer_and_writes (copied (body_of 0 c.args.album.now c.args.i) c.args.out.now c.body-part.result.now c.body-part.ensures.part c.if-out-part.true c.copy.ensures)

pub returns-else-out-part : goal.returns-else-out-part
returns-else-out-part c = answer_and_writes (left_out (body_of 0 c.args.album.now c.args.i) c.args.out.now c.body-part.result.now c.body-part.ensures.part c.if-out-part.false)

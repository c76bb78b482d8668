-- `report_text::put` meets its contract.
-- Assumes nothing.
use Rattle.report_text.proofs.Puts.{put_byte}
use borrow.Author.Rules.{rules}
use Rattle.report_text.proofs.slice.put.Goals as goal

pub returns : goal.returns
returns c = put_byte _ _ _ (search rules)

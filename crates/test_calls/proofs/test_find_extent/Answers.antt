-- `test_calls::test_find_extent` meets its contract: what the call ensures, with the number in place of the answer.
-- Assumes nothing.
use mathlib.Core.Path.{◌∙◌}
use Rattle.test_calls.proofs.Answers.{told, told-extent}
use Rattle.refusal.proofs.Clauses.{number_and_values}
use Rattle.test_calls.proofs.test_find_extent.Goals as goal

pub returns : goal.returns
returns c = let note = c.note.ensures in number_and_values (told c.args.answer.now (told-extent c.find_extent.result ∙ c.find_extent.ensures.answer) note.number note.values)

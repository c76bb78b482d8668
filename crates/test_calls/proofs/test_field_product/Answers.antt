-- `test_calls::test_field_product` meets its contract: what the call ensures, with the number in place of the answer.
-- Assumes nothing.
use mathlib.Core.Path.{◌∙◌}
use Rattle.test_calls.proofs.Answers.{told, told-value}
use Rattle.refusal.proofs.Clauses.{number_and_values}
use Rattle.test_calls.proofs.test_field_product.Goals as goal

pub returns : goal.returns
returns c = let note = c.note.ensures in number_and_values (told c.args.answer.now (told-value (λ n. n) c.product.result ∙ c.product.ensures.answer) note.number note.values)

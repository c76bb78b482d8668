-- `test_calls::test_read_list` meets its contract: what the call ensures, with the number in place of the answer.
-- Assumes nothing.
use mathlib.Core.Path.{◌∙◌}
use Rattle.test_calls.proofs.Answers.{told, told-value}
use Rattle.test_calls.proofs.test_read_list.Goals as goal

pub returns : goal.returns
returns c =
    let call = c.read_list.ensures in
    let note = c.note.ensures in
    let all = told c.args.answer.now (told-value (λ degree. degree.0) c.read_list.result ∙ call.answer) note.number note.values in record { number = all.0; writes = call.writes; values = all.1 }

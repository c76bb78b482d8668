-- `test_calls::test_gcd` meets its contract: what the call ensures, with the number in place of the answer.
-- Assumes nothing.
use mathlib.Core.Path.{◌∙◌}
use Rattle.test_calls.proofs.Answers.{told, told-gcd}
use Rattle.test_calls.proofs.test_gcd.Goals as goal

pub returns : goal.returns
returns c =
    let call = c.gcd_of.ensures in
    let note = c.note.ensures in
    let all = told c.args.answer.now (told-gcd c.gcd_of.result ∙ call.answer) note.number note.values in record { number = all.0; writes = call.writes; values = all.1 }

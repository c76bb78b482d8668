-- `test_calls::test_cofactors` meets its contract: what the call ensures, with the number in place of the answer.
-- Assumes nothing.
use mathlib.Core.Path.{◌∙◌}
use Rattle.test_calls.proofs.Answers.{told, told-gcd}
use Rattle.test_calls.proofs.test_cofactors.Goals as goal

pub returns : goal.returns
returns c =
    let call = c.find_cofactors.ensures in
    let note = c.note.ensures in
    let all = told c.args.answer.now (told-gcd c.find_cofactors.result ∙ call.answer) note.number note.values in record { number = all.0; gcd = call.gcd; cofactor_a = call.cofactor_a; cofactor_b = call.cofactor_b; values = all.1 }

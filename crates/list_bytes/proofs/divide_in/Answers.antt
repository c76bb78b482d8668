-- `list_bytes::divide_in` meets its contract: the answer of the engine's function on the words is that of the call on the bytes.
-- Assumes nothing.
use mathlib.Core.Path.{refl, ◌∙◌}
use native.Mathlib.Omega.{arith}
use Rattle.std.proofs.lemmas.Result.{err_from_is_err_and}
use Rattle.field.specs.Fields.{field_at}
use Rattle.words.proofs.Transfer.{bytes_fit}
use Rattle.list_bytes.proofs.Calls.{division-called, division-fits, division-done, division-refused}
use Rattle.refusal.proofs.Clauses.{value_and_q_after_and_r_after}
use Rattle.list_bytes.proofs.divide_in.Goals as goal

pub returns-in_err-divide_over : goal.returns-in_err-divide_over
returns-in_err-divide_over c =
    let p = err_from_is_err_and c.from_residual.result c.from_residual.ensures.1 in
    let called = division-called c.requires.g_value c.requires.a_len c.read_words.ensures c.read_words-2.ensures c.divide_over.ensures.answer in
    rw (p.1, p.2) (value_and_q_after_and_r_after (division-refused called c.in_err-divide_over.was refl _ _))

pub returns : goal.returns
returns c =
    let called = division-called c.requires.g_value c.requires.a_len c.read_words.ensures c.read_words-2.ensures c.divide_over.ensures.answer in
    let done = c.in_ok-divide_over.was in
    let fits = division-fits called done in
    value_and_q_after_and_r_after (
    division-done called done (field_at _) c.divide_over.ensures.quotient c.divide_over.ensures.remainder
    (c.write_words.ensures ∙ bytes_fit _ _ (omega (arith, fits.0))) (c.write_words-2.ensures ∙ bytes_fit _ _ (omega (arith, fits.1)))
    )

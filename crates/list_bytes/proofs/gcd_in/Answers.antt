-- `list_bytes::gcd_in` meets its contract: the answer of the engine's function on the words is that of the call on the bytes.
-- Assumes nothing.
use mathlib.Core.Path.{refl, ◌∙◌}
use native.Mathlib.Omega.{arith}
use Rattle.std.proofs.lemmas.Result.{err_from_is_err_and}
use Rattle.field.proofs.Fields.{longest-some, longest-room}
use Rattle.words.proofs.Transfer.{bytes_fit}
use Rattle.list_bytes.proofs.Calls.{gcd-called, gcd-fits, gcd-small, gcd-done, gcd-refused}
use Rattle.refusal.proofs.Clauses.{value_and_h_after_and_answer_after}
use Rattle.list_bytes.proofs.gcd_in.Goals as goal

pub returns-in_err-gcd : goal.returns-in_err-gcd
returns-in_err-gcd c =
    let p = err_from_is_err_and c.from_residual.result c.from_residual.ensures.1 in
    let called = gcd-called c.requires.f_value c.requires.a_len c.read_words.ensures c.read_words-2.ensures c.gcd_over.ensures.answer in
    rw (p.1, p.2) (value_and_h_after_and_answer_after (gcd-refused (longest-some _) (longest-room _) called c.in_err-gcd.was refl _ _))

pub write_values-requires : goal.write_values-requires
write_values-requires c =
    let called = gcd-called c.requires.f_value c.requires.a_len c.read_words.ensures c.read_words-2.ensures c.gcd_over.ensures.answer in
    let done = c.in_ok-gcd.was in
    let ensures = c.gcd_over.ensures in
    let small = gcd-small (longest-some _) (longest-room _) called done ensures.writes (omega arith) ensures.greatest in
    (small.degree, small.power, small.count, (gcd-fits (longest-some _) (longest-room _) called done).2)

pub returns : goal.returns
returns c =
    let called = gcd-called c.requires.f_value c.requires.a_len c.read_words.ensures c.read_words-2.ensures c.gcd_over.ensures.answer in
    let done = c.in_ok-gcd.was in
    let fits = gcd-fits (longest-some _) (longest-room _) called done in
    value_and_h_after_and_answer_after (
    gcd-done (longest-some _) (longest-room _) called done c.gcd_over.ensures.writes
    (c.write_words.ensures ∙ bytes_fit _ _ (omega (arith, fits.0))) c.write_values.ensures
    )

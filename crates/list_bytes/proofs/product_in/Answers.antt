-- `list_bytes::product_in` meets its contract: the answer of the engine's function on the words is that of the call on the bytes.
-- Assumes nothing.
use mathlib.Core.Path.{refl, ◌∙◌}
use native.Mathlib.Omega.{arith}
use Rattle.std.proofs.lemmas.Result.{err_from_is_err_and}
use Rattle.field.specs.Fields.{field_at}
use Rattle.words.proofs.Transfer.{bytes_fit}
use Rattle.list_bytes.proofs.Calls.{product-called, product-fits, product-done, product-refused}
use Rattle.refusal.proofs.Clauses.{value_and_out_after}
use Rattle.list_bytes.proofs.product_in.Goals as goal

pub returns-in_err-product_over : goal.returns-in_err-product_over
returns-in_err-product_over c =
    let p = err_from_is_err_and c.from_residual.result c.from_residual.ensures.1 in
    let called = product-called c.requires.f_value c.requires.a_len c.read_words.ensures c.read_words-2.ensures c.product_over.ensures.answer in
    rw (p.1, p.2) (value_and_out_after (product-refused called c.in_err-product_over.was refl _))

pub returns : goal.returns
returns c =
    let called = product-called c.requires.f_value c.requires.a_len c.read_words.ensures c.read_words-2.ensures c.product_over.ensures.answer in
    let done = c.in_ok-product_over.was in
    value_and_out_after (product-done called done (field_at _) c.product_over.ensures.writes (c.write_words.ensures ∙ bytes_fit _ _ (omega (arith, product-fits called done))))

-- `album_reader::read_list_over` meets its contract: the tests stand in the order of the numbers.
-- Assumes nothing.
use mathlib.Core.Path.{sym, ◌∙◌}
use native.Mathlib.Omega.{arith}
use Rattle.std.proofs.lemmas.Result.{err_from_is_err_and}
use Rattle.refusal.proofs.Clauses.{answer_and_writes}
use Rattle.album_reader.proofs.Reading.{said-refused, said-misfit, said-words, said-done}
use Rattle.album_reader.proofs.read_list_over.Goals as goal

pub returns-in_err-judge_call : goal.returns-in_err-judge_call
returns-in_err-judge_call c =
    let p = err_from_is_err_and c.from_residual.result c.from_residual.ensures.1 in
    rw (p.1, p.2) (answer_and_writes (said-refused _ _ _ _ (sym c.judge_call.ensures ∙ c.in_err-judge_call.was)))

pub returns-then-out-longest_of : goal.returns-then-out-longest_of
returns-then-out-longest_of c = answer_and_writes (said-misfit _ _ _ _ (sym c.judge_call.ensures ∙ c.in_ok-judge_call.was) (λ e. omega arith))

pub overflow_sub-result : goal.overflow_sub-result
overflow_sub-result c =
    let bytes = c.type_inv.album in
    let words = said-words c.args.field _ _ c.args.out.now (sym c.judge_call.ensures ∙ c.in_ok-judge_call.was) (omega arith) (λ k. omega (arith, bytes k)) in
    omega (arith, c.read_at.ensures.answer, words)

pub returns : goal.returns
returns c =
    let bytes = c.type_inv.album in
    answer_and_writes (said-done _ _ _ _ (sym c.judge_call.ensures ∙ c.in_ok-judge_call.was) (omega arith) (λ k. omega (arith, bytes k)) c.read_at.ensures.answer c.read_at.ensures.writes)

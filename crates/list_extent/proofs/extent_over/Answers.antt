-- `list_extent::extent_over` meets its contract: a refused list, and one that is searched.
-- Assumes nothing.
use mathlib.Core.Path.{sym, ◌∙◌}
use native.Mathlib.Omega.{arith}
use Rattle.std.proofs.lemmas.Result.{err_from_is_err_and}
use Rattle.refusal.proofs.Clauses.{answer_and_read}
use Rattle.list_extent.proofs.Judged.{extent-refused, extent-zero, extent-found}
use Rattle.list_extent.proofs.extent_over.Goals as goal

pub returns-in_err-judge_list : goal.returns-in_err-judge_list
returns-in_err-judge_list c =
    let p = err_from_is_err_and c.from_residual.result c.from_residual.ensures.1 in
    rw (p.1, p.2) (answer_and_read (extent-refused _ _ _ (sym c.judge_list.ensures ∙ c.in_err-judge_list.was)))

pub returns-in-Some : goal.returns-in-Some
returns-in-Some c =
    let top = c.search_from_top-search.ensures in
    let t = rw c.in-Some.is at c.checked_sub.ensures in
    rw t.1 (answer_and_read (extent-found _ _ _ (sym c.judge_list.ensures ∙ c.in_ok-judge_list.was) top.words top.read (λ z. absurd (omega arith))))

pub returns-in-None : goal.returns-in-None
returns-in-None c =
    let top = c.search_from_top-search.ensures in
    let t = rw c.in-None.is at c.checked_sub.ensures in
    answer_and_read (extent-zero _ _ _ (sym c.judge_list.ensures ∙ c.in_ok-judge_list.was) top.words top.read (omega arith))

-- `album_contents::judge_contents` meets its contract: the tests stand in the order of the numbers.
-- Assumes nothing.
use mathlib.Core.Path.{sym, ◌∙◌}
use Rattle.std.proofs.lemmas.Result.{err_from_is_err_and}
use Rattle.album_contents.proofs.Judged.{fit_refused, fit-misfit, fit-done}
use Rattle.album_contents.proofs.judge_contents.Goals as goal

pub returns-in_err-judge_album : goal.returns-in_err-judge_album
returns-in_err-judge_album c =
    let p = err_from_is_err_and c.from_residual.result c.from_residual.ensures.1 in
    rw (p.1, p.2) (fit_refused _ _ _ (sym c.judge_album.ensures ∙ c.in_err-judge_album.was))

pub returns-then-n-ne-MAX_LISTS : goal.returns-then-n-ne-MAX_LISTS
returns-then-n-ne-MAX_LISTS c = fit-misfit _ _ _ (sym c.judge_album.ensures ∙ c.in_ok-judge_album.was) c.if-n-ne-MAX_LISTS.true

pub returns : goal.returns
returns c = fit-done _ _ _ (sym c.judge_album.ensures ∙ c.in_ok-judge_album.was) c.if-n-ne-MAX_LISTS.false

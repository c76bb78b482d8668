-- `album_layout::judge_album` meets its contract: the tests stand in the order of the numbers.
-- Assumes nothing.
use mathlib.Core.Path.{sym, ◌∙◌}
use Rattle.std.proofs.lemmas.Result.{err_from_is_err_and}
use Rattle.album_layout.proofs.Judged.{layout-obeys, album-refused, album-loose, album-done}
use Rattle.album_layout.proofs.judge_album.Goals as goal

pub returns-in_err-judge_layout : goal.returns-in_err-judge_layout
returns-in_err-judge_layout c =
    let p = err_from_is_err_and c.from_residual.result c.from_residual.ensures.1 in
    rw (p.1, p.2) (album-refused _ _ (sym c.judge_layout.ensures ∙ c.in_err-judge_layout.was))

pub has_loose_word-requires : goal.has_loose_word-requires
has_loose_word-requires c = layout-obeys _ (sym c.judge_layout.ensures ∙ c.in_ok-judge_layout.was)

pub returns-then-has_loose_word : goal.returns-then-has_loose_word
returns-then-has_loose_word c = album-loose _ _ (sym c.judge_layout.ensures ∙ c.in_ok-judge_layout.was) (sym c.has_loose_word.ensures ∙ c.if-has_loose_word.true)

pub returns : goal.returns
returns c = album-done _ _ (sym c.judge_layout.ensures ∙ c.in_ok-judge_layout.was) (sym c.has_loose_word.ensures ∙ c.if-has_loose_word.false)

-- `album_gcd::album_gcd_over` meets its contract: what the judge of the album refuses is refused.
-- Assumes nothing.
use mathlib.Core.Path.{sym, ◌∙◌}
use Rattle.field.specs.Fields.{field_at}
use Rattle.std.proofs.lemmas.Result.{err_from_is_err_and}
use Rattle.album_gcd.proofs.Judging.{judged-album}
use Rattle.album_gcd.proofs.Finish.{refused}
use Rattle.album_gcd.proofs.album_gcd_over.Goals as goal

pub returns-in_err-judge_album : goal.returns-in_err-judge_album
unfolding field_at
returns-in_err-judge_album c =
    let p = err_from_is_err_and c.from_residual.result c.from_residual.ensures.1 in
    let said = refused (field_at _) _ _ _ (sym (judged-album _ _ _ _ (sym c.judge_album.ensures ∙ c.in_err-judge_album.was))) in
    rw (p.1, p.2) (record { answer = said.answer; writes = said.writes; greatest = said.greatest })

pub returns : goal.returns
unfolding field_at
returns c = let said = c.gcd_into.ensures in record { answer = said.answer; writes = said.writes; greatest = said.greatest }

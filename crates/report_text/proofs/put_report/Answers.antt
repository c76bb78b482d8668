-- `report_text::put_report` meets its contract: what the judge finds decides.
-- Assumes nothing.
use mathlib.Core.Path.{refl, sym, ◌∙◌}
use native.Mathlib.Omega.{arith}
use Rattle.field.specs.Fields.{field_at}
use Rattle.report_text.proofs.Puts.{put_is}
use Rattle.report_text.proofs.Fits.{refused-fits}
use Rattle.report_text.proofs.Whole.{report-refused, report-sound}
use Rattle.report_text.proofs.put_report.Goals as goal

pub put_refused-requires : goal.put_refused-requires
put_refused-requires c = record { fits = omega (arith, refused-fits c.in-Err.why, c.requires, c.args.page.now.whole) }

pub put_sound-requires : goal.put_sound-requires
put_sound-requires c = (sym c.judge_album.ensures ∙ c.in-Ok.is, c.requires)

pub returns-in-Err : goal.returns-in-Err
returns-in-Err c = put_is (report-refused _ (field_at _) _ (sym c.judge_album.ensures ∙ c.in-Err.is)) refl c.put_refused.ensures

pub returns-in-Ok : goal.returns-in-Ok
returns-in-Ok c = put_is (report-sound _ (field_at _) _ (sym c.judge_album.ensures ∙ c.in-Ok.is)) refl c.put_sound.ensures

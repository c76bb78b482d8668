-- `line_text::put_value` meets its contract: the call on the line leaves the value's words, or refuses.
-- Assumes nothing.
use mathlib.Core.Path.{refl, sym, ◌∙◌, ap}
use native.Mathlib.Omega.{arith}
use lib.ListN.{length, replicate}
use Rattle.field.specs.Fields.{longest}
use Rattle.report_text.proofs.Puts.{put_is}
use Rattle.report_text.proofs.Fits.{refused-fits}
use Rattle.refusal.specs.Limits.{max_words}
use Rattle.line_text.proofs.Texts.{value-held, text-refused}
use Rattle.line_text.proofs.put_value.Goals as goal

pub overflow_add-list : goal.overflow_add-list
unfolding longest
overflow_add-list c =
    let h = value-held c.args.field c.args.album.now c.args.line.now (replicate max_words 0) refl c.in-Ok.is c.line_value_over.ensures.answer c.line_value_over.ensures.writes in
    omega (arith, h.size, h.short)

pub slice_bounds-list-end : goal.slice_bounds-list-end
unfolding longest
slice_bounds-list-end c =
    let h = value-held c.args.field c.args.album.now c.args.line.now (replicate max_words 0) refl c.in-Ok.is c.line_value_over.ensures.answer c.line_value_over.ensures.writes in
    omega (arith, h.inside)

pub slice_bounds-put_words-end : goal.slice_bounds-put_words-end
unfolding longest
slice_bounds-put_words-end c =
    let h = value-held c.args.field c.args.album.now c.args.line.now (replicate max_words 0) refl c.in-Ok.is c.line_value_over.ensures.answer c.line_value_over.ensures.writes in
    sym (ap length h.list ∙ h.size)

pub put_words-requires : goal.put_words-requires
unfolding longest
put_words-requires c =
    let h = value-held c.args.field c.args.album.now c.args.line.now (replicate max_words 0) refl c.in-Ok.is c.line_value_over.ensures.answer c.line_value_over.ensures.writes in
    (omega (arith, h.size, ap length h.list), record { fits = omega (arith, h.fits, c.requires, c.args.page.now.whole) })

pub put_refused-requires : goal.put_refused-requires
put_refused-requires c = record { fits = omega (arith, refused-fits c.in-Err.why, c.requires, c.args.page.now.whole) }

pub returns-in-Ok : goal.returns-in-Ok
unfolding longest
returns-in-Ok c =
    let h = value-held c.args.field c.args.album.now c.args.line.now (replicate max_words 0) refl c.in-Ok.is c.line_value_over.ensures.answer c.line_value_over.ensures.writes in
    put_is (sym h.text) refl c.put_words.ensures

pub returns-in-Err : goal.returns-in-Err
unfolding longest
returns-in-Err c = put_is (text-refused c.args.field c.args.album.now c.args.line.now (replicate max_words 0) refl c.in-Err.is c.line_value_over.ensures.answer) refl c.put_refused.ensures

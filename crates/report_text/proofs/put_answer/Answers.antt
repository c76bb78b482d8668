-- `report_text::put_answer` meets its contract: the GCD answers or says that all lists are zero.
-- Assumes nothing.
use mathlib.Core.Path.{◌≡◌, refl, ◌∙◌, ap}
use Prim.Native.Nat.{◌≤◌, ◌<◌}
use native.Mathlib.Omega.{arith}
use lib.ListN.{length}
use Rattle.field.specs.Fields.{field_at, longest}
use Rattle.field.proofs.Fields.{longest-room}
use Rattle.refusal.specs.Limits.{max_words}
use Rattle.album_theory.specs.Albums.{album_gcd}
use Rattle.album_layout.specs.Layout.{lists_of}
use Rattle.album_layout.proofs.Passed.{passed-each}
use Rattle.report_text.specs.Report.{gcd_lines}
use Rattle.report_text.proofs.Puts.{put_is}
use Rattle.report_text.proofs.Fits.{refused-fits}
use Rattle.report_text.proofs.Sound.{Answer, common-power-short, answered, answer-gcd, refused-answer, answer-fits}
use Rattle.report_text.proofs.put_answer.Goals as goal

pub put_gcd-requires : goal.put_gcd-requires
unfolding field_at
put_gcd-requires c =
    let size : length c.album_gcd_over.new.h ≡ longest c.args.field = c.album_gcd_over.auto.h ∙ c.requires.passed.1 in
    let answer : Answer (lists_of c.args.album.now) (album_gcd (field_at c.args.field) (lists_of c.args.album.now)).list c.album_gcd_over.new.h c.in-Ok.gcd.degree.0 c.in-Ok.gcd.power.0 =
    answered (field_at _) _ _ _ c.requires.passed.0 c.requires.passed.1 c.in-Ok.is c.album_gcd_over.ensures.answer c.album_gcd_over.ensures.writes c.album_gcd_over.ensures.greatest in
    let whole : length c.album_gcd_over.new.h ≤ max_words = omega (arith, size, longest-room c.args.field) in
    let s = c.args.album.now in
    let short =
    common-power-short (lists_of s) max_words (omega arith) answer.some
    (λ j k. (passed-each _ s c.requires.passed.0 max_words (omega arith) j k).short) in
    let small : c.in-Ok.gcd.power.0 < max_words = omega (arith, short, answer.power) in
    let words = ap length answer.list in
    let text = ap (λ h. length (gcd_lines (field_at c.args.field) h c.in-Ok.gcd.power.0)) answer.list in
    let fits = answer-fits (field_at c.args.field) answer whole small (λ k. omega (arith, c.slice_known-2-1.given k)) in
    record {
      h_nonzero = (omega (arith, words, answer.words), omega (arith, words, answer.words, answer.short, size), small);
      room = record { fits = omega (arith, c.requires.max_answer_in_bounds, c.args.page.now.whole, text, fits) };
    }

pub put_refused-requires : goal.put_refused-requires
put_refused-requires c = record { fits = omega (arith, refused-fits c.in-Err.why, c.requires.max_answer_in_bounds, c.args.page.now.whole) }

pub returns-in-Ok : goal.returns-in-Ok
unfolding field_at
returns-in-Ok c =
    let size : length c.album_gcd_over.new.h ≡ longest c.args.field = c.album_gcd_over.auto.h ∙ c.requires.passed.1 in
    let answer : Answer (lists_of c.args.album.now) (album_gcd (field_at c.args.field) (lists_of c.args.album.now)).list c.album_gcd_over.new.h c.in-Ok.gcd.degree.0 c.in-Ok.gcd.power.0 =
    answered (field_at _) _ _ _ c.requires.passed.0 c.requires.passed.1 c.in-Ok.is c.album_gcd_over.ensures.answer c.album_gcd_over.ensures.writes c.album_gcd_over.ensures.greatest in
    put_is (answer-gcd (field_at _) _ answer) refl c.put_gcd.ensures

pub returns-in-Err : goal.returns-in-Err
unfolding field_at
returns-in-Err c =
    put_is (refused-answer (field_at _) _ _ _ c.requires.passed.0 c.requires.passed.1 c.in-Err.is c.album_gcd_over.ensures.answer) refl c.put_refused.ensures

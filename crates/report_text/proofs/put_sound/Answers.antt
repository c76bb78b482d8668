-- `report_text::put_sound` meets its contract: the three parts of the report, one after the other.
-- Assumes nothing.
use mathlib.Core.Path.{refl, sym, ap}
use mathlib.Core.List.{[], ◌∷◌}
use native.Mathlib.Omega.{arith}
use Rattle.field.specs.Fields.{field_at, longest}
use Rattle.album_layout.specs.Layout.{count}
use Rattle.report_text.specs.Text.{decimal, line}
use Rattle.report_text.specs.Report.{⟨lists⟩}
use Rattle.report_text.specs.Internal.{Put}
use Rattle.report_text.proofs.Puts.{put_is, room-is}
use Rattle.report_text.proofs.Whole.{first-room, lists-room, answer-room, put-whole-report}
use Rattle.report_text.proofs.put_sound.Goals as goal

pub put_named-requires : goal.put_named-requires
put_named-requires c =
    room-is (ap (λ n. line (⟨lists⟩ ∷ decimal n ∷ [])) (sym c.byte_at.ensures.0)) (first-room _ c.args.album.now c.requires.0 c.requires.1 c.args.page.now.whole)

pub put_lists-requires : goal.put_lists-requires
put_lists-requires c =
    let first : Put (line (⟨lists⟩ ∷ decimal (count c.args.album.now) ∷ [])) c.args.page.now.used c.args.page.now.bytes c.put_named.new.self.bytes c.put_named.new.self.used =
    put_is (ap (λ n. line (⟨lists⟩ ∷ decimal n ∷ [])) c.byte_at.ensures.0) refl c.put_named.ensures in
    record { passed = c.requires.0; room = lists-room _ c.args.album.now c.requires.0 c.requires.1 c.args.page.now.whole first }

pub put_answer-requires : goal.put_answer-requires
unfolding longest
put_answer-requires c =
    let first : Put (line (⟨lists⟩ ∷ decimal (count c.args.album.now) ∷ [])) c.args.page.now.used c.args.page.now.bytes c.put_named.new.self.bytes c.put_named.new.self.used =
    put_is (ap (λ n. line (⟨lists⟩ ∷ decimal n ∷ [])) c.byte_at.ensures.0) refl c.put_named.ensures in
    record { passed = (c.requires.0, refl); max_answer_in_bounds = omega (arith, answer-room _ c.args.album.now c.requires.0 c.requires.1 c.args.page.now.whole first c.put_lists.ensures, c.put_lists.new.page.whole) }

pub returns : goal.returns
returns c =
    let first : Put (line (⟨lists⟩ ∷ decimal (count c.args.album.now) ∷ [])) c.args.page.now.used c.args.page.now.bytes c.put_named.new.self.bytes c.put_named.new.self.used =
    put_is (ap (λ n. line (⟨lists⟩ ∷ decimal n ∷ [])) c.byte_at.ensures.0) refl c.put_named.ensures in
    put-whole-report (field_at _) c.args.album.now first c.put_lists.ensures c.put_answer.ensures

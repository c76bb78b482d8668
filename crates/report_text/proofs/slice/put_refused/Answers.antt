-- `report_text::put_refused` meets its contract.
-- Assumes nothing.
use mathlib.Core.Path.{◌≡◌, refl, sym, ap}
use mathlib.Core.List.{[], ◌∷◌}
use Rattle.report_text.specs.Text.{decimal, line}
use Rattle.report_text.specs.Report.{⟨refused⟩, refused_line}
use Rattle.report_text.proofs.Puts.{put_is, room-is}
use Rattle.report_text.proofs.slice.put_refused.Goals as goal

pub put_named-requires : goal.put_named-requires
unfolding refused_line
put_named-requires c =
    let numbered : line (⟨refused⟩ ∷ decimal c.from.result ∷ []) ≡ refused_line c.args.why = ap (λ n. line (⟨refused⟩ ∷ decimal n ∷ [])) c.from.ensures in
    room-is (sym numbered) c.requires

pub returns : goal.returns
unfolding refused_line
returns c =
    let numbered : line (⟨refused⟩ ∷ decimal c.from.result ∷ []) ≡ refused_line c.args.why = ap (λ n. line (⟨refused⟩ ∷ decimal n ∷ [])) c.from.ensures in
    put_is numbered refl c.put_named.ensures

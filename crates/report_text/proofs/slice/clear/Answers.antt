-- `report_text::clear` meets its contract.
-- Assumes nothing.
use mathlib.Core.Path.{◌≡◌, ap, ◌∙◌}
use mathlib.Core.List.{◌++◌}
use Prim.Native.Nat.{ℕ, ◌-◌}
use native.Mathlib.Omega.{arith}
use lib.ListN.{length, take, replicate, length-take}
use Rattle.words.proofs.Transfer.{cleared}
use Rattle.lists.specs.Padded.{padded}
use Rattle.report_text.proofs.slice.clear.Goals as goal

pub returns : goal.returns
unfolding padded
returns c =
    let out = c.args.out.now in
    let from = c.args.from in
    let left : length out - from ≡ length out - length (take from out) = simp length-take (omega (arith, c.requires)) in
    cleared out _ from (c.fill.ensures.after (λ y h. h)) ∙ ap (λ n. take from out ++ replicate {A = ℕ} n 0) left

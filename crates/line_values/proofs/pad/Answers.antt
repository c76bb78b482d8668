-- `line_values::pad` meets its contract.
-- Assumes nothing.
use mathlib.Core.Path.{◌≡◌, ap, ap₂, ◌∙◌}
use mathlib.Core.List.{◌++◌}
use native.Mathlib.Omega.{arith}
use Prim.Native.Nat.{ℕ, ◌-◌}
use lib.ListN.{length, replicate}
use Rattle.lists.specs.Padded.{padded}
use Rattle.line_values.proofs.pad.Goals as goal

pub returns : goal.returns
unfolding padded
returns c =
    let zeros : length c.split_at_mut-words.result.1.now ≡ length c.args.out.now - length c.args.list.now = omega arith in
    ap₂ ◌++◌ c.copy_from_slice.ensures.after (c.fill.ensures.after (λ y e. e) ∙ ap (λ n. replicate {A = ℕ} n 0) zeros)

-- `album_gcd::gcd_into` meets its contract: parts of zeros are zeros.
-- Assumes nothing.
use mathlib.Core.Path.{refl, ◌∙◌}
use Prim.Native.Nat.{◌≤◌}
use native.Mathlib.Omega.{arith}
use lib.ListN.{length-take}
use Rattle.field.proofs.Fields.{longest-room}
use Rattle.refusal.specs.Limits.{max_words}
use Rattle.lists.proofs.Parts.{prefix-length, get_or-part, get_or-zeros}
use Rattle.album_gcd.proofs.gcd_into.Goals as goal

pub slice_bounds-list-end : goal.slice_bounds-list-end
slice_bounds-list-end c = omega (arith, longest-room c.args.field)

pub slice_bounds-gcd_in-end : goal.slice_bounds-gcd_in-end
slice_bounds-gcd_in-end c = simp length-take (omega (arith, longest-room c.args.field))

pub slice_bounds-last-end : goal.slice_bounds-last-end
slice_bounds-last-end c = omega (arith, longest-room c.args.field)

pub slice_bounds-gcd_in-end-2 : goal.slice_bounds-gcd_in-end-2
slice_bounds-gcd_in-end-2 c = simp length-take (omega (arith, longest-room c.args.field))

pub slice_bounds-res-end : goal.slice_bounds-res-end
slice_bounds-res-end c = omega (arith, longest-room c.args.field)

pub slice_bounds-gcd_in-end-3 : goal.slice_bounds-gcd_in-end-3
slice_bounds-gcd_in-end-3 c = simp length-take (omega (arith, longest-room c.args.field))

pub gcd_in-requires : goal.gcd_in-requires
gcd_in-requires c =
    let n = c.longest_of-n.result in
    let e = c.longest_of-n.ensures in
    let l : n ≤ max_words = omega (arith, longest-room c.args.field) in
    record {
      passed = c.requires;
      list_len = (prefix-length n max_words _ refl l ∙ e, prefix-length n max_words _ refl l ∙ e, prefix-length n max_words _ refl l ∙ e);
      by_index = get_or-part _ n (get_or-zeros max_words);
    }

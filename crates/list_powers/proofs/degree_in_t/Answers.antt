-- `list_powers::degree_in_t` meets its contract: the extent of the coefficients of 1, t, t², …, in a buffer as long as the list.
-- Assumes nothing.
use mathlib.Core.Path.{refl, sym, ◌∙◌, ap}
use native.Mathlib.Omega.{arith}
use lib.ListN.{length}
use Rattle.refusal.specs.Limits.{max_words}
use Rattle.field.specs.Fields.{field_at, longest}
use Rattle.field.proofs.Fields.{longest-room}
use Rattle.lists.proofs.Parts.{prefix-length}
use Rattle.lists.specs.Degrees.{extent}
use Rattle.list_powers.proofs.Powers.{powers-found, degree-found, not-long}
use Rattle.list_powers.proofs.degree_in_t.Goals as goal

pub slice_bounds-buffer-end : goal.slice_bounds-buffer-end
slice_bounds-buffer-end c = omega (arith, longest-room c.args.field)

pub slice_bounds-x-end : goal.slice_bounds-x-end
slice_bounds-x-end c = sym (prefix-length _ max_words _ refl (omega (arith, longest-room c.args.field)))

pub returns : goal.returns
returns c =
    let a = c.args in
    let n = prefix-length (length a.list.now) max_words _ refl (omega (arith, longest-room a.field)) in
    not-long (longest a.field) (length a.list.now) (omega arith)
    (c.extent_of.ensures
    ∙ ap extent (powers-found a.field a.list.now _ n c.powers_of_t.ensures)
    ∙ degree-found (field_at a.field) a.list.now)

-- `list_division::divide_in` meets its contract: the quotient and the remainder of the scaled forms, unscaled again.
-- Assumes nothing.
use mathlib.Core.Path.{◌∙◌}
use Rattle.field.specs.Fields.{field_at, longest}
use Rattle.field.proofs.Fields.{p-at, longest-in}
use Rattle.field_tables.specs.Factorials.{Tables}
use Rattle.list_division.proofs.Forms.{last-inverse, quotient_is, remainder_is}
use Rattle.list_division.proofs.divide_in.Goals as goal

pub returns : goal.returns
returns c =
    let tables : Tables (field_at c.args.field) (longest c.args.field) c.factorials-whole.result.now c.inverse_factorials-part.result.now =
    record { factorials = c.factorials-whole.ensures; inverses = c.inverse_factorials-part.ensures } in
    let wide = longest-in c.args.field in
    let fits = c.requires.divide_fits in
    let lx = c.requires.x_len.0 in
    let ly = c.requires.x_len.1 in
    let lk = c.requires.x_len.2 in
    let top = c.inverse_or_zero-inv.ensures ∙ last-inverse (field_at _) fits in
    let x = c.weigh.ensures in
    let y = c.weigh-2.ensures in
    let parts = c.reduce.ensures in record { quotient = quotient_is (field_at _) (p-at _) _ wide _ _ tables _ _ _ _ _ _ _ fits lx ly lk top x y parts.quotient c.weigh-3.ensures; remainder = remainder_is (field_at _) (p-at _) _ wide _ _ tables _ _ _ _ _ _ _ fits lx ly lk top x y parts.left c.weigh-4.ensures }

-- `list_value::value_in` meets its contract: the value at x and 1 - x of the words that times c are the scaled form.
-- Assumes nothing.
use mathlib.Core.Path.{◌∙◌}
use Rattle.field.specs.Fields.{field_at, longest}
use Rattle.field_tables.specs.Factorials.{Tables}
use Rattle.list_value.proofs.Values.{partly-evaluated}
use Rattle.list_value.proofs.value_in.Goals as goal

pub returns : goal.returns
returns c =
    let start = c.args in
    let pre = c.requires in
    let tables : Tables (field_at start.field) (longest start.field) c.factorials-whole.result.now c.inverse_factorials-part.result.now =
    record { factorials = c.factorials-whole.ensures; inverses = c.inverse_factorials-part.ensures } in
    c.homogeneous.ensures
    ∙ partly-evaluated start.field tables start.f.now pre.list _ start.x _ _ _ pre.s_len c.weigh_partly.ensures c.square_of.ensures c.mul-c.ensures c.sub-y.ensures

-- `list_value::begin_in` meets its contract: the sums of the groups, at x^8 and y^8, are the sum over their words.
-- Assumes nothing.
use mathlib.Core.Path.{◌∙◌, ap}
use Rattle.field.specs.Fields.{field_at}
use Rattle.field.proofs.Fields.{p-at}
use Rattle.list_value.specs.Internal.{power_of}
use Rattle.list_value.proofs.Weights.{weights-are}
use Rattle.list_value.proofs.Groups.{ungrouped}
use Rattle.list_value.proofs.begin_in.Goals as goal

pub returns : goal.returns
returns c =
    let args = c.args in
    let by-x = c.fill_powers-x8.ensures in
    let by-y = c.fill_powers-y8.ensures in
    let weights =
    weights-are (field_at _) (p-at _) args.x args.y 8 c.requires.0 c.requires.1 c.requires.2 by-x.words by-y.words c.fill_weights.ensures in
    ungrouped (field_at _) (p-at _) args.x args.y 8 weights args.s.now args.c _ (by-x.next ∙ ap (power_of (field_at _) args.x) c.requires.0) (by-y.next ∙ ap (power_of (field_at _) args.y) c.requires.1) c.sum_groups.ensures

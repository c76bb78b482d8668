-- `list_gcd::gcd_in` meets its contract: the list and the numbers are those of the definition.
-- Assumes nothing.
use mathlib.Core.Path.{◌∙◌}
use native.Mathlib.Omega.{arith}
use Rattle.field.specs.Fields.{field_at}
use Rattle.list_gcd.proofs.Finish.{last-words}
use Rattle.list_gcd.proofs.gcd_in.Goals as goal

pub returns : goal.returns
returns c =
    let found = c.find_last-ended.ensures in
    let last = found.last_of in
    let made = c.write_gcd-made.ensures in
    let size = last.size in record {
      numbers = record { degree-is = omega arith; power-is = omega arith; rounds_are = found.rounds_value; inverse-is = made.inverse_value ∙ last.inverse };
      h_after = made.h_after ∙ last-words (field_at _) _ last;
      trail_of = found.trail_of;
    }

-- `list_value::evaluate_over` meets its contract: it answers what its judge found, and the value where nothing is refused.
-- Assumes nothing.
use mathlib.Core.Path.{sym, ◌∙◌}
use Rattle.field.proofs.Fields.{modulus-some}
use Rattle.list_value.proofs.Judged.{evaluate-listed}
use Rattle.list_value.proofs.evaluate_over.Goals as goal

pub value_at-requires : goal.value_at-requires
value_at-requires c = evaluate-listed _ _ _ _ (modulus-some _) (sym c.in_ok-judge_evaluate.was ∙ c.judge_evaluate.ensures)

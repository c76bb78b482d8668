-- `list_derivative::derivative_over` meets its contract: the slice is written where nothing is refused.
-- Assumes nothing.
use mathlib.Core.Path.{sym, ◌∙◌}
use Rattle.field.proofs.Fields.{modulus-some}
use Rattle.list_derivative.proofs.Judged.{derivative-fits}
use Rattle.list_derivative.proofs.derivative_over.Goals as goal

pub derivative_into-requires : goal.derivative_into-requires
derivative_into-requires c = derivative-fits _ _ _ _ (modulus-some _) (sym c.in_ok-judge_derivative.was ∙ c.judge_derivative.ensures)

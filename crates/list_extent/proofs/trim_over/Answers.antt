-- `list_extent::trim_over` meets its contract: the slice is written where nothing is refused.
-- Assumes nothing.
use mathlib.Core.Path.{sym, ◌∙◌}
use Rattle.field.proofs.Fields.{modulus-some}
use Rattle.list_extent.proofs.Judged.{trim-fits}
use Rattle.list_extent.proofs.trim_over.Goals as goal

pub trim_into-requires : goal.trim_into-requires
trim_into-requires c = trim-fits _ _ _ _ (modulus-some _) (sym c.in_ok-judge_trim.was ∙ c.judge_trim.ensures)

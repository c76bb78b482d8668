-- `list_sum::sum_over` meets its contract: the slice is written where nothing is refused.
-- Assumes nothing.
use mathlib.Core.Path.{sym, ◌∙◌}
use Rattle.std.proofs.Common.{rules}
use Rattle.field.specs.Fields.{field_at}
use Rattle.field.proofs.Fields.{modulus-some, p-at}
use Rattle.refusal.proofs.Answers.{result}
use Rattle.list_sum.proofs.Judged.{sum_fits}
use Rattle.list_sum.proofs.Sums.{sum-is}
use Rattle.list_sum.proofs.sum_over.Goals as goal

pub combine-requires-clause-sum_fits : goal.combine-requires-clause-sum_fits
combine-requires-clause-sum_fits c = sum_fits _ _ (modulus-some _) _ _ _ (sym c.in_ok-judge_sum.was ∙ c.judge_sum.ensures)

pub returns-clause-writes : goal.returns-clause-writes
returns-clause-writes c =
    result _ _ (sym c.judge_sum.ensures ∙ c.in_ok-judge_sum.was)
    (sum-is (field_at _) (p-at _) _ _ _ c.combine.ensures (λ x y w h. search rules))

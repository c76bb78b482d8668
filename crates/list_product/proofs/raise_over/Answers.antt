-- `list_product::raise_over` meets its contract: the slice is written where nothing is refused.
-- Assumes nothing.
use mathlib.Core.Path.{ap, sym, ◌∙◌}
use Rattle.field.specs.Fields.{field_at}
use Rattle.field.proofs.Fields.{modulus-some}
use Rattle.lists.specs.Operations.{raise}
use Rattle.refusal.proofs.Answers.{result}
use Rattle.list_product.proofs.Judged.{raise-fits}
use Rattle.list_product.proofs.raise_over.Goals as goal

pub raise_into-requires : goal.raise_into-requires
raise_into-requires c = (raise-fits _ _ (modulus-some _) _ _ _ (sym c.in_ok-judge_raise.was ∙ c.judge_raise.ensures)).0

pub returns-clause-writes : goal.returns-clause-writes
returns-clause-writes c =
    let found = sym c.judge_raise.ensures ∙ c.in_ok-judge_raise.was in
    let fits = raise-fits _ _ (modulus-some _) _ _ _ (sym found) in
    result _ _ found (c.raise_into.ensures ∙ ap (λ n. raise (field_at c.args.field) n c.args.f.now) fits.1)

-- `field_inverse::inverse_or_zero` meets its contract: the answer's word, or 0.
-- Assumes nothing.
use mathlib.Core.Path.{◌∙◌}
use Rattle.field.specs.Fields.{field_at}
use Rattle.field.proofs.Fields.{p-at}
use Rattle.field_inverse.proofs.OrZero.{inverse-word}
use Rattle.field_inverse.proofs.inverse_or_zero.Goals as goal

pub returns : goal.returns
returns c =
    let r = c.inverse_over in
    c.unwrap_or.ensures ∙ inverse-word (field_at c.args.field) (p-at c.args.field) c.args.a r.result r.ensures.answer

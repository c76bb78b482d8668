-- `field_inverse::find` meets its contract: what the table gives is tried, and the cofactor of the remainder 1 is the inverse.
-- Assumes nothing.
use mathlib.Core.Path.{sym, ◌∙◌}
use Rattle.field.specs.Fields.{field_at}
use Rattle.field.proofs.Fields.{p-at}
use Rattle.field_inverse.proofs.Tried.{tried, of_one}
use Rattle.field_inverse.proofs.find.Goals as goal

pub returns-then-inverts : goal.returns-then-inverts
returns-then-inverts c = tried (field_at _) (p-at _) c.args.a c.requires.0 c.requires.1 _ (sym c.inverts.ensures ∙ c.if-inverts.true)

pub returns : goal.returns
returns c =
    let met = c.steps-last.ensures in
    of_one (field_at _) (p-at _) c.args.a c.requires.0 c.requires.1 _ _ met.0 met.1 met.2

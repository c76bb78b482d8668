-- `list_gcd::gcd_sized` meets its contract: it lends buffers of zeros.
-- Assumes nothing.
use Rattle.field.specs.Fields.{field_at}
use Rattle.list_gcd.proofs.Finish.{gcd-done}
use Rattle.list_gcd.proofs.gcd_sized.Goals as goal

pub returns-clause-value : goal.returns-clause-value
returns-clause-value g c = gcd-done (field_at _) c.gcd_in.ensures.numbers

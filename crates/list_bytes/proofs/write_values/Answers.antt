-- `list_bytes::write_values` meets its contract.
-- Assumes nothing.
use mathlib.Core.Path.{◌∙◌}
use native.Mathlib.Omega.{arith}
use Rattle.words.proofs.Transfer.{bytes_fit}
use Rattle.list_bytes.proofs.write_values.Goals as goal

pub returns : goal.returns
returns c = c.write_words.ensures ∙ bytes_fit _ _ (omega arith)

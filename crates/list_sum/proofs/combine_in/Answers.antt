-- `list_sum::combine_in` meets its contract: neither raise is refused, so both buffers hold the raised lists.
-- Assumes nothing.
use Rattle.field.specs.Fields.{field_at}
use Rattle.field.proofs.Fields.{modulus-some}
use Rattle.list_sum.proofs.Sums.{combined-raised}
use Rattle.list_sum.proofs.combine_in.Goals as goal

pub returns : goal.returns
returns g c =
    combined-raised (field_at _) (modulus-some _) _ _ _ c.requires.sum_fits _ _ _ c.requires.a_len.0 c.requires.a_len.1
    c.raise_over.ensures.writes
    c.raise_over-2.ensures.writes
    c.combine_words.ensures

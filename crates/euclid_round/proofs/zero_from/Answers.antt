-- `euclid_round::zero_from` meets its contract.
-- Assumes nothing.
use Rattle.euclid_round.proofs.Written.{zeroed}
use Rattle.euclid_round.proofs.zero_from.Goals as goal

pub returns : goal.returns
returns c = zeroed _ c.args.out.now _ _ c.min-start.ensures (c.fill.ensures.after (λ y h. h))

-- `word_pairs::add_high` meets its contract: what is added is the high half.
-- Assumes nothing.
use Rattle.std.proofs.Common.{ap, arith, w32}
use mir.ValLaws.{to_z-of_z}
use Rattle.word_pairs.specs.Pairs.{up32}
use Rattle.word_pairs.proofs.add_high.Goals as goal

pub returns : goal.returns
returns c = omega (arith, c.high.ensures, ap up32 (to_z-of_z w32 c.args.t c.ranges.t))

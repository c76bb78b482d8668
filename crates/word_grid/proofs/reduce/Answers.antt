-- `word_grid::reduce` meets its contract: two folds leave less than 2 p.
-- Assumes nothing.
use Rattle.std.proofs.Common.{◌+◌, ◌*◌, ◌/◌, ◌∙◌, arith}
use Rattle.word_montgomery.proofs.Words.{same}
use Rattle.word_grid.proofs.Remainders.{split}
use Rattle.word_grid.proofs.reduce.Goals as goal

pub returns : goal.returns
returns c =
    let h = c.high_of.result in
    let n = c.low_of.result + c.excess.result * h in
    c.last.ensures
    ∙ same c.args.p _ _ (c.fold.result / 65536 + n / 65536 + h) 0
    (omega (arith, c.fold-2.ensures.0, c.fold.ensures.0, split c.args.p c.excess.result c.excess.ensures.0 h, c.low_of.ensures, c.high_of.ensures))

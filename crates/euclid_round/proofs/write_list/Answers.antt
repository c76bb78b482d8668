-- `euclid_round::write_list` meets its contract: its tests are `write_fits`.
-- Assumes nothing.
use native.Mathlib.Omega.{arith}
use Rattle.euclid_round.proofs.Written.{write-fits, written}
use Rattle.euclid_round.proofs.write_list.Goals as goal

pub returns-clause-writes : goal.returns-clause-writes
returns-clause-writes c =
    let a = c.args in
    let yes = write-fits a.words a.whole.now a.part.now a.form.now a.out.now (omega arith) (omega arith) (omega arith) (omega arith) in
    let list =
    written _ a.whole.now a.part.now a.words a.m a.form.now a.out.now (omega arith) (omega arith) (omega arith) (omega arith) c.times_word.ensures
    c.weigh.ensures c.zero_from.ensures in simp yes list

-- `word_pairs::pair` meets its contract: both products and their sum have 32 bits.
-- Assumes nothing.
use Rattle.word_pairs.proofs.Integers.{rd-fits, mul-fits, sum_fits, sum_is, up-less}
use Rattle.word_pairs.specs.Pairs.{up}
use Rattle.word_pairs.proofs.pair.Goals as goal

pub overflow_mul-result : goal.overflow_mul-result
overflow_mul-result c =
    let a = c.args in
    mul-fits c.signed.result c.signed-2.result (up a.w0) (up a.v0) c.signed.ensures c.signed-2.ensures c.requires.0 (up-less _) (up-less _)

pub overflow_mul-result-2 : goal.overflow_mul-result-2
overflow_mul-result-2 c =
    let a = c.args in
    mul-fits c.signed-3.result c.signed-4.result (up a.w1) (up a.v1) c.signed-3.ensures c.signed-4.ensures c.requires.1 (up-less _) (up-less _)

pub overflow_add-result : goal.overflow_add-result
overflow_add-result c =
    let a = c.args in
    sum_fits c.signed.result c.signed-2.result c.signed-3.result c.signed-4.result a.w0 a.v0 a.w1 a.v1
    c.signed.ensures c.signed-2.ensures c.signed-3.ensures c.signed-4.ensures c.requires.0 c.requires.1

pub returns : goal.returns
returns c =
    let a = c.args in (
      rd-fits _
          (sum_fits c.signed.result c.signed-2.result c.signed-3.result c.signed-4.result a.w0 a.v0 a.w1 a.v1
          c.signed.ensures c.signed-2.ensures c.signed-3.ensures c.signed-4.ensures c.requires.0 c.requires.1),
      sum_is c.signed.result c.signed-2.result c.signed-3.result c.signed-4.result a.w0 a.v0 a.w1 a.v1
          c.signed.ensures c.signed-2.ensures c.signed-3.ensures c.signed-4.ensures c.requires.0 c.requires.1,
    )

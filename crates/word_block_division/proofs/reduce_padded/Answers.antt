-- `word_block_division::reduce_padded` meets its contract: a short quotient row by row, another one on the words that the division reaches.
-- Assumes nothing.
use native.Mathlib.Omega.{arith}
use Rattle.field.specs.Fields.{modulus}
use Rattle.word_block_division.proofs.Whole.{part-reduced, part-digits}
use Rattle.word_block_division.proofs.reduce_padded.Goals as goal

pub returns-clause-left : goal.returns-clause-left
returns-clause-left c =
    let a = c.args in
    part-reduced (modulus a.field) a.inv a.n _ a.x.now a.y.now a.q.now (omega arith) (omega arith) (omega arith) (omega arith) c.reduce.ensures.left

pub returns-clause-quotient : goal.returns-clause-quotient
returns-clause-quotient c =
    let a = c.args in
    part-digits (modulus a.field) a.inv a.n _ a.x.now a.y.now a.q.now (omega arith) (omega arith) (omega arith) (omega arith) c.reduce.ensures.quotient

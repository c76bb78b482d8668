-- `word_block_division::reduce` meets its contract: in blocks where that is quicker and can be done, else row by row.
-- Assumes nothing.
use Rattle.field.specs.Fields.{field_at}
use Rattle.field.proofs.Fields.{p-at}
use Rattle.word_block_division.proofs.Whole.{reduced-at, digits-at}
use Rattle.word_block_division.proofs.reduce.Goals as goal

pub returns-in-Some-clause-left : goal.returns-in-Some-clause-left
returns-in-Some-clause-left c =
    let a = c.args in
    reduced-at (field_at a.field) (p-at a.field) a.inv a.x.now a.y.now a.q.now (c.is_suited.ensures c.if-is_suited.true) c.reduce_by.auto.q c.reduce_by.auto.x c.reduce_by.ensures

pub returns-in-Some-clause-quotient : goal.returns-in-Some-clause-quotient
returns-in-Some-clause-quotient c =
    let a = c.args in
    digits-at (field_at a.field) (p-at a.field) a.inv a.x.now a.y.now a.q.now (c.is_suited.ensures c.if-is_suited.true) c.reduce_by.auto.q c.reduce_by.auto.x c.reduce_by.ensures

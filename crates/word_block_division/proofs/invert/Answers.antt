-- `word_block_division::invert` meets its contract: a division row by row.
-- Assumes nothing.
use Rattle.field.specs.Fields.{field_at}
use Rattle.field.proofs.Fields.{p-at}
use Rattle.word_block_division.proofs.Blocks.{reciprocal-at}
use Rattle.word_block_division.proofs.invert.Goals as goal

pub returns : goal.returns
returns c =
    let a = c.args in
    reciprocal-at (field_at a.field) (p-at a.field) a.inv a.top.now a.z.now a.s.now c.requires.0 c.requires.1 c.requires.2 c.requires.3 c.reduce.ensures.quotient

-- `word_block_division::reduce_block` meets its contract: two products and a row.
-- Assumes nothing.
use mathlib.Core.Path.{sym}
use native.Mathlib.Omega.{arith}
use Rattle.field.specs.Fields.{field_at}
use Rattle.field.proofs.Fields.{p-at, modulus-half}
use Rattle.lists.proofs.Tight.{tight-at}
use Rattle.word_block_division.proofs.Blocks.{block_at, taken-tight}
use Rattle.word_block_division.proofs.reduce_block.Goals as goal

pub sub_words-requires : goal.sub_words-requires
sub_words-requires c =
    let a = c.args in
    let e = c.modulus_of.ensures in
    let pre = c.requires in (
      omega (arith, c.convolve-2.auto.out),
      omega (arith, e, modulus-half a.field),
      tight-at e pre.reciprocal.1,
      tight-at e (taken-tight (field_at a.field) (p-at a.field) a.x.now a.y.now a.s.now a.q.now a.t.now a.v.now pre.reciprocal.0 pre.y_len_bound.0 pre.y_len_bound.1 pre.y_len_bound.2 pre.y_len_bound.3 pre.x_len.0 pre.x_len.1 pre.x_len.2
          c.convolve.ensures c.copy_from_slice.ensures.after c.convolve-2.ensures),
    )

pub returns : goal.returns
returns c =
    let a = c.args in
    let pre = c.requires in
    block_at (field_at a.field) (p-at a.field) a.x.now a.y.now a.s.now a.q.now a.t.now a.v.now pre.reciprocal.0 pre.y_len_bound.0 pre.y_len_bound.1 pre.y_len_bound.2 pre.y_len_bound.3 pre.x_len.0 pre.x_len.1 pre.x_len.2
    c.convolve.ensures c.copy_from_slice.ensures.after c.convolve-2.ensures
    pre.reciprocal.1 (rw (sym c.modulus_of.ensures) c.sub_words.ensures)

-- `word_row::lift_of` meets its contract.
-- Assumes nothing.
use Rattle.std.proofs.Common.{◌-◌, ◌*◌, ◌%◌, ◌∙◌, ap₂, arith}
use Rattle.field.specs.Fields.{modulus}
use Rattle.word_row.specs.Montgomery.{lift_of}
use Rattle.word_row.proofs.Montgomery.{square-below}
use Rattle.word_row.proofs.lift_of.Goals as goal

pub overflow_sub-modulus_of : goal.overflow_sub-modulus_of
overflow_sub-modulus_of c = omega (arith, square-below c.args.field)

pub returns : goal.returns
unfolding lift_of
returns c =
    let a = c.args in
    c.mul.ensures ∙ ap₂ (λ p r. (a.m * (p - r)) % modulus a.field) c.modulus_of.ensures c.square_of.ensures

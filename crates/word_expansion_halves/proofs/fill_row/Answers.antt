-- `word_expansion_halves::fill_row` meets its contract: the signs, weighed.
-- Assumes nothing.
use mathlib.Core.Path.{◌∙◌, ap₂}
use Prim.Native.Nat.{ℕ}
use native.Mathlib.Omega.{arith}
use Rattle.field.proofs.Fields.{modulus-half}
use Rattle.field_tables.proofs.Entries.{fetched}
use Rattle.word_expansion_halves.specs.Halves.{signs}
use Rattle.word_expansion_halves.proofs.Row.{row-weighed}
use Rattle.word_expansion_halves.proofs.fill_row.Goals as goal

pub fill_signs-requires : goal.fill_signs-requires
fill_signs-requires c = omega (arith, modulus-half c.args.field, c.modulus_of.ensures)

pub returns : goal.returns
returns c =
    let a = c.args in
    let tables = fetched a.field c.factorials-whole.ensures c.inverse_factorials-part.ensures (omega arith) in
    row-weighed a.field a.plus tables _ a.row.now (omega arith) (omega arith)
    (c.fill_signs.ensures ∙ ap₂ (λ (p n : ℕ). signs p a.plus n) c.modulus_of.ensures c.requires.0) c.weigh.ensures

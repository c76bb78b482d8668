-- `list_cofactors::undo_round` meets its contract: the quotient stands before the number of its words.
-- Assumes nothing.
use mathlib.Core.Path.{◌≡◌, refl, ◌∙◌, ap}
use mathlib.Core.List.{List}
use Prim.Native.Nat.{ℕ, ◌-◌, ◌<◌}
use native.Mathlib.Omega.{arith}
use lib.ListN.{take, drop, length-take}
use Rattle.field.specs.Fields.{modulus}
use Rattle.word_division.specs.Reduction.{less_product}
use Rattle.list_cofactors.specs.Internal.{last_count, last_quotient}
use borrow.Author.Rules.{rules}
use Rattle.list_cofactors.proofs.undo_round.Goals as goal

-- the words that are lent
quotient-lent : (p at read : ℕ) (kept s t : List ℕ) {s' : List ℕ} → last_count at kept < at
    → s' ≡ less_product p s (take (at - 1 - (at - 1 - last_count at kept)) (drop (at - 1 - last_count at kept) kept)) (take read t)
    → s' ≡ less_product p s (last_quotient at kept) (take read t)
unfolding last_quotient
quotient-lent p at read kept s t l e =
    let words : at - 1 - (at - 1 - last_count at kept) ≡ last_count at kept = omega arith in
    e ∙ ap (λ i. less_product p s (take i (drop (at - 1 - last_count at kept) kept)) (take read t)) words

pub overflow_sub-end-2 : goal.overflow_sub-end-2
unfolding last_count
overflow_sub-end-2 c = search rules

pub sub_product-requires-clause-q_in_bounds : goal.sub_product-requires-clause-q_in_bounds
unfolding last_count
sub_product-requires-clause-q_in_bounds c = simp length-take (omega arith)

pub returns : goal.returns
unfolding last_count
returns c = record { value = refl; s_after = quotient-lent (modulus c.args.field) c.args.at c.args.read c.args.kept.now c.args.s.now c.args.t.now c.requires.at_in_bounds.1 c.sub_product.ensures }

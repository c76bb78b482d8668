-- What the rows of a call on two operands give.
--     first-loose, second-loose     operands that are loose
--     none-loose                    operands that are not
--     reduced                       a second operand that is not refused is below p, so the difference needs no remainder of it
-- Assumes nothing.
use mathlib.Core.Path.{◌≡◌, sym, ◌∙◌}
use Prim.Native.Nat.{ℕ, ◌+◌, ◌-◌, ◌%◌, ◌≤◌, ◌<◌}
use native.Mathlib.Nat.{mod-eq_of_lt}
use lib.Dec.{leb}
use borrow.Author.Tests.{le-leb, lt-leb, leb-false}
use Rattle.std.specs.Prelude.{Ok, Err}
use Rattle.refusal.specs.Lowest.{lowest}
use Rattle.refusal.specs.declared.Refusal.TheVariants.{LooseWord}
use Rattle.refusal.proofs.First.{first-is, refuse-done, or-false}
use Rattle.field.specs.Field.{operand_refusals, difference_of}

module _ (p a b : ℕ) where
  pub first-loose : p ≤ a → lowest (operand_refusals p a b) ≡ Err LooseWord
  first-loose h = first-is (operand_refusals p a b) tt ∙ simp (le-leb p a h)

  pub second-loose : a < p → p ≤ b → lowest (operand_refusals p a b) ≡ Err LooseWord
  second-loose l h = first-is (operand_refusals p a b) tt ∙ simp (lt-leb p a l, le-leb p b h)

  pub none-loose : a < p → b < p → lowest (operand_refusals p a b) ≡ Ok tt
  none-loose l h = first-is (operand_refusals p a b) tt ∙ simp (lt-leb p a l, lt-leb p b h)

  -- a second operand that is not refused is below p
  pub reduced : lowest (operand_refusals p a b) ≡ Ok tt → (a + (p - b % p)) % p ≡ difference_of p a b
  reduced e = rw (mod-eq_of_lt (leb-false p b (or-false (leb p a) (leb p b) (refuse-done _ _ _ (sym (first-is (operand_refusals p a b) tt) ∙ e)).0).1))

-- `word_block_division::is_suited` meets its contract: where every test is passed, the division suits.
-- Assumes nothing.
use mathlib.Core.Path.{◌≡◌, sym, ◌∙◌}
use mathlib.Core.Bool.{false}
use Prim.Native.Nat.{◌+◌, ◌≤◌}
use native.Mathlib.Omega.{arith}
use borrow.Author.Tests.{eqb-true}
use lib.ListN.{length}
use Rattle.field.specs.Fields.{modulus}
use Rattle.field.proofs.Fields.{modulus-some}
use Rattle.refusal.specs.Limits.{max_words}
use Rattle.std.proofs.lemmas.Grind.{common_steps}
use Rattle.lists.specs.Refused.{has_loose}
use Rattle.lists.proofs.Search.{none-loose}
use Rattle.word_block_division.proofs.is_suited.Goals as goal

pub returns-then-not-has_loose-2 : goal.returns-then-not-has_loose-2
returns-then-not-has_loose-2 c =
    λ e.
    let a = c.args in
    let some : 1 ≤ length a.y.now = grind arith in
    let short : length a.y.now ≤ max_words = grind arith in
    let steps : length a.x.now + 1 ≡ length a.y.now + a.k = grind arith in
    let loose-x : has_loose (modulus a.field) a.x.now ≡ false = grind (arith, common_steps) in
    let loose-y : has_loose (modulus a.field) a.y.now ≡ false = grind (arith, common_steps) in
    record {
      inverts =
          record {
            some = some;
            tight = record { at = none-loose (modulus a.field) a.y.now (modulus-some a.field) loose-y };
            inverse = sym c.mul.ensures ∙ eqb-true c.mul.result 1 e;
          };
      short = short;
      steps = steps;
      tight = record { at = none-loose (modulus a.field) a.x.now (modulus-some a.field) loose-x };
    }

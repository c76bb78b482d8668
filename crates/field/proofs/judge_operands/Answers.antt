-- `field::judge_operands` meets its contract.
-- Assumes nothing.
use mathlib.Core.Path.{sym}
use native.Mathlib.Omega.{arith}
use Rattle.field.specs.Fields.{modulus}
use Rattle.field.proofs.Answers.{first-loose, second-loose, none-loose}
use Rattle.field.proofs.judge_operands.Goals as goal
use Rattle.field.proofs.judge_operands.Goals.{then-p-a-via-then-p-a, then-p-a-via-else-p-a+then-p-b}

pub returns-then-p-a : goal.returns-then-p-a
returns-then-p-a c =
    elim c.then-p-a.branch [
      | then-p-a-via-then-p-a w ↦ sym (first-loose (modulus c.args.field) c.args.a c.args.b (omega arith))
      | then-p-a-via-else-p-a+then-p-b w ↦ sym (second-loose (modulus c.args.field) c.args.a c.args.b (omega arith) (omega arith))
    ]

pub returns : goal.returns
returns c = sym (none-loose (modulus c.args.field) c.args.a c.args.b (omega arith) (omega arith))

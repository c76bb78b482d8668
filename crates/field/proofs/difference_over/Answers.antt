-- `field::difference_over` meets its contract: what the judge finds decides.
-- Assumes nothing.
use mathlib.Core.Path.{ap, sym, ◌∙◌}
use mathlib.Core.List.{[], ◌∷◌}
use Prim.Native.Nat.{ℕ}
use Rattle.std.specs.Prelude.{Ok}
use Rattle.refusal.specs.Refusal.{reply}
use Rattle.field.specs.Fields.{modulus}
use Rattle.field.proofs.Answers.{reduced}
use Rattle.field.proofs.difference_over.Goals as goal

pub returns : goal.returns
returns c =
    let found = sym c.judge_operands.ensures ∙ c.in_ok-judge_operands.was in
    record { answer = rw found (ap (λ (x : ℕ). reply (Ok tt) (x ∷ [])) (c.sub.ensures ∙ reduced (modulus c.args.field) c.args.a c.args.b found)) }

-- `list_cofactors::cofactors_over` meets its contract: a call that is not refused has all that the work requires.
-- Assumes nothing.
use mathlib.Core.List.{List}
use mathlib.Core.Path.{◌≡◌, sym, ◌∙◌}
use Prim.Native.Nat.{ℕ}
use Rattle.std.proofs.lemmas.Result.{err_from_is_err_and}
use Rattle.std.specs.Prelude.{Ok}
use Rattle.field.specs.Fields.{modulus, field_at, longest}
use Rattle.field.proofs.Fields.{longest-in}
use Rattle.refusal.specs.Lowest.{lowest}
use Rattle.euclid_theory.specs.Gcd.{cofactor_a, cofactor_b}
use Rattle.list_gcd.specs.Internal.{Ready}
use Rattle.list_gcd.proofs.Finish.{refused}
use Rattle.list_cofactors.specs.Internal.{Slices}
use Rattle.list_cofactors.proofs.Slices.{cofactors-ready}
use Rattle.list_cofactors.proofs.Results.{cofactors-answered}
use Rattle.refusal.proofs.Answers.{kept}
use Rattle.list_cofactors.specs.Calls.{cofactor_rows}
use Rattle.list_cofactors.proofs.cofactors_over.Goals as goal

found-ready : (k : ℕ) (f g h a b : List ℕ) → lowest (cofactor_rows (modulus k) (longest k) f g h a b) ≡ Ok tt
    → Ready (field_at k) (longest k) f g × Slices (longest k) f g h a b
unfolding field_at
found-ready k f g h a b e = cofactors-ready (field_at k) (longest k) (longest-in k) f g h a b e

pub cofactors_into-requires : goal.cofactors_into-requires
cofactors_into-requires c =
    let ready = found-ready _ _ _ _ _ _ (sym c.judge_cofactors.ensures ∙ c.in_ok-judge_cofactors.was) in record { ready = ready.0; slices = ready.1 }

pub returns-in_err-judge_cofactors : goal.returns-in_err-judge_cofactors
returns-in_err-judge_cofactors c =
    let p = err_from_is_err_and c.from_residual.result c.from_residual.ensures.1 in
    let found = sym c.judge_cofactors.ensures ∙ c.in_err-judge_cofactors.was in
    let of-gcd = refused (field_at _) _ c.args.f.now c.args.g.now c.args.h.now found in rw (p.1, p.2) record { answer = of-gcd.0; gcd = of-gcd.1; cofactor_a = kept (cofactor_a (field_at c.args.field) c.args.f.now c.args.g.now) c.args.a.now found; cofactor_b = kept (cofactor_b (field_at c.args.field) c.args.f.now c.args.g.now) c.args.b.now found; greatest = tt; identity = tt }

pub returns : goal.returns
returns c =
    let found = sym c.judge_cofactors.ensures ∙ c.in_ok-judge_cofactors.was in
    let all = cofactors-answered (field_at _) _ c.args.f.now c.args.g.now c.args.h.now c.args.a.now c.args.b.now found (found-ready _ _ _ _ _ _ found).0 c.cofactors_into.ensures in record { answer = all.0; gcd = all.1; cofactor_a = all.2; cofactor_b = all.3; greatest = all.4; identity = all.5 }

-- `list_gcd::gcd_over` meets its contract: what the judge finds decides, and the property follows from the definition.
-- Assumes nothing.
use mathlib.Core.Path.{◌≡◌, sym, ◌∙◌}
use mathlib.Core.List.{List}
use Prim.Native.Nat.{ℕ}
use lib.ListN.{length}
use Rattle.std.proofs.lemmas.Result.{err_from_is_err_and}
use Rattle.std.specs.Prelude.{Ok}
use Rattle.field.specs.Fields.{modulus, field_at, longest}
use Rattle.field.proofs.Fields.{longest-in}
use Rattle.refusal.specs.Lowest.{lowest}
use Rattle.list_gcd.specs.Calls.{gcd_rows}
use Rattle.list_gcd.specs.Internal.{Ready}
use Rattle.list_gcd.proofs.Ready.{gcd-ready}
use Rattle.list_gcd.proofs.Finish.{refused, answered}
use Rattle.list_gcd.proofs.gcd_over.Goals as goal

found-ready : (k : ℕ) (f g h : List ℕ) → lowest (gcd_rows (modulus k) (longest k) f g h) ≡ Ok tt → Ready (field_at k) (longest k) f g × (length h ≡ longest k)
unfolding field_at
found-ready k f g h e = gcd-ready (field_at k) (longest k) (longest-in k) f g h e

pub gcd_into-requires : goal.gcd_into-requires
gcd_into-requires c =
    let ready = found-ready _ _ _ _ (sym c.judge_gcd.ensures ∙ c.in_ok-judge_gcd.was) in record { ready = ready.0; h_len = ready.1 }

pub returns-in_err-judge_gcd : goal.returns-in_err-judge_gcd
returns-in_err-judge_gcd c =
    let p = err_from_is_err_and c.from_residual.result c.from_residual.ensures.1 in
    let found = sym c.judge_gcd.ensures ∙ c.in_err-judge_gcd.was in
    let all = refused (field_at _) _ c.args.f.now c.args.g.now c.args.h.now found in rw (p.1, p.2) record { answer = all.0; writes = all.1; greatest = tt }

pub returns : goal.returns
returns c =
    let found = sym c.judge_gcd.ensures ∙ c.in_ok-judge_gcd.was in
    let gcd = c.gcd_into.ensures in
    let all = answered (field_at _) _ c.args.f.now c.args.g.now c.args.h.now found (found-ready _ _ _ _ found).0 gcd.value gcd.h_after in record { answer = all.0; writes = all.1; greatest = all.2 }

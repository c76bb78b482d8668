-- What the call refuses, as the chain of tests that the code makes, and what a call that refuses nothing knows of its slices.
-- Assumes nothing.
use mathlib.Core.Path.{◌≡◌, sym, ◌∙◌}
use mathlib.Core.Bool.{not}
use mathlib.Core.List.{List, [], ◌∷◌}
use Prim.Native.Nat.{ℕ, ◌-◌, ◌<◌, max}
use lib.Dec.{eqb}
use lib.ListN.{length}
use borrow.Author.Tests.{eqb-true, not-false, eq-eqb, ne_eqb}
use Rattle.std.specs.Prelude.{Ok, Err}
use Rattle.refusal.specs.Lowest.{lowest}
use Rattle.refusal.specs.declared.Refusal.{Refusal}
use Rattle.refusal.specs.declared.Refusal.TheVariants.{Misfit}
use Rattle.refusal.proofs.First.{refuse, or_else, first_then, refuse-done, or-else-done}
use Rattle.lists.specs.Degrees.{naive_degree}
use Rattle.lists.specs.Refused.{list_refusals}
use Rattle.lists.proofs.Judged.{one-listed}
use Rattle.list_derivative.specs.Calls.{derivative_words, derivative_rows}
use Rattle.list_derivative.specs.Internal.{DerivativeFits}

module _ (p most : ℕ) (f out : List ℕ) where
  derivative-judged : lowest (derivative_rows p most f out)
      ≡ or_else (lowest (list_refusals p most (f ∷ []))) (refuse (not (eqb (length out) (derivative_words f))) Misfit (Ok tt))
  unfolding derivative_rows list_refusals
  derivative-judged = first_then (list_refusals p most (f ∷ [])) _ tt

  pub derivative-refused : {why : Refusal} → lowest (list_refusals p most (f ∷ [])) ≡ Err why → Err why ≡ lowest (derivative_rows p most f out)
  derivative-refused e = sym (derivative-judged ∙ simp e)

  module _ (e : lowest (list_refusals p most (f ∷ [])) ≡ Ok tt) where
    pub derivative-misfit : ¬ (length out ≡ max (length f - 1) 1) → Err Misfit ≡ lowest (derivative_rows p most f out)
    unfolding derivative_words naive_degree
    derivative-misfit h = sym (derivative-judged ∙ simp (e, ne_eqb (length out) (max (length f - 1) 1) h))

    pub derivative-done : length out ≡ max (length f - 1) 1 → Ok tt ≡ lowest (derivative_rows p most f out)
    unfolding derivative_words naive_degree
    derivative-done h = sym (derivative-judged ∙ simp (e, eq-eqb (length out) (max (length f - 1) 1) h))

  pub derivative-fits : 0 < p → Ok tt ≡ lowest (derivative_rows p most f out) → DerivativeFits most f out
  unfolding derivative_words naive_degree
  derivative-fits big e =
      let d = or-else-done (lowest (list_refusals p most (f ∷ []))) _ (sym derivative-judged ∙ sym e) in
      let m = refuse-done (not (eqb (length out) (derivative_words f))) _ _ d.1 in
      let l = one-listed p most big f d.0 in
      record {
        some = l.some;
        short = l.short;
        size = eqb-true (length out) (max (length f - 1) 1) (not-false _ m.0);
      }

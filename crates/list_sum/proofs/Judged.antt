-- What sum and difference refuse, as the chain of tests that the code makes, and what a call that refuses nothing knows of its slices.
--     sum-refused, sum-misfit, sum_done     what the tests of a call find, one after the other
--     sum_fits                              what a call knows that refuses nothing
-- Assumes nothing.
use mathlib.Core.Path.{◌≡◌, sym, ◌∙◌}
use mathlib.Core.Bool.{not}
use mathlib.Core.List.{List, [], ◌∷◌}
use Prim.Native.Nat.{ℕ, suc, ◌<◌, max}
use native.Mathlib.Omega.{arith}
use lib.Dec.{eqb}
use lib.ListN.{length}
use borrow.Author.Tests.{eqb-true, not-false, eq-eqb, ne_eqb}
use Rattle.std.specs.Prelude.{Ok, Err}
use Rattle.refusal.specs.Lowest.{lowest}
use Rattle.refusal.specs.declared.Refusal.{Refusal}
use Rattle.refusal.specs.declared.Refusal.TheVariants.{Misfit}
use Rattle.refusal.proofs.First.{refuse, or_else, first_then, refuse-done, or-else-done}
use Rattle.lists.specs.Degrees.{naive_degree}
use Rattle.lists.specs.Refused.{list_refusals}
use Rattle.lists.proofs.Judged.{two-listed}
use Rattle.list_sum.specs.Calls.{sum_rows}
use Rattle.list_sum.specs.Internal.{SumFits}

module _ (p most : ℕ) (big : 0 < p) (f g out : List ℕ) where
  sum-judged : lowest (sum_rows p most f g out)
      ≡ or_else (lowest (list_refusals p most (f ∷ g ∷ [])))
      (refuse (not (eqb (length out) (suc (max (naive_degree f) (naive_degree g))))) Misfit (Ok tt))
  unfolding sum_rows list_refusals
  sum-judged = first_then (list_refusals p most (f ∷ g ∷ [])) _ tt

  pub sum-refused : {why : Refusal} → lowest (list_refusals p most (f ∷ g ∷ [])) ≡ Err why
      → Err why ≡ lowest (sum_rows p most f g out)
  sum-refused e = sym (sum-judged ∙ simp e)

  module _ (e : lowest (list_refusals p most (f ∷ g ∷ [])) ≡ Ok tt) where
    pub sum-misfit : ¬ (length out ≡ max (length f) (length g)) → Err Misfit ≡ lowest (sum_rows p most f g out)
    unfolding naive_degree
    sum-misfit h =
        let s = two-listed p most big f g e in
        sym (sum-judged ∙ simp (e, ne_eqb (length out) (suc (max (naive_degree f) (naive_degree g))) (λ q. h (omega arith))))

    pub sum_done : length out ≡ max (length f) (length g) → Ok tt ≡ lowest (sum_rows p most f g out)
    unfolding naive_degree
    sum_done h =
        let s = two-listed p most big f g e in
        sym (sum-judged ∙ simp (e, eq-eqb (length out) (suc (max (naive_degree f) (naive_degree g))) (omega arith)))

  pub sum_fits : Ok tt ≡ lowest (sum_rows p most f g out) → SumFits p most f g out
  unfolding naive_degree
  sum_fits e =
      let d = or-else-done (lowest (list_refusals p most (f ∷ g ∷ []))) _ (sym sum-judged ∙ sym e) in
      let m = refuse-done (not (eqb (length out) (suc (max (naive_degree f) (naive_degree g))))) _ _ d.1 in
      let s = two-listed p most big f g d.0 in
      let q = eqb-true (length out) (suc (max (naive_degree f) (naive_degree g))) (not-false _ m.0) in
      record { first = s.0; second = s.1; size = omega arith }

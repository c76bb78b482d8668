-- What a division refuses, as the chain of tests that the code makes, and what a division that refuses nothing knows of its slices.
-- Assumes nothing.
use mathlib.Core.Path.{◌≡◌, sym, ◌∙◌}
use mathlib.Core.Bool.{not, ◌||◌}
use mathlib.Core.List.{List, [], ◌∷◌}
use Prim.Native.Nat.{ℕ, ◌+◌, ◌-◌, ◌≤◌, ◌<◌}
use native.Mathlib.Omega.{arith}
use lib.Dec.{eqb, ltb}
use lib.ListN.{length, get_or}
use borrow.Author.Tests.{eqb-true, eqb-false, ltb-false, not-false, eq-eqb, ne_eqb, lt-ltb, le-ltb}
use Rattle.std.specs.Prelude.{Ok, Err}
use Rattle.algebra.specs.PrimeField.{PrimeField, positive}
use Rattle.refusal.specs.Lowest.{lowest}
use Rattle.refusal.specs.declared.Refusal.{Refusal}
use Rattle.refusal.specs.declared.Refusal.TheVariants.{Backwards, Vanishes, Misfit}
use Rattle.refusal.proofs.First.{refuse, or_else, first_then, refuse-done, or-else-done, or-false}
use Rattle.lists.specs.Degrees.{naive_degree}
use Rattle.lists.proofs.Scaled.{coefficients-listed}
use Rattle.lists.specs.Refused.{list_refusals}
use Rattle.lists.proofs.Judged.{two-listed}
use Rattle.euclid_theory.specs.Division.{steps}
use Rattle.list_division.specs.Calls.{divide_rows}
use Rattle.list_division.specs.Internal.{DivideFits}

-- the divisor has a last word
pub divisor-some : (p most : ℕ) (big : 0 < p) (g f : List ℕ) → lowest (list_refusals p most (g ∷ f ∷ [])) ≡ Ok tt → 0 < length f
divisor-some p most big g f e = (two-listed p most big g f e).1.some

module _ (p most : ℕ) (big : 0 < p) (g f q r : List ℕ) where
  divide-judged : lowest (divide_rows p most g f q r)
      ≡ or_else (lowest (list_refusals p most (g ∷ f ∷ [])))
      (refuse (ltb (length g) (length f)) Backwards
      (refuse (eqb (get_or f (naive_degree f) 0) 0) Vanishes
      (refuse (not (eqb (length q) (steps g f)) || not (eqb (length r) (naive_degree f))) Misfit (Ok tt))))
  unfolding divide_rows list_refusals
  divide-judged = first_then (list_refusals p most (g ∷ f ∷ [])) _ tt

  pub divide-refused : {why : Refusal} → lowest (list_refusals p most (g ∷ f ∷ [])) ≡ Err why
      → Err why ≡ lowest (divide_rows p most g f q r)
  divide-refused e = sym (divide-judged ∙ simp e)

  module _ (e : lowest (list_refusals p most (g ∷ f ∷ [])) ≡ Ok tt) where
    pub divide-backwards : length g < length f → Err Backwards ≡ lowest (divide_rows p most g f q r)
    divide-backwards l = sym (divide-judged ∙ simp (e, lt-ltb (length g) (length f) l))

    module _ (l : length f ≤ length g) where
      pub divide-vanishes : get_or f (length f - 1) 0 ≡ 0 → Err Vanishes ≡ lowest (divide_rows p most g f q r)
      unfolding naive_degree
      divide-vanishes z = sym (divide-judged ∙ simp (e, le-ltb (length g) (length f) l, eq-eqb (get_or f (length f - 1) 0) 0 z))

      module _ (z : ¬ (get_or f (length f - 1) 0 ≡ 0)) where
        pub divide-misfit-q : ¬ (length q ≡ length g - length f + 1) → Err Misfit ≡ lowest (divide_rows p most g f q r)
        unfolding naive_degree steps
        divide-misfit-q h =
            let s = divisor-some p most big g f e in
            sym
            (divide-judged
            ∙ simp (e, le-ltb (length g) (length f) l, ne_eqb (get_or f (length f - 1) 0) 0 z, ne_eqb (length q) (steps g f) (λ i. h (omega arith))))

        module _ (h : length q ≡ length g - length f + 1) where
          pub divide-misfit-r : ¬ (length r ≡ length f - 1) → Err Misfit ≡ lowest (divide_rows p most g f q r)
          unfolding naive_degree steps
          divide-misfit-r j =
              let s = divisor-some p most big g f e in
              sym
              (divide-judged
              ∙ simp (e, le-ltb (length g) (length f) l, ne_eqb (get_or f (length f - 1) 0) 0 z, eq-eqb (length q) (steps g f) (omega arith), ne_eqb (length r) (naive_degree f) j))

          pub divide-done : length r ≡ length f - 1 → Ok tt ≡ lowest (divide_rows p most g f q r)
          unfolding naive_degree steps
          divide-done j =
              let s = divisor-some p most big g f e in
              sym
              (divide-judged
              ∙ simp (e, le-ltb (length g) (length f) l, ne_eqb (get_or f (length f - 1) 0) 0 z, eq-eqb (length q) (steps g f) (omega arith), eq-eqb (length r) (naive_degree f) j))

module _ (F : PrimeField) (most : ℕ) (wide : most ≤ F.p) (g f q r : List ℕ) where
  pub divide-fits : Ok tt ≡ lowest (divide_rows F.p most g f q r) → DivideFits F most g f q r
  unfolding naive_degree steps
  divide-fits e =
      let d = or-else-done (lowest (list_refusals F.p most (g ∷ f ∷ []))) _ (sym (divide-judged F.p most (positive F) g f q r) ∙ sym e) in
      let b = refuse-done (ltb (length g) (length f)) _ _ d.1 in
      let v = refuse-done (eqb (get_or f (naive_degree f) 0) 0) _ _ b.1 in
      let m = refuse-done (not (eqb (length q) (steps g f)) || not (eqb (length r) (naive_degree f))) _ _ v.1 in
      let n = or-false (not (eqb (length q) (steps g f))) (not (eqb (length r) (naive_degree f))) m.0 in
      let s = two-listed F.p most (positive F) g f d.0 in
      let l = ltb-false (length g) (length f) b.0 in
      let lq = eqb-true (length q) (steps g f) (not-false _ n.0) in
      let lr = eqb-true (length r) (naive_degree f) (not-false _ n.1) in
      record {
        divisible =
            record {
              dividend = coefficients-listed F wide s.0;
              divisor = coefficients-listed F wide s.1;
              some = s.1.some;
              order = l;
              end = eqb-false (get_or f (naive_degree f) 0) 0 v.0;
            };
        short = s.0.short;
        quotient-words = omega arith;
        remainder-words = omega arith;
      }

-- What division in the usual sense refuses, as the chain of tests that the code makes, and what a division that refuses nothing knows of its
-- slices.
-- Assumes nothing.
use mathlib.Core.Path.{◌≡◌, sym, ◌∙◌}
use mathlib.Core.Bool.{not, ◌||◌}
use mathlib.Core.List.{List, [], ◌∷◌}
use Prim.Native.Nat.{ℕ, ◌≤◌}
use lib.Dec.{eqb}
use lib.ListN.{length}
use borrow.Author.Tests.{eqb-true, eqb-false, not-false, eq-eqb, ne_eqb}
use Rattle.std.specs.Prelude.{Ok, Err}
use Rattle.algebra.specs.PrimeField.{PrimeField, positive}
use Rattle.refusal.specs.Lowest.{lowest}
use Rattle.refusal.specs.declared.Refusal.{Refusal}
use Rattle.refusal.specs.declared.Refusal.TheVariants.{AllZero, Misfit}
use Rattle.refusal.proofs.First.{refuse, or_else, first_then, refuse-done, or-else-done, or-false}
use Rattle.lists.specs.Degrees.{significant}
use Rattle.lists.proofs.Scaled.{coefficients-listed}
use Rattle.lists.specs.Refused.{list_refusals}
use Rattle.lists.proofs.Judged.{two-listed}
use Rattle.list_ordinary_division.specs.Calls.{ordinary_rows}
use Rattle.list_ordinary_division.specs.Internal.{OrdinaryFits}

module _ (p most : ℕ) (g f q r : List ℕ) where
  ordinary-judged : lowest (ordinary_rows p most g f q r)
      ≡ or_else (lowest (list_refusals p most (g ∷ f ∷ [])))
      (refuse (eqb (significant f) 0) AllZero
      (refuse (not (eqb (length q) (length g)) || not (eqb (length r) (length g))) Misfit (Ok tt)))
  unfolding ordinary_rows list_refusals
  ordinary-judged = first_then (list_refusals p most (g ∷ f ∷ [])) _ tt

  pub ordinary-refused : {why : Refusal} → lowest (list_refusals p most (g ∷ f ∷ [])) ≡ Err why
      → Err why ≡ lowest (ordinary_rows p most g f q r)
  ordinary-refused e = sym (ordinary-judged ∙ simp e)

  module _ (e : lowest (list_refusals p most (g ∷ f ∷ [])) ≡ Ok tt) where
    pub ordinary-zero : significant f ≡ 0 → Err AllZero ≡ lowest (ordinary_rows p most g f q r)
    ordinary-zero z = sym (ordinary-judged ∙ simp (e, eq-eqb (significant f) 0 z))

    module _ (z : ¬ (significant f ≡ 0)) where
      pub ordinary-misfit-q : ¬ (length q ≡ length g) → Err Misfit ≡ lowest (ordinary_rows p most g f q r)
      ordinary-misfit-q h = sym (ordinary-judged ∙ simp (e, ne_eqb (significant f) 0 z, ne_eqb (length q) (length g) h))

      module _ (h : length q ≡ length g) where
        pub ordinary-misfit-r : ¬ (length r ≡ length g) → Err Misfit ≡ lowest (ordinary_rows p most g f q r)
        ordinary-misfit-r j =
            sym (ordinary-judged ∙ simp (e, ne_eqb (significant f) 0 z, eq-eqb (length q) (length g) h, ne_eqb (length r) (length g) j))

        pub ordinary-done : length r ≡ length g → Ok tt ≡ lowest (ordinary_rows p most g f q r)
        ordinary-done j =
            sym (ordinary-judged ∙ simp (e, ne_eqb (significant f) 0 z, eq-eqb (length q) (length g) h, eq-eqb (length r) (length g) j))

module _ (F : PrimeField) (most : ℕ) (wide : most ≤ F.p) (g f q r : List ℕ) where
  pub ordinary-fits : Ok tt ≡ lowest (ordinary_rows F.p most g f q r) → OrdinaryFits F most g f q r
  ordinary-fits e =
      let d = or-else-done (lowest (list_refusals F.p most (g ∷ f ∷ []))) _ (sym (ordinary-judged F.p most g f q r) ∙ sym e) in
      let z = refuse-done (eqb (significant f) 0) _ _ d.1 in
      let m = refuse-done (not (eqb (length q) (length g)) || not (eqb (length r) (length g))) _ _ z.1 in
      let n = or-false (not (eqb (length q) (length g))) (not (eqb (length r) (length g))) m.0 in
      let s = two-listed F.p most (positive F) g f d.0 in
      record {
        dividable =
            record {
              dividend = coefficients-listed F wide s.0;
              divisor = coefficients-listed F wide s.1;
              some = s.0.some;
              nonzero = eqb-false (significant f) 0 z.0;
            };
        short-dividend = s.0.short;
        short-divisor = s.1.short;
        quotient-words = eqb-true (length q) (length g) (not-false _ n.0);
        remainder-words = eqb-true (length r) (length g) (not-false _ n.1);
      }

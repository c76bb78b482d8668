-- The rows of a call on two lists that are not both zero, as the chain of tests that the code makes, and what such a call knows where it
-- refuses nothing.
--     judged_rows       the rows, with a test of the result slices
-- Theorems:
--     ready, gcd-ready     what is known where nothing is refused
--     ready-within         the same of fewer words, where the lists have no more
-- Assumes nothing.
use mathlib.Core.Path.{◌≡◌, sym, ◌∙◌}
use mathlib.Core.Bool.{Bool, true, false, not}
use mathlib.Core.List.{List, [], ◌∷◌, ◌++◌}
use Prim.Native.Nat.{ℕ, ◌+◌, ◌≤◌}
use native.Mathlib.Omega.{arith}
use lib.Dec.{eqb}
use lib.ListN.{length}
use borrow.Author.Tests.{eqb-true, eqb-false, not-false}
use Rattle.std.specs.Prelude.{Ok, Err}
use Rattle.algebra.specs.PrimeField.{PrimeField, positive}
use Rattle.refusal.specs.Lowest.{Condition, ◌given-when◌, lowest}
use Rattle.refusal.specs.declared.Refusal.{Refusal}
use Rattle.refusal.specs.declared.Refusal.TheVariants.{AllZero, Misfit}
use Rattle.refusal.proofs.First.{refuse, or_else, first_then, refuse-done, or-else-done}
use Rattle.lists.specs.Degrees.{significant}
use Rattle.lists.proofs.Scaled.{coefficients-listed}
use Rattle.lists.specs.Refused.{list_refusals}
use Rattle.lists.proofs.Judged.{two-listed}
use Rattle.list_gcd.specs.Calls.{gcd_rows}
use Rattle.list_gcd.specs.Internal.{Ready}

-- a test of the result slices comes last
abbrev pub judged_rows : (p most : ℕ) → (f g : List ℕ) → Bool → List Condition
judged_rows p most f g misfit =
    list_refusals p most (f ∷ g ∷ []) ++
    (AllZero given-when eqb (significant f + significant g) 0 ∷
    Misfit given-when misfit ∷
    [])

module _ (p most : ℕ) (f g : List ℕ) (misfit : Bool) where
  rows-judged : lowest (judged_rows p most f g misfit)
      ≡ or_else (lowest (list_refusals p most (f ∷ g ∷ []))) (refuse (eqb (significant f + significant g) 0) AllZero (refuse misfit Misfit (Ok tt)))
  unfolding list_refusals
  rows-judged = first_then (list_refusals p most (f ∷ g ∷ [])) _ tt

  pub judged-lists : {why : Refusal} → lowest (list_refusals p most (f ∷ g ∷ [])) ≡ Err why → Err why ≡ lowest (judged_rows p most f g misfit)
  judged-lists e = sym (rows-judged ∙ simp e)

  module _ (e : lowest (list_refusals p most (f ∷ g ∷ [])) ≡ Ok tt) where
    pub judged-zero : eqb (significant f + significant g) 0 ≡ true → Err AllZero ≡ lowest (judged_rows p most f g misfit)
    judged-zero z = sym (rows-judged ∙ simp (e, z))

    pub judged-misfit : eqb (significant f + significant g) 0 ≡ false → misfit ≡ true → Err Misfit ≡ lowest (judged_rows p most f g misfit)
    judged-misfit z m = sym (rows-judged ∙ simp (e, z, m))

    pub judged-done : eqb (significant f + significant g) 0 ≡ false → misfit ≡ false → Ok tt ≡ lowest (judged_rows p most f g misfit)
    judged-done z m = sym (rows-judged ∙ simp (e, z, m))

pub ready-within : (F : PrimeField) {m : ℕ} (n : ℕ) {f g : List ℕ} → Ready F m f g → length f ≤ n → length g ≤ n → Ready F n f g
ready-within F n r lf lg =
    record {
      short_f = lf;
      short_g = lg;
      coefficients_f = r.coefficients_f;
      coefficients_g = r.coefficients_g;
      some = r.some;
    }

module _ (F : PrimeField) (most : ℕ) (big : most ≤ F.p) where
  -- what a call knows that refuses nothing
  pub ready : (f g : List ℕ) (misfit : Bool) → lowest (judged_rows F.p most f g misfit) ≡ Ok tt → Ready F most f g × (misfit ≡ false)
  ready f g misfit e =
      let d = or-else-done (lowest (list_refusals F.p most (f ∷ g ∷ []))) _ (sym (rows-judged F.p most f g misfit) ∙ e) in
      let z = refuse-done (eqb (significant f + significant g) 0) _ _ d.1 in
      let m = refuse-done misfit _ _ z.1 in
      let l = two-listed F.p most (positive F) f g d.0 in
      let n = eqb-false (significant f + significant g) 0 z.0 in (
        record {
          short_f = l.0.short;
          short_g = l.1.short;
          coefficients_f = coefficients-listed F big l.0;
          coefficients_g = coefficients-listed F big l.1;
          some = omega arith;
        },
        m.0,
      )

  pub gcd-ready : (f g h : List ℕ) → lowest (gcd_rows F.p most f g h) ≡ Ok tt → Ready F most f g × (length h ≡ most)
  unfolding gcd_rows
  gcd-ready f g h e =
      let r = ready f g (not (eqb (length h) most)) e in
      (r.0, eqb-true (length h) most (not-false _ r.1))

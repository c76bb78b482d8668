-- What each call refuses, as the chain of tests that the code makes, and what a call that refuses nothing knows of its slices.
-- Assumes nothing.
use mathlib.Core.Path.{◌≡◌, sym, ◌∙◌}
use mathlib.Core.Bool.{not}
use mathlib.Core.List.{List, [], ◌∷◌}
use Prim.Native.Nat.{ℕ, ◌-◌, ◌<◌}
use lib.Dec.{eqb}
use lib.ListN.{length}
use borrow.Author.Tests.{eqb-true, not-false, eq-eqb, ne_eqb}
use Rattle.std.specs.Prelude.{Some, None, Result, Ok, Err}
use Rattle.refusal.specs.Refusal.{reply}
use Rattle.refusal.specs.Lowest.{lowest}
use Rattle.refusal.specs.declared.Refusal.{Refusal}
use Rattle.refusal.specs.declared.Refusal.TheVariants.{AllZero, Misfit}
use Rattle.refusal.proofs.First.{refuse, or_else, first_then, refuse-done, or-else-done}
use Rattle.lists.specs.Degrees.{significant, extent, searched}
use Rattle.lists.specs.Refused.{list_refusals}
use Rattle.lists.proofs.Judged.{one-listed}
use Rattle.list_extent.specs.Calls.{extent_reply, searched_reply, extent_values, extent_rows, trim_rows}
use Rattle.list_extent.specs.Internal.{TrimFits}
use Rattle.list_extent.specs.declared.Search.{Search}

module _ (p most : ℕ) (f : List ℕ) where
  -- both replies of an answer are those of the list
  abbrev Answers : Result Search Refusal → Type 0
  Answers r =
      (extent_reply r ≡ reply (lowest (extent_rows p most f)) (extent_values f))
      × (searched_reply r ≡ reply (lowest (extent_rows p most f)) (searched f ∷ []))

  pub extent-refused : {why : Refusal} → lowest (list_refusals p most (f ∷ [])) ≡ Err why → Answers (Err why)
  unfolding extent_rows
  extent-refused e = (simp e, simp e)

  module _ {n r : ℕ} (e : lowest (list_refusals p most (f ∷ [])) ≡ Ok tt) (w : n ≡ significant f) (s : r ≡ searched f) where
    pub extent-zero : n ≡ 0 → Answers (Ok (record { extent = None; read = record { 0 = r } }))
    unfolding extent_rows extent_values
    extent-zero z = (simp (e, eq-eqb (significant f) 0 (sym w ∙ z)), simp (e, s))

    pub extent-found : ¬ (n ≡ 0) → Answers (Ok (record { extent = Some (record { 0 = n - 1 }); read = record { 0 = r } }))
    unfolding extent_rows extent_values extent
    extent-found h = (simp (e, ne_eqb (significant f) 0 (λ z. h (w ∙ z)), w), simp (e, s))

module _ (p most : ℕ) (f out : List ℕ) where
  trim-judged : lowest (trim_rows p most f out)
      ≡ or_else (lowest (list_refusals p most (f ∷ [])))
      (refuse (eqb (significant f) 0) AllZero (refuse (not (eqb (length out) (significant f))) Misfit (Ok tt)))
  unfolding trim_rows list_refusals
  trim-judged = first_then (list_refusals p most (f ∷ [])) _ tt

  pub trim-refused : {why : Refusal} → lowest (list_refusals p most (f ∷ [])) ≡ Err why → Err why ≡ lowest (trim_rows p most f out)
  trim-refused e = sym (trim-judged ∙ simp e)

  module _ (e : lowest (list_refusals p most (f ∷ [])) ≡ Ok tt) where
    pub trim-zero : significant f ≡ 0 → Err AllZero ≡ lowest (trim_rows p most f out)
    trim-zero z = sym (trim-judged ∙ simp (e, eq-eqb (significant f) 0 z))

    pub trim-misfit : ¬ (significant f ≡ 0) → ¬ (length out ≡ significant f) → Err Misfit ≡ lowest (trim_rows p most f out)
    trim-misfit z h = sym (trim-judged ∙ simp (e, ne_eqb (significant f) 0 z, ne_eqb (length out) (significant f) h))

    pub trim-done : ¬ (significant f ≡ 0) → length out ≡ significant f → Ok tt ≡ lowest (trim_rows p most f out)
    trim-done z h = sym (trim-judged ∙ simp (e, ne_eqb (significant f) 0 z, eq-eqb (length out) (significant f) h))

  pub trim-fits : 0 < p → Ok tt ≡ lowest (trim_rows p most f out) → TrimFits most f out
  trim-fits big e =
      let d = or-else-done (lowest (list_refusals p most (f ∷ []))) _ (sym trim-judged ∙ sym e) in
      let z = refuse-done (eqb (significant f) 0) _ _ d.1 in
      let m = refuse-done (not (eqb (length out) (significant f))) _ _ z.1 in
      record {
        short = (one-listed p most big f d.0).short;
        size = eqb-true (length out) (significant f) (not-false _ m.0);
      }

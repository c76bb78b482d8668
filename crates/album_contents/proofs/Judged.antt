-- What the call refuses, as the chain of tests that the code makes.
-- Assumes nothing.
use mathlib.Core.Path.{◌≡◌, sym, ◌∙◌}
use mathlib.Core.Bool.{not}
use mathlib.Core.List.{List, [], ◌∷◌}
use Prim.Native.Nat.{ℕ}
use lib.Dec.{eqb}
use borrow.Author.Tests.{eqb-true, not-false, eq-eqb, ne_eqb}
use Rattle.std.specs.Prelude.{Ok, Err}
use Rattle.refusal.specs.Limits.{max_lists}
use Rattle.refusal.specs.Lowest.{◌given-when◌, lowest}
use Rattle.refusal.specs.declared.Refusal.{Refusal}
use Rattle.refusal.specs.declared.Refusal.TheVariants.{Misfit}
use Rattle.refusal.proofs.First.{refuse, or_else, first_then, refuse-done, or-else-done}
use Rattle.album_layout.specs.Calls.{album_refusals}
use Rattle.album_layout.specs.Internal.{Passed}
use Rattle.album_contents.specs.Calls.{contents_rows}

module _ (p : ℕ) (s : List ℕ) (n : ℕ) where
  fit-judged : lowest (contents_rows p s n) ≡ or_else (lowest (album_refusals p s)) (refuse (not (eqb n max_lists)) Misfit (Ok tt))
  unfolding contents_rows album_refusals
  fit-judged = first_then (album_refusals p s) (Misfit given-when not (eqb n max_lists) ∷ []) tt

  pub fit_refused : {why : Refusal} → lowest (album_refusals p s) ≡ Err why → Err why ≡ lowest (contents_rows p s n)
  fit_refused e = sym (fit-judged ∙ simp e)

  module _ (e : Passed p s) where
    pub fit-misfit : (n ≡ max_lists → ⊥) → Err Misfit ≡ lowest (contents_rows p s n)
    fit-misfit f = sym (fit-judged ∙ simp (e, ne_eqb n max_lists f))

    pub fit-done : n ≡ max_lists → Ok tt ≡ lowest (contents_rows p s n)
    fit-done q = sym (fit-judged ∙ simp (e, eq-eqb n max_lists q))

  -- a call that completes is lent all the records
  pub fit_all : lowest (contents_rows p s n) ≡ Ok tt → n ≡ max_lists
  fit_all e =
      let d = or-else-done (lowest (album_refusals p s)) _ (sym fit-judged ∙ e) in
      eqb-true n max_lists (not-false _ (refuse-done (not (eqb n max_lists)) _ _ d.1).0)

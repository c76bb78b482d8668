-- What reading a list refuses, as the chain of tests that the code makes.
-- Assumes nothing.
use mathlib.Core.Path.{◌≡◌, ◌∙◌}
use mathlib.Core.Bool.{not}
use mathlib.Core.List.{List, [], ◌∷◌}
use Prim.Native.Nat.{ℕ}
use lib.Dec.{eqb}
use lib.ListN.{length}
use borrow.Author.Tests.{eq-eqb, ne_eqb}
use Rattle.std.specs.Prelude.{Ok, Err}
use Rattle.refusal.specs.Lowest.{◌given-when◌, lowest}
use Rattle.refusal.specs.declared.Refusal.{Refusal}
use Rattle.refusal.specs.declared.Refusal.TheVariants.{Misfit}
use Rattle.refusal.proofs.First.{refuse, or_else, first_then}
use Rattle.album_layout.specs.Calls.{check_refusals}
use Rattle.album_reader.specs.Calls.{read_rows}

module _ (p most : ℕ) (s : List ℕ) (i : ℕ) (out : List ℕ) where
  read-judged : lowest (read_rows p most s i out) ≡ or_else (lowest (check_refusals p s i)) (refuse (not (eqb (length out) most)) Misfit (Ok tt))
  unfolding read_rows check_refusals
  read-judged = first_then (check_refusals p s i) (Misfit given-when not (eqb (length out) most) ∷ []) tt

  pub read-refused : {why : Refusal} → lowest (check_refusals p s i) ≡ Err why → lowest (read_rows p most s i out) ≡ Err why
  read-refused e = read-judged ∙ simp e

  module _ (e : lowest (check_refusals p s i) ≡ Ok tt) where
    pub read-misfit : ¬ (length out ≡ most) → lowest (read_rows p most s i out) ≡ Err Misfit
    read-misfit f = read-judged ∙ simp (e, ne_eqb (length out) most f)

    pub read_done : length out ≡ most → lowest (read_rows p most s i out) ≡ Ok tt
    read_done q = read-judged ∙ simp (e, eq-eqb (length out) most q)

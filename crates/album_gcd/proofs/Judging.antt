-- What the call refuses, as the chain of tests that the code makes.
-- Assumes nothing.
use mathlib.Core.Path.{◌≡◌, sym, ◌∙◌}
use mathlib.Core.Bool.{true, false, not}
use mathlib.Core.List.{List}
use Prim.Native.Nat.{ℕ}
use lib.Dec.{eqb}
use lib.ListN.{length}
use borrow.Author.Tests.{eq-eqb, ne_eqb, eqb-true, not-false}
use Rattle.std.specs.Prelude.{Ok, Err}
use Rattle.refusal.specs.Lowest.{lowest}
use Rattle.refusal.specs.declared.Refusal.{Refusal}
use Rattle.refusal.specs.declared.Refusal.TheVariants.{AllZero, Misfit}
use Rattle.refusal.proofs.First.{refuse, or_else, first_then, refuse-done, or-else-done}
use Rattle.album_layout.specs.Layout.{lists_of}
use Rattle.album_layout.specs.Calls.{album_refusals}
use Rattle.album_layout.specs.Internal.{Passed}
use Rattle.album_gcd.specs.Calls.{all_zero, album_gcd_rows}

module _ (p most : ℕ) (s h : List ℕ) where
  rows-judged : lowest (album_gcd_rows p most s h)
      ≡ or_else (lowest (album_refusals p s)) (refuse (all_zero (lists_of s)) AllZero (refuse (not (eqb (length h) most)) Misfit (Ok tt)))
  unfolding album_gcd_rows album_refusals
  rows-judged = first_then (album_refusals p s) _ tt

  pub judged-album : {why : Refusal} → lowest (album_refusals p s) ≡ Err why → Err why ≡ lowest (album_gcd_rows p most s h)
  judged-album e = sym (rows-judged ∙ simp e)

  module _ (e : Passed p s) where
    pub judged-zero : all_zero (lists_of s) ≡ true → Err AllZero ≡ lowest (album_gcd_rows p most s h)
    judged-zero z = sym (rows-judged ∙ simp (e, z))

    pub judged-misfit : all_zero (lists_of s) ≡ false → ¬ (length h ≡ most) → Err Misfit ≡ lowest (album_gcd_rows p most s h)
    judged-misfit z m = sym (rows-judged ∙ simp (e, z, ne_eqb (length h) most m))

    pub judged-done : all_zero (lists_of s) ≡ false → length h ≡ most → Ok tt ≡ lowest (album_gcd_rows p most s h)
    judged-done z m = sym (rows-judged ∙ simp (e, z, eq-eqb (length h) most m))

  -- what a call knows that refuses nothing
  pub judged-fine : lowest (album_gcd_rows p most s h) ≡ Ok tt → Passed p s × (all_zero (lists_of s) ≡ false) × (length h ≡ most)
  judged-fine e =
      let d = or-else-done (lowest (album_refusals p s)) _ (sym rows-judged ∙ e) in
      let z = refuse-done (all_zero (lists_of s)) _ _ d.1 in
      let m = refuse-done (not (eqb (length h) most)) _ _ z.1 in
      (d.0, z.0, eqb-true (length h) most (not-false _ m.0))

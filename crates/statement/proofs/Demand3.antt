-- Demand 3 holds: each line by the theorem that shows it.
--     demand3      over every prime field with more elements than a list has words
--     of-engine    over the field of 65,521 elements
-- Assumes nothing.
use mathlib.Core.Path.{◌≡◌, sym}
use mathlib.Core.List.{List, []}
use Prim.Native.Nat.{ℕ, ◌≤◌, ◌<◌}
use native.Mathlib.Omega.{arith}
use lib.ListN.{get_or}
use Rattle.std.specs.Prelude.{Ok}
use Rattle.algebra.specs.PrimeField.{PrimeField}
use Rattle.field.specs.Fields.{longest, F65521}
use Rattle.field.proofs.Fields.{longest-in}
use Rattle.refusal.specs.Limits.{max_words}
use Rattle.refusal.specs.Lowest.{lowest}
use Rattle.lists.specs.Degrees.{significant}
use Rattle.lists.specs.Lists.{Coefficients}
use Rattle.euclid_theory.proofs.Division.{meaning-at-1}
use Rattle.euclid_theory.proofs.Defined.{gcd-is-the}
use Rattle.euclid_theory.proofs.Greatest.{gcd-is-greatest}
use Rattle.euclid_theory.proofs.Cofactors.{cofactors-are, cofactors-only}
use Rattle.album_theory.proofs.Greatest.{album-is-greatest}
use Rattle.album_theory.proofs.Albums.{meaning-none}
use Rattle.album_theory.proofs.Defined.{album-is-the}
use Rattle.album_layout.specs.Layout.{lists_of}
use Rattle.album_layout.proofs.Passed.{passed-each}
use Rattle.list_division.proofs.Judged.{divide-fits}
use Rattle.list_division.proofs.Answers.{divides-so}
use Rattle.list_gcd.proofs.Ready.{gcd-ready}
use Rattle.list_cofactors.proofs.Slices.{cofactors-ready}
use Rattle.album_gcd.specs.Calls.{album_gcd_rows}
use Rattle.album_gcd.proofs.Judging.{judged-fine}
use Rattle.album_gcd.proofs.Zeros.{nonzero}
use Rattle.album_gcd.proofs.Finish.{each as coefficients-each}
use Rattle.statement.specs.Demand3.{Demand3}

module _ (F : PrimeField) where
  -- an album that is not refused: lists of coefficients, of which list `index` is not zero
  record Ready (lists : List (List ℕ)) : Type 0 where
    each : (i : ℕ) → Coefficients F (get_or lists i [])
    index : ℕ
    some : 0 < significant (get_or lists index [])

  album-ready : max_words ≤ F.p → (s h : List ℕ) → lowest (album_gcd_rows F.p max_words s h) ≡ Ok tt → Ready (lists_of s)
  album-ready wide s h e =
      let j = judged-fine F.p max_words s h e in
      let one = nonzero (lists_of s) j.1 in
      record {
        each = coefficients-each F max_words wide (lists_of s) (passed-each F.p s j.0 max_words (omega arith)) one;
        index = one.index;
        some = one.some;
      }

  pub demand3 : max_words ≤ F.p → Demand3 F
  demand3 wide =
      record {
        of_album =
            λ s h e.
            let a = album-ready wide s h e in
            album-is-greatest F (lists_of s) a.each a.index a.some;
        of_two =
            λ f g h e.
            let r = (gcd-ready F max_words wide f g h e).0 in
            gcd-is-greatest F f g r.coefficients_f r.coefficients_g r.some;
        of_h =
            λ f g h e.
            let r = (gcd-ready F max_words wide f g h e).0 in
            gcd-is-the F f g r.coefficients_f r.coefficients_g r.some;
        of_album_h =
            λ s h e.
            let a = album-ready wide s h e in
            album-is-the F (lists_of s) a.each a.index a.some;
        of_cofactors =
            λ f g h a b e.
            let r = (cofactors-ready F max_words wide f g h a b e).0 in
            record {
              meet = cofactors-are F f g r.coefficients_f r.coefficients_g r.some;
              only = cofactors-only F f g r.coefficients_f r.coefficients_g r.some;
            };
        of_cofactors_h =
            λ f g h a b e.
            let r = (cofactors-ready F max_words wide f g h a b e).0 in
            gcd-is-the F f g r.coefficients_f r.coefficients_g r.some;
        of_value-at-1 = meaning-at-1 F;
        of_division = λ g f q r e. divides-so F g f (divide-fits F max_words wide g f q r (sym e)).divisible;
        of_no_words = meaning-none F;
      }

pub of-engine : Demand3 F65521
unfolding longest
of-engine = demand3 F65521 (longest-in 0)

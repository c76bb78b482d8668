-- The lengths of the result slices, as the code finds them, and the tests of the call's judge.
-- Theorems:
--     few-a, few-b                                      a and b have at most n words where the lists have and n is more than 1
--     words-found                                       their numbers of words from the naive degrees
--     refused-gcd, misfit-a, misfit-b, none-refused     the judge's tests are the rows of the table
--     cofactors-ready                                   what a call knows that refuses nothing
-- Assumes nothing.
use mathlib.Core.Path.{◌≡◌, sym, ◌∙◌, ap}
use mathlib.Core.Bool.{not}
use mathlib.Core.List.{List}
use Prim.Native.Nat.{ℕ, suc, ◌+◌, ◌-◌, ◌≤◌, ◌<◌, max}
use native.Mathlib.Omega.{arith}
use lib.Dec.{eqb}
use lib.ListN.{length}
use borrow.Author.Tests.{eqb-true, eq-eqb, ne_eqb, not-false}
use Rattle.std.specs.Prelude.{Ok, Err}
use Rattle.algebra.specs.PrimeField.{PrimeField}
use Rattle.refusal.specs.Lowest.{lowest}
use Rattle.refusal.specs.declared.Refusal.{Refusal}
use Rattle.refusal.specs.declared.Refusal.TheVariants.{Misfit}
use Rattle.refusal.proofs.First.{refuse, or_else, first_then, refuse-done, or-else-done}
use Rattle.lists.specs.Degrees.{naive_degree}
use Rattle.lists.specs.Refused.{list_refusals}
use Rattle.euclid_theory.specs.Gcd.{identity_degree}
use Rattle.list_gcd.specs.Calls.{gcd_rows}
use Rattle.list_gcd.specs.Internal.{Ready}
use Rattle.list_gcd.proofs.Ready.{gcd-ready}
use Rattle.list_cofactors.specs.Calls.{cofactor_rows}
use Rattle.list_cofactors.specs.Internal.{Slices}

identity-comm : (f g : List ℕ) → identity_degree f g ≡ identity_degree g f
unfolding identity_degree
identity-comm f g = omega arith

-- m - d + 1 and m - e + 1 are at most n
few_words : (d e n : ℕ) → e < n → 1 < n → suc (max d 1 + max e 1 - 1 - d) ≤ n
few_words d e n l h = omega arith

naive-few : (c : List ℕ) (n : ℕ) → length c ≤ n → 1 < n → naive_degree c < n
unfolding naive_degree
naive-few c n l h = omega arith

pub few-a : (f g : List ℕ) (n : ℕ) → length g ≤ n → 1 < n → suc (identity_degree f g - naive_degree f) ≤ n
unfolding identity_degree
few-a f g n l h = few_words (naive_degree f) (naive_degree g) n (naive-few g n l h) h

pub few-b : (f g : List ℕ) (n : ℕ) → length f ≤ n → 1 < n → suc (identity_degree f g - naive_degree g) ≤ n
few-b f g n l h = rw (identity-comm f g) (few-a g f n l h)

-- the same as the code finds it
pub words-found : (f g : List ℕ) {d e r : ℕ} → d ≡ naive_degree f → e ≡ naive_degree g → r ≡ max d 1 + max e 1 - d → r ≡ suc (identity_degree f g - naive_degree f)
unfolding identity_degree
words-found f g ed ee er = omega arith

-- the tests of the judge, one after the other
module _ (p most : ℕ) (f g h a b : List ℕ) where
  rows-judged : lowest (cofactor_rows p most f g h a b)
      ≡ or_else (lowest (gcd_rows p most f g h))
      (refuse (not (eqb (length a) (suc (identity_degree f g - naive_degree f)))) Misfit
      (refuse (not (eqb (length b) (suc (identity_degree f g - naive_degree g)))) Misfit (Ok tt)))
  unfolding cofactor_rows gcd_rows list_refusals
  rows-judged = first_then (gcd_rows p most f g h) _ tt

  pub refused-gcd : {why : Refusal} → lowest (gcd_rows p most f g h) ≡ Err why → Err why ≡ lowest (cofactor_rows p most f g h a b)
  refused-gcd e = sym (rows-judged ∙ simp e)

  -- na and nb as the code finds them
  module _ {na : ℕ} (e : lowest (gcd_rows p most f g h) ≡ Ok tt) (ea : na ≡ suc (identity_degree f g - naive_degree f)) where
    pub misfit-a : ¬ (length a ≡ na) → Err Misfit ≡ lowest (cofactor_rows p most f g h a b)
    misfit-a w = sym (rows-judged ∙ simp (e, ne_eqb (length a) (suc (identity_degree f g - naive_degree f)) (λ i. w (i ∙ sym ea))))

    module _ {nb : ℕ} (fa : length a ≡ na) (eb : nb ≡ suc (identity_degree g f - naive_degree g)) where
      size_b : nb ≡ suc (identity_degree f g - naive_degree g)
      size_b = eb ∙ ap (λ m. suc (m - naive_degree g)) (identity-comm g f)

      pub misfit-b : ¬ (length b ≡ nb) → Err Misfit ≡ lowest (cofactor_rows p most f g h a b)
      misfit-b w =
          sym
          (rows-judged
          ∙ simp (
            e,
            eq-eqb (length a) (suc (identity_degree f g - naive_degree f)) (fa ∙ ea),
            ne_eqb (length b) (suc (identity_degree f g - naive_degree g)) (λ i. w (i ∙ sym size_b)),
          ))

      pub none-refused : length b ≡ nb → Ok tt ≡ lowest (cofactor_rows p most f g h a b)
      none-refused fb =
          sym
          (rows-judged
          ∙ simp (
            e,
            eq-eqb (length a) (suc (identity_degree f g - naive_degree f)) (fa ∙ ea),
            eq-eqb (length b) (suc (identity_degree f g - naive_degree g)) (fb ∙ size_b),
          ))

-- what a call knows that refuses nothing
pub cofactors-ready : (F : PrimeField) (most : ℕ) → most ≤ F.p → (f g h a b : List ℕ) → lowest (cofactor_rows F.p most f g h a b) ≡ Ok tt
    → Ready F most f g × Slices most f g h a b
cofactors-ready F most big f g h a b e =
    let tests = or-else-done (lowest (gcd_rows F.p most f g h)) _ (sym (rows-judged F.p most f g h a b) ∙ e) in
    let of-a = refuse-done (not (eqb (length a) (suc (identity_degree f g - naive_degree f)))) _ _ tests.1 in
    let of-b = refuse-done (not (eqb (length b) (suc (identity_degree f g - naive_degree g)))) _ _ of-a.1 in
    let of-gcd = gcd-ready F most big f g h tests.0 in (
      of-gcd.0,
      record {
        size_h = of-gcd.1;
        size_a = eqb-true _ _ (not-false _ of-a.0);
        size_b = eqb-true _ _ (not-false _ of-b.0);
      },
    )

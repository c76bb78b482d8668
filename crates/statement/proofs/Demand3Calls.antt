-- What a call's own contract says implies what demand 3 says of what it hands out.
-- Assumes nothing.
use mathlib.Core.Path.{◌≡◌, sym, ◌∙◌, ap}
use mathlib.Core.List.{List, [], ◌∷◌}
use Prim.Native.Nat.{ℕ, suc, ◌+◌, ◌-◌, ◌≤◌, ◌<◌, max}
use native.Mathlib.Omega.{arith}
use lib.ListN.{length, get_or, take}
use lib.Seq.{take_at}
use Rattle.algebra.specs.OneMinusT.{⟨1-t⟩^}
use Rattle.algebra.specs.PrimeField.{PrimeField}
use Rattle.refusal.specs.Limits.{max_words}
use Rattle.refusal.specs.Refusal.{Reply, written}
use Rattle.refusal.specs.Lowest.{lowest}
use Rattle.field.specs.Fields.{p, longest, F65521, field_at}
use Rattle.field.proofs.Fields.{longest-in}
use Rattle.lists.specs.Degrees.{naive_degree, significant}
use Rattle.lists.specs.Lists.{Coefficients, meaning}
use Rattle.euclid_theory.specs.Gcd.{identity_degree, gcd_of, cofactor_a, cofactor_b}
use Rattle.lists.specs.Padded.{padded}
use Rattle.euclid_theory.proofs.Gcd.{length-gcd}
use Rattle.euclid_theory.specs.Cofactors.{AreCofactors}
use Rattle.euclid_theory.proofs.CofactorForms.{identity-left, identity-right, identity-within}
use Rattle.euclid_theory.proofs.Cofactors.{cofactors-are, cofactors-only}
use Rattle.list_gcd.specs.Calls.{gcd_values}
use Rattle.list_cofactors.specs.Calls.{cofactor_rows, cofactor_answer, cofactor_gcd, cofactors_written_a, cofactors_written_b}
use Rattle.list_cofactors.proofs.Slices.{cofactors-ready}
use Rattle.refusal.proofs.Answers.{done-reply}
use Rattle.statement.specs.Demand3Calls.{Meet, Fixed, CofactorsOf}

-- a list has no more words than the field has elements
room : max_words ≤ F65521.p
unfolding longest
room = longest-in 0

module _ (F : PrimeField) (f g : List ℕ) where
  open F.series.ring use {mul as ◌*ˢ◌}

  infixl 70 ◌*ˢ◌
  m-sum : suc (identity_degree f g) ≡ max (naive_degree f) 1 + max (naive_degree g) 1
  unfolding identity_degree
  m-sum = omega arith

  m-only : (m : ℕ) → suc m ≡ max (naive_degree f) 1 + max (naive_degree g) 1 → m ≡ identity_degree f g
  m-only m e = omega (arith, m-sum)

  abbrev h : List ℕ
  h = gcd_of F f g

  abbrev w : ℕ
  w = naive_degree (gcd_of F f g)

  -- the same conditions with sums in place of differences
  met : {a b : List ℕ} → length h ≡ suc w → w ≤ identity_degree f g → AreCofactors F f g a b → Meet F f g h w a b
  met n l k =
      record {
        coefficients_a = k.coefficients_a;
        coefficients_b = k.coefficients_b;
        m = identity_degree f g;
        m_is = m-sum;
        words_a = omega (arith, k.length_a, identity-left f g);
        words_b = omega (arith, k.length_b, identity-right f g);
        words_h = n;
        power = identity_degree f g - w;
        power-is = omega arith;
        identity = k.identity;
        a_zero = k.a_zero;
        b_zero = k.b_zero;
        b_small = λ i j. omega (arith, k.b_small i j);
      }

  unmet : {a b : List ℕ} → Meet F f g h w a b → AreCofactors F f g a b
  unmet k =
      let m = m-only k.m k.m_is in
      let power : k.power ≡ identity_degree f g - w = omega (arith, k.power-is) in
      record {
        coefficients_a = k.coefficients_a;
        coefficients_b = k.coefficients_b;
        length_a = omega (arith, k.words_a, identity-left f g);
        length_b = omega (arith, k.words_b, identity-right f g);
        identity = k.identity ∙ ap (λ n. ⟨1-t⟩^ F.series n *ˢ meaning F h) power;
        a_zero = k.a_zero;
        b_zero = k.b_zero;
        b_small = λ i j. omega (arith, k.b_small i j);
      }

  fixed : Coefficients F f → Coefficients F g → 0 < significant f + significant g → Fixed F f g h w (cofactor_a F f g) (cofactor_b F f g)
  fixed cf cg some =
      record {
        meet = met (length-gcd F f g cf cg some) (identity-within F f g cf cg some) (cofactors-are F f g cf cg some);
        only = λ a b k. cofactors-only F f g cf cg some a b (unmet k);
      }

  -- of the words in a slice
  in-slice : (slice : List ℕ) {a b : List ℕ} {n : ℕ} → n ≡ w → take (suc w) slice ≡ h → a ≡ cofactor_a F f g → b ≡ cofactor_b F f g
      → Fixed F f g h w (cofactor_a F f g) (cofactor_b F f g) → Fixed F f g (take (suc n) slice) n a b
  in-slice slice en eh ea eb k = rw (en, eh, ea, eb) k

pub cofactors-of : (f g old-h old-a old-b : List ℕ) {h a b : List ℕ} {r : Reply} → r ≡ cofactor_answer 0 f g old-h old-a old-b
    → h ≡ cofactor_gcd 0 f g old-h old-a old-b → a ≡ cofactors_written_a 0 f g old-h old-a old-b → b ≡ cofactors_written_b 0 f g old-h old-a old-b
    → CofactorsOf F65521 f g h a b r
unfolding field_at longest gcd_values padded
cofactors-of f g old-h old-a old-b {h} e eh ea eb w c rounds q =
    let told = done-reply (lowest (cofactor_rows p max_words f g old-h old-a old-b)) (w ∷ c ∷ rounds ∷ []) (gcd_values F65521 f g) (sym q ∙ e) in
    let ready = (cofactors-ready F65521 max_words room f g old-h old-a old-b told.0).0 in
    let words = length-gcd F65521 f g ready.coefficients_f ready.coefficients_g ready.some in
    in-slice F65521 f g h (ap (λ l. get_or l 0 0) told.1)
    (ap (take (suc (naive_degree (gcd_of F65521 f g)))) (eh ∙ ap (λ o. written o (padded max_words (gcd_of F65521 f g)) old-h) told.0) ∙ take_at (gcd_of F65521 f g) _ _ words)
    (ea ∙ ap (λ o. written o (cofactor_a F65521 f g) old-a) told.0)
    (eb ∙ ap (λ o. written o (cofactor_b F65521 f g) old-b) told.0)
    (fixed F65521 f g ready.coefficients_f ready.coefficients_g ready.some)

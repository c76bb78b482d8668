-- Demand 2 holds: each line by the theorem that shows it.
--     demand2      over every prime field with more elements than a list has words
--     of-engine    over the field of 65,521 elements
-- Assumes nothing.
use mathlib.Core.Path.{◌≡◌, sym, ◌∙◌, ap}
use mathlib.Core.List.{List, [], ◌∷◌}
use Prim.Native.Nat.{ℕ, suc, ◌+◌, ◌≤◌, ◌<◌, max}
use native.Mathlib.Nat.{le_of_lt, add_comm}
use native.Mathlib.Omega.{arith}
use lib.Dec.{eqb}
use lib.ListN.{length}
use borrow.Author.Tests.{eqb-false}
use Rattle.std.specs.Prelude.{Ok}
use Rattle.algebra.specs.Evaluation.{ValueAt, eval}
use Rattle.algebra.proofs.Evaluation.{eval-more}
use Rattle.algebra.specs.PrimeField.{PrimeField, positive, scalars, residue, value}
use Rattle.algebra.proofs.PrimeField.{value-residue}
use Rattle.field.specs.Fields.{longest, F65521}
use Rattle.field.proofs.Fields.{longest-in}
use Rattle.refusal.specs.Limits.{max_words}
use Rattle.refusal.specs.Lowest.{lowest}
use Rattle.refusal.proofs.First.{first_then, refuse-done, or-else-done}
use Rattle.field.proofs.Field.{residue-sum, residue-difference, residue-product, sum_lt, difference-lt, product_lt, inverse-is}
use Rattle.lists.proofs.Bytes.{words-of-bytes, bytes-words}
use Rattle.lists.specs.Degrees.{naive_degree, significant}
use Rattle.lists.specs.Refused.{list_refusals}
use Rattle.lists.specs.Lists.{Coefficients, meaning}
use Rattle.lists.specs.Operations.{product, raise, larger_degree, sum_of, difference_of, trim, evaluate}
use Rattle.lists.proofs.Scaled.{length-naive, coefficients-listed}
use Rattle.lists.proofs.Unscaled.{scaled-injective, meaning-injective}
use Rattle.lists.proofs.Products.{length-product, coefficients-product, product-meaning}
use Rattle.lists.proofs.Raises.{length-raise, coefficients-raise, raise-meaning}
use Rattle.lists.proofs.Sums.{length-sum, coefficients-sum, sum-meaning, length-difference, coefficients-difference, difference-meaning}
use Rattle.lists.proofs.Extents.{extent-largest, after-significant}
use Rattle.lists.proofs.Trims.{length-trim, coefficients-trim, trim-scaled}
use Rattle.lists.proofs.Calculus.{coefficients-derivative, derivative-meaning, evaluate-lt, evaluate-meaning}
use Rattle.lists.proofs.Judged.{one-listed}
use Rattle.list_product.specs.Calls.{product_rows, raise_rows}
use Rattle.list_product.proofs.Judged.{product-fits, raise-fits}
use Rattle.list_sum.specs.Calls.{sum_rows}
use Rattle.list_sum.proofs.Judged.{sum_fits}
use Rattle.list_extent.specs.Calls.{trim_rows}
use Rattle.list_derivative.specs.Calls.{derivative_rows}
use Rattle.list_derivative.proofs.Derived.{derivative-length}
use Rattle.ordinary_theory.proofs.Ordinary.{ordinary-so}
use Rattle.list_ordinary_division.proofs.Judged.{ordinary-fits}
use Rattle.album_layout.proofs.Written.{album-read, album-obeys, album-is-bytes}
use Rattle.album_layout.proofs.Whole.{album-whole}
use Rattle.statement.proofs.Demand3.{demand3}
use Rattle.statement.specs.Demand2.{Demand2}
use Rattle.statement.specs.Meant.{TheWord, TheValue, TheList, TheTrim}
use Rattle.statement.proofs.Contained.{contained}

module _ (F : PrimeField) where
  open scalars F use {Carrier as K}
  open F.series.ring use {Carrier as S, neg as -ˢ◌, add as ◌+ˢ◌, mul as ◌*ˢ◌}

  infixl 65 ◌+ˢ◌
  infixl 70 ◌*ˢ◌
  infix 80 -ˢ◌
  -- two words below p that stand for one element of the field
  same_word : (v w : ℕ) → v < F.p → w < F.p → residue F v ≡ residue F w → v ≡ w
  same_word v w l m e = sym (value-residue F v l) ∙ ap (value F) e ∙ value-residue F w m

  the_word : {x : K} {w : ℕ} → w < F.p → residue F w ≡ x → TheWord F x w
  the_word {x} {w} l e = record { below = l; is = e; only = λ v m q. same_word v w m l (q ∙ sym e) }

  -- a polynomial has one value at a point
  one_value : (x : K) {s : S} {u v : K} → ValueAt F.series x s u → ValueAt F.series x s v → u ≡ v
  one_value x {s} h k =
      sym h.is ∙ sym (eval-more F.series x h.bound k.bound h.below)
      ∙ ap (λ n. eval F.series x n s) (add_comm h.bound k.bound) ∙ eval-more F.series x k.bound h.bound k.below
      ∙ k.is

  the_value : (f : List ℕ) (x : ℕ) → TheValue F f x (evaluate F f x)
  the_value f x =
      let l = evaluate-lt F f x in
      let e = evaluate-meaning F f x in
      record { below = l; is = e; only = λ v m h. same_word v _ m l (one_value (residue F x) h e) }

  module _ (wide : max_words ≤ F.p) where
    the-list : (n : ℕ) (s : S) (c : List ℕ) → length c ≡ n → Coefficients F c → meaning F c ≡ s → TheList F n s c
    the-list n s c e g m =
        record { coefficients = g; words = e; means = m; only = λ d h l q. meaning-injective F d c h g (l ∙ sym e) (q ∙ sym m) }

    product_is : (f g out : List ℕ) → lowest (product_rows F.p max_words f g out) ≡ Ok tt
        → TheList F (suc (naive_degree f + naive_degree g)) (meaning F f *ˢ meaning F g) (product F f g)
    product_is f g out e =
        the-list _ _ _ (length-product F f g) (coefficients-product F f g small) (product-meaning F f g small)
      where
        small : naive_degree f + naive_degree g < F.p
        small =
            let h = product-fits F.p max_words (positive F) f g out (sym e) in
            let a = length-naive f h.first in
            let b = length-naive g h.second in
            omega arith

    raise-is : (f : List ℕ) (n : ℕ) (out : List ℕ) → lowest (raise_rows F.p max_words f n out) ≡ Ok tt → TheList F (suc n) (meaning F f) (raise F n f)
    unfolding naive_degree
    raise-is f n out e =
        let h = raise-fits F.p max_words (positive F) f n out (sym e) in
        let room = h.0.room in
        let short = h.0.short in
        let some = h.0.list.some in
        let target = h.1 in
        the-list _ _ _ (length-raise F n f) (coefficients-raise F n f (omega arith)) (raise-meaning F n f (omega arith) (omega arith))

    larger-small : (f g out : List ℕ) → lowest (sum_rows F.p max_words f g out) ≡ Ok tt → larger_degree F f g < F.p
    unfolding larger_degree
    larger-small f g out e =
        let h = sum_fits F.p max_words (positive F) f g out (sym e) in
        let a = length-naive f h.first.some in
        let b = length-naive g h.second.some in
        let c = h.first.short in
        let d = h.second.short in
        omega arith

    sum_is : (f g out : List ℕ) → lowest (sum_rows F.p max_words f g out) ≡ Ok tt
        → TheList F (suc (max (naive_degree f) (naive_degree g))) (meaning F f +ˢ meaning F g) (sum_of F f g)
    unfolding larger_degree
    sum_is f g out e =
        let l = larger-small f g out e in
        the-list _ _ _ (length-sum F f g) (coefficients-sum F f g l) (sum-meaning F f g l)

    difference-is : (f g out : List ℕ) → lowest (sum_rows F.p max_words f g out) ≡ Ok tt
        → TheList F (suc (max (naive_degree f) (naive_degree g))) (meaning F f +ˢ -ˢ meaning F g) (difference_of F f g)
    unfolding larger_degree
    difference-is f g out e =
        let l = larger-small f g out e in
        the-list _ _ _ (length-difference F f g) (coefficients-difference F f g l) (difference-meaning F f g l)

    trim-is : (f out : List ℕ) → lowest (trim_rows F.p max_words f out) ≡ Ok tt → TheTrim F f (trim F f)
    unfolding trim_rows list_refusals
    trim-is f out e =
        let d = or-else-done _ _ (sym (first_then (list_refusals F.p max_words (f ∷ [])) _ tt) ∙ e) in
        let z = eqb-false (significant f) 0 (refuse-done (eqb (significant f) 0) _ _ d.1).0 in
        let h = coefficients-listed F wide (one-listed F.p max_words (positive F) f d.0) in
        let g = coefficients-trim F f h in
        let n = length-trim F f (omega arith) in
        let same = trim-scaled F f h in
        record { coefficients = g; words = n; same = same; only = λ c i l q. scaled-injective F c (trim F f) i g (l ∙ sym n) (q ∙ sym same) }

    -- the list that a derivative is handed
    derivative-listed : (f out : List ℕ) → lowest (derivative_rows F.p max_words f out) ≡ Ok tt → Coefficients F f
    unfolding derivative_rows list_refusals
    derivative-listed f out e =
        coefficients-listed F wide
        (one-listed F.p max_words (positive F) f (or-else-done _ _ (sym (first_then (list_refusals F.p max_words (f ∷ [])) _ tt) ∙ e)).0)

  pub demand2 : max_words ≤ F.p → Demand2 F
  demand2 wide =
      record {
        of_coefficients =
            λ a b l m. (
              the_word (sum_lt F a b) (residue-sum F a b),
              the_word (difference-lt F a b) (residue-difference F a b (le_of_lt m)),
              the_word (product_lt F a b) (residue-product F a b),
            );
        of_inverse = inverse-is F;
        of_product = product_is wide;
        of_raise = raise-is wide;
        of_sum = sum_is wide;
        of_difference = difference-is wide;
        of_extent = λ f l. let e = extent-largest f l in record { nonzero = e.0; last = e.1 };
        of_zero = λ f e k. after-significant f k (omega arith);
        of_trim = trim-is wide;
        of_derivative =
            λ f out e.
            the-list wide _ _ _ (derivative-length F f) (coefficients-derivative F f (derivative-listed wide f out e)) (derivative-meaning F f);
        of_value = the_value;
        of_division = (demand3 F wide).of_division;
        of_ordinary_division = λ g f q r e. ordinary-so F g f (ordinary-fits F max_words wide g f q r (sym e)).dividable;
        of_reading =
            λ s bytes counted laid tight. (album-whole s bytes counted laid, contained F s bytes counted laid tight);
        of_albums = λ lists w. (album-is-bytes lists w, (album-obeys lists w).0, (album-obeys lists w).1, album-read lists w);
        of_bytes = λ c h. (bytes-words c h, words-of-bytes c);
      }

pub of-engine : Demand2 F65521
unfolding longest
of-engine = demand2 F65521 (longest-in 0)

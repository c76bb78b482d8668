-- Division by scaled forms: what the kernels and the reduction leave in the slices is the quotient and the remainder of the lists.
-- Assumes nothing.
use mathlib.Core.Path.{◌≡◌, sym, ◌∙◌, ap, ap₂}
use mathlib.Core.Bool.{cond}
use mathlib.Core.List.{List}
use Prim.Native.Nat.{ℕ, suc, ◌+◌, ◌-◌, ◌≤◌, ◌<◌}
use native.Mathlib.Nat.{pos_of_ne-zero}
use native.Mathlib.Omega.{arith}
use lib.ListN.{length, get_or}
use Rattle.algebra.specs.PrimeField.{PrimeField, scalar_field, residue, inverse}
use Rattle.algebra.specs.Division.{quotient, remainder}
use Rattle.field.specs.Field.{inverse_of, inverse_or_zero}
use Rattle.field.proofs.Field.{residue-inverse}
use Rattle.field_inverse.proofs.OrZero.{inverse-some}
use Rattle.lists.specs.Degrees.{naive_degree}
use Rattle.lists.specs.Lists.{word, scaled, unscaled}
use Rattle.lists.proofs.Scaled.{length-naive, coefficient-last, coeff-scaled}
use Rattle.lists.proofs.Words.{scaled_words, length-scaled_words, Carries, carries-scaled, series_of-carries}
use Rattle.field_tables.specs.Factorials.{Tables}
use Rattle.word_scaling.specs.Scaling.{weigh_fits, weighted}
use Rattle.word_scaling.proofs.Weights.{scale-is, unscale-is}
use Rattle.word_division.specs.Reduction.{reduced, digits, reduce_fits}
use Rattle.word_division.proofs.Steps.{reduced-remainder, digits-quotient, length-reduced, length_digits}
use Rattle.word_division.proofs.Loops.{reduce-fits}
use Rattle.euclid_theory.specs.Division.{steps, quotient_of, remainder_of}
use Rattle.list_division.specs.Internal.{DivideFits}

module _ (F : PrimeField) where
  -- the inverse of the divisor's last word is that of its scaled form's last coefficient
  top-inverse : (f : List ℕ) {inv : ℕ} → inv ≡ inverse_of F (get_or f (naive_degree f) 0)
      → residue F inv ≡ (scalar_field F).inv (F.series.coeff (scaled F f) (naive_degree f))
  unfolding word inverse
  top-inverse f e =
      ap (residue F) e
      ∙ residue-inverse F (get_or f (naive_degree f) 0)
      ∙ ap (scalar_field F).inv (sym (coeff-scaled F f (naive_degree f) ∙ coefficient-last F f))

  -- the divisor's last word has an inverse
  pub last-inverse : {most : ℕ} {g f q r : List ℕ} → DivideFits F most g f q r
      → inverse_or_zero F (get_or f (length f - 1) 0) ≡ inverse_of F (get_or f (length f - 1) 0)
  unfolding naive_degree
  last-inverse {f = f} fits =
      inverse-some F (get_or f (length f - 1) 0) (pos_of_ne-zero fits.divisible.end) (fits.divisible.divisor.below (length f - 1))

  module _ {p : ℕ} (is : F.p ≡ p) (most : ℕ) (wide : most ≤ F.p) (whole part : List ℕ) (tables : Tables F most whole part) where
    -- the scaled forms of g and f in x and y, their quotient in k and their remainder in x, and back into q and r
    module _ (g f x y k q r : List ℕ) (fits : DivideFits F most g f q r)
        (lx : length x ≡ length g) (ly : length y ≡ length f) (lk : length k ≡ length q)
        {x' y' : List ℕ} {inv : ℕ} (top : inv ≡ inverse_of F (get_or f (length f - 1) 0))
        (qx : x' ≡ cond (weigh_fits g whole part x) (weighted p whole part (length x) g) x)
        (qy : y' ≡ cond (weigh_fits f whole part y) (weighted p whole part (length y) f) y) where
      ex : x' ≡ scaled_words F g
      ex = scale-is F is most wide whole part tables g x lx fits.short qx

      ey : y' ≡ scaled_words F f
      ey = let o = fits.divisible.order in let s = fits.short in scale-is F is most wide whole part tables f y ly (omega arith) qy

      nx : length x' ≡ length g
      nx = ap length ex ∙ length-scaled_words F g

      ny : length y' ≡ length f
      ny = ap length ey ∙ length-scaled_words F f

      some : 0 < length y'
      some = let s = fits.divisible.some in omega (arith, ny)

      sizes : length x' + 1 ≡ length y' + length k
      sizes = let s = fits.quotient-words in omega (arith, nx, ny)

      cx : Carries F x' (scaled F g)
      cx = rw ex (carries-scaled F g)

      cy : Carries F y' (scaled F f)
      cy = rw ey (carries-scaled F f)

      degree : length y' ≡ suc (naive_degree f)
      degree = ny ∙ length-naive f fits.divisible.some

      enough : naive_degree f + length k ≤ length x'
      enough = omega (arith, degree, sizes)

      count : length k ≡ steps g f
      unfolding steps naive_degree
      count = let s = fits.divisible.some in let o = fits.divisible.order in let w = fits.quotient-words in omega arith

      above : residue F inv ≡ (scalar_field F).inv (F.series.coeff (scaled F f) (naive_degree f))
      unfolding naive_degree
      above = top-inverse f top

      module _ {k' : List ℕ} (qk : k' ≡ cond (reduce_fits x' y' k) (digits p inv y' (length k) x') k) where
        ek : k' ≡ digits F.p inv y' (length k) x'
        ek = qk ∙ rw (reduce-fits x' y' k some sizes, is)

        ck : Carries F k' (quotient F.series (scalar_field F) (length k) (naive_degree f) (scaled F g) (scaled F f))
        ck = rw ek (digits-quotient F inv (naive_degree f) cy degree above (length k) cx enough)

        nk : length k' ≡ length k
        nk = ap length ek ∙ length_digits F.p inv y' (length k) x'

        pub quotient_is : {q' : List ℕ} → q' ≡ cond (weigh_fits k' part whole q) (weighted p part whole (length q) k') q → q' ≡ quotient_of F g f
        unfolding quotient_of
        quotient_is qq =
            let s = fits.divisible.some in
            let w = fits.quotient-words in
            let t = fits.short in
            unscale-is F is most wide whole part tables k' q (omega (arith, nk)) (omega arith) qq
            ∙ ap₂ (unscaled F) (sym lk) (series_of-carries F ck)
            ∙ ap (λ n. unscaled F n (quotient F.series (scalar_field F) n (naive_degree f) (scaled F g) (scaled F f))) count

      module _ {x'' : List ℕ} (qx'' : x'' ≡ cond (reduce_fits x' y' k) (reduced p inv y' (length k) x') x') where
        el : x'' ≡ reduced F.p inv y' (length k) x'
        el = qx'' ∙ rw (reduce-fits x' y' k some sizes, is)

        cl : Carries F x'' (remainder F.series (scalar_field F) (length k) (naive_degree f) (scaled F g) (scaled F f))
        cl = rw el (reduced-remainder F inv (naive_degree f) cy degree above (length k) cx enough)

        nl : length x'' ≡ length x'
        nl = ap length el ∙ length-reduced F.p inv y' (length k) x'

        words : length r ≡ naive_degree f
        unfolding naive_degree
        words = let w = fits.remainder-words in omega arith

        pub remainder_is : {r' : List ℕ} → r' ≡ cond (weigh_fits x'' part whole r) (weighted p part whole (length r) x'') r → r' ≡ remainder_of F g f
        unfolding remainder_of
        remainder_is qr =
            let o = fits.divisible.order in
            let w = fits.remainder-words in
            let t = fits.short in
            unscale-is F is most wide whole part tables x'' r (omega (arith, nl, nx)) (omega arith) qr
            ∙ ap₂ (unscaled F) words (series_of-carries F cl)
            ∙ ap (λ n. unscaled F (naive_degree f) (remainder F.series (scalar_field F) n (naive_degree f) (scaled F g) (scaled F f))) count

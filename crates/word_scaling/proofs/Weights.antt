-- Binomial coefficients by factorials, and the words that the factorials make of a list and of a scaled form.
--     factorial-quotient       n! / (k! (n-k)!) = C(n,k)
--     inverse-quotient         its inverse
--     unscaled-is              the words of a scaled form, weighed, are the list that has it
--     scale-is, unscale-is     what is written where the lengths fit
--     partly-scaled            what `weigh_partly` writes, times (n-1)! and 2^32: the scaled form of a list of n words
-- Assumes nothing.
use Rattle.std.proofs.Common.{◌≡◌, ℕ, ◌+◌, ◌-◌, ◌*◌, ◌%◌, ◌<◌, ◌≤◌, true, cond, List, length, get_or, sym, refl, ap, ◌∙◌, mod-lt, arith, le-leb}
use Rattle.algebra.specs.RingLaws as R
use Rattle.algebra.specs.RingLaws.{Ac, RING}
use Rattle.algebra.proofs.Ring.{mul_left_cancel}
use Rattle.algebra.specs.Choose.{choose}
use Rattle.algebra.specs.PrimeField.{PrimeField, scalars, scalar_field, positive, residue, value, inverse}
use Rattle.algebra.proofs.PrimeField.{residue-mul, residue-mul-mod, inverse-cancel'}
use Rattle.lists.specs.Degrees.{naive_degree}
use Rattle.lists.proofs.Tabulate.{length-tabulate, get_or-tabulate, tabulate-ext}
use Rattle.lists.specs.Lists.{word, binomial, scaled_coefficient, unscaled}
use Rattle.lists.proofs.Scaled.{binomial-nonzero}
use Rattle.lists.specs.Words.{series_of}
use Rattle.lists.proofs.Words.{coeff-series_of, scaled_words, value-is}
use Rattle.field_tables.specs.Factorials.{factorial, factorial_in, inverse_factorial_in, Tables}
use Rattle.field_tables.proofs.FactorialLaws.{choose-factorials, factorial-nonzero}
use Rattle.word_scaling.specs.Scaling.{weighted_at, weighted, weigh_fits, partly, partly_weighted}
use Rattle.word_scaling.proofs.Products.{Constants, product-of-three}

module _ (F : PrimeField) where
  open scalars F use {Carrier as K, zero as 𝟘, one as 𝟙, mul as ◌⊗◌}

  infixl 70 ◌⊗◌
  -- C(n,k) · k! · (n-k)! = n!, and both quotients of it
  binomial-factorials : (n k : ℕ) → k ≤ n → binomial F n k ⊗ factorial_in F k ⊗ factorial_in F (n - k) ≡ factorial_in F n
  unfolding binomial factorial_in
  binomial-factorials n k l =
      let e : k + (n - k) ≡ n = omega arith in
      ap (λ x. x ⊗ residue F (factorial (n - k))) (sym (residue-mul F (choose n k) (factorial k)))
      ∙ sym (residue-mul F (choose n k * factorial k) (factorial (n - k)))
      ∙ ap (residue F) (rw e at (choose-factorials k (n - k)))

  module _ (n k : ℕ) (l : k ≤ n) (h : n < F.p) where
    pub factorial-quotient : factorial_in F n ⊗ inverse_factorial_in F k ⊗ inverse_factorial_in F (n - k) ≡ binomial F n k
    unfolding inverse_factorial_in
    factorial-quotient =
        ap (λ x. x ⊗ inverse F (factorial_in F k) ⊗ inverse F (factorial_in F (n - k))) (sym (binomial-factorials n k l))
        ∙ regroup (binomial F n k) (factorial_in F k) (factorial_in F (n - k)) (inverse F (factorial_in F k)) (inverse F (factorial_in F (n - k)))
        ∙ inverse-cancel' F _ (factorial_in F (n - k)) (factorial-nonzero F (n - k) (omega arith))
        ∙ inverse-cancel' F (binomial F n k) (factorial_in F k) (factorial-nonzero F k (omega arith))
      where
        regroup : (a b c d e : K) → a ⊗ b ⊗ c ⊗ d ⊗ e ≡ a ⊗ b ⊗ d ⊗ c ⊗ e
        regroup a b c d e = simp Ac

    pub inverse-quotient : inverse_factorial_in F n ⊗ factorial_in F k ⊗ factorial_in F (n - k) ≡ inverse F (binomial F n k)
    unfolding inverse_factorial_in
    inverse-quotient =
        mul_left_cancel (scalars F) (scalar_field F) (binomial F n k) _ _ some
        (regroup (binomial F n k) (inverse F (factorial_in F n)) (factorial_in F k) (factorial_in F (n - k))
        ∙ ap (λ x. 𝟙 ⊗ x ⊗ inverse F (factorial_in F n)) (binomial-factorials n k l)
        ∙ inverse-cancel' F 𝟙 (factorial_in F n) (factorial-nonzero F n h)
        ∙ sym (inverse-cancel' F 𝟙 (binomial F n k) some)
        ∙ ap (λ x. x ⊗ inverse F (binomial F n k)) (R.one-mul (scalars F) (binomial F n k)))
      where
        some : ¬ (binomial F n k ≡ 𝟘)
        some = binomial-nonzero F n k h l

        regroup : (a b c d : K) → a ⊗ (b ⊗ c ⊗ d) ≡ 𝟙 ⊗ (a ⊗ c ⊗ d) ⊗ b
        regroup a b c d = simp RING

pub length-weighted : (p : ℕ) (whole part : List ℕ) (n : ℕ) (x : List ℕ) → length (weighted p whole part n x) ≡ n
unfolding weighted
length-weighted p whole part n x = length-tabulate n _

pub get_or-weighted : (p : ℕ) (whole part : List ℕ) (n : ℕ) (x : List ℕ) (k : ℕ) → k < n
    → get_or (weighted p whole part n x) k 0 ≡ (get_or x k 0 * get_or whole (n - 1) 0 * get_or part k 0 * get_or part (n - 1 - k) 0) % p
unfolding weighted weighted_at
get_or-weighted p whole part n x k l = get_or-tabulate n _ k l

pub length-partly : (p e : ℕ) (part : List ℕ) (n : ℕ) (x : List ℕ) → length (partly_weighted p e part n x) ≡ n
unfolding partly_weighted
length-partly p e part n x = length-tabulate n _

pub get_or-partly : (p e : ℕ) (part : List ℕ) (n : ℕ) (x : List ℕ) (k : ℕ) → k < n
    → get_or (partly_weighted p e part n x) k 0 ≡ partly p e (get_or x k 0) (get_or part k 0) (get_or part (n - 1 - k) 0)
unfolding partly_weighted
get_or-partly p e part n x k l = get_or-tabulate n _ k l

-- with words reduced modulo m
module _ (F : PrimeField) {m : ℕ} (e : F.p ≡ m) where
  open scalars F use {Carrier as K, mul as ◌⊗◌}

  infixl 70 ◌⊗◌
  product_value : (x d a b : ℕ) {α β γ δ : K} → residue F x ≡ α → residue F d ≡ β → residue F a ≡ γ → residue F b ≡ δ
      → (x * d * a * b) % m ≡ value F (α ⊗ (β ⊗ γ ⊗ δ))
  product_value x d a b hx hd ha hb =
      let l = mod-lt (x * d * a * b) (positive F) in
      ap (λ n. (x * d * a * b) % n) (sym e)
      ∙ value-is F _ _ l
      (residue-mul-mod F (x * d * a) b ∙ rw (residue-mul F (x * d) a, residue-mul F x d, hx, hd, ha, hb) (simp Ac))

  module _ (size : ℕ) (short : size ≤ F.p) (f g : List ℕ) (t : Tables F size f g) where
    scaled-is : (c : List ℕ) (n : ℕ) → n ≡ length c → n ≤ size → weighted m f g n c ≡ scaled_words F c
    unfolding weighted weighted_at scaled_words scaled_coefficient word naive_degree
    scaled-is c n is l = ap (λ i. weighted m f g i c) is ∙ tabulate-ext (length c) _ _ λ k h.
        product_value (get_or c k 0) _ _ _ refl (t.factorials.at (length c - 1) (omega arith)) (t.inverses.at k (omega arith)) (t.inverses.at (length c - 1 - k) (omega arith))
        ∙ ap (λ x. value F (residue F (get_or c k 0) ⊗ x)) (factorial-quotient F (length c - 1) k (omega arith) (omega arith))

    pub unscaled-is : (s : List ℕ) (n : ℕ) → n ≤ size → weighted m g f n s ≡ unscaled F n (series_of F s)
    unfolding weighted weighted_at unscaled
    unscaled-is s n l = tabulate-ext n _ _ λ k h.
        product_value (get_or s k 0) _ _ _ (sym (coeff-series_of F s k)) (t.inverses.at (n - 1) (omega arith)) (t.factorials.at k (omega arith)) (t.factorials.at (n - 1 - k) (omega arith))
        ∙ ap (λ x. value F (F.series.coeff (series_of F s) k ⊗ x)) (inverse-quotient F (n - 1) k (omega arith) (omega arith))

    -- what is written where the lengths fit
    fitting : (words whole part out : List ℕ) → length out ≤ length words → length out ≤ length whole → length out ≤ length part → weigh_fits words whole part out ≡ true
    unfolding weigh_fits
    fitting words whole part out w h p = rw (le-leb (length out) (length words) w, le-leb (length out) (length whole) h, le-leb (length out) (length part) p)

    pub scale-is : (c out : List ℕ) {out' : List ℕ} → length out ≡ length c → length c ≤ size
        → out' ≡ cond (weigh_fits c f g out) (weighted m f g (length out) c) out → out' ≡ scaled_words F c
    scale-is c out is l q =
        let hf = t.factorials.long in
        let hg = t.inverses.long in
        q ∙ rw (fitting c f g out (omega arith) (omega arith) (omega arith)) (scaled-is c (length out) is (omega arith))

    pub unscale-is : (s out : List ℕ) {out' : List ℕ} → length out ≤ length s → length out ≤ size
        → out' ≡ cond (weigh_fits s g f out) (weighted m g f (length out) s) out → out' ≡ unscaled F (length out) (series_of F s)
    unscale-is s out h l q =
        let hf = t.factorials.long in
        let hg = t.inverses.long in
        q ∙ rw (fitting s g f out h (omega arith) (omega arith)) (unscaled-is s (length out) l)

    -- q is 2^32
    pub partly-scaled : {i u w : ℕ} (q : ℕ) → Constants m i u w → (q * u * u) % m ≡ 1 % m → (c : List ℕ) (n : ℕ) → n ≡ length c → n ≤ size
        → {d : ℕ} → d ≡ (get_or f (n - 1) 0 * q) % m → (k : ℕ) → k < n
        → residue F d ⊗ residue F (get_or (partly_weighted m i g n c) k 0) ≡ scaled_coefficient F c k
    unfolding scaled_coefficient word naive_degree
    partly-scaled {i} q o h c n is l {d} r k s =
        ap (λ y. residue F d ⊗ residue F y) (get_or-partly m i g n c k s)
        ∙ product-of-three F q e o h (get_or c k 0) (get_or f (n - 1) 0) (get_or g k 0) (get_or g (n - 1 - k) 0) r
        ∙ ap (λ y. residue F (get_or c k 0) ⊗ y) quotient
      where
        quotient : residue F (get_or f (n - 1) 0) ⊗ residue F (get_or g k 0) ⊗ residue F (get_or g (n - 1 - k) 0) ≡ binomial F (length c - 1) k
        quotient =
            rw (t.factorials.at (n - 1) (omega arith), t.inverses.at k (omega arith), t.inverses.at (n - 1 - k) (omega arith))
            (factorial-quotient F (n - 1) k (omega arith) (omega arith))
            ∙ ap (λ j. binomial F (j - 1) k) is

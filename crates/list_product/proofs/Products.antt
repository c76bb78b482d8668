-- The product by scaled forms, and the raise by a list of ones.
-- Assumes nothing.
use mathlib.Core.Path.{◌≡◌, sym, ◌∙◌, ap, ap₂}
use mathlib.Core.Bool.{cond}
use mathlib.Core.List.{List}
use Prim.Native.Nat.{ℕ, suc, ◌+◌, ◌-◌, ◌≤◌, ◌<◌}
use native.Mathlib.Omega.{arith}
use lib.ListN.{length, take, replicate, length-take, length-replicate, get_or-replicate}
use lib.Seq.{get_or-take}
use Rattle.algebra.specs.PrimeField.{PrimeField, scalars, residue, value, inverse}
use Rattle.algebra.proofs.PrimeField.{residue-value}
use Rattle.lists.proofs.Tabulate.{tabulated, tabulate-ext, get_or-tabulate}
use Rattle.lists.specs.Degrees.{naive_degree}
use Rattle.lists.specs.Lists.{binomial, scaled, unscaled}
use Rattle.lists.specs.Operations.{product, raise}
use Rattle.lists.specs.Words.{series_of}
use Rattle.lists.proofs.Words.{coeff-series_of, scaled_words, length-scaled_words, series_of-scaled_words}
use Rattle.lists.proofs.Raises.{ones}
use Rattle.lists.proofs.Products.{product-unscaled}
use Rattle.lists.proofs.Raises.{raise-product}
use Rattle.field_tables.specs.Factorials.{Tables}
use Rattle.word_scaling.specs.Scaling.{weigh_fits, weighted}
use Rattle.word_scaling.proofs.Weights.{scale-is, unscale-is}
use Rattle.word_product.specs.Convolution.{convolve_fits, convolution}
use Rattle.word_product.proofs.Convolution.{length-convolution, convolve-is}
use Rattle.list_product.specs.Internal.{ProductFits, RaiseFits}

-- a part of an array of ones
ones_is : (n m : ℕ) → m < n → take (suc m) (replicate n 1) ≡ ones m
unfolding ones
ones_is n m l =
    tabulated (take (suc m) (replicate n 1)) (suc m) (λ k. 1) (simp (length-take, length-replicate) (omega arith))
    (λ k j. rw get_or-take (get_or-replicate n k 1 0 (omega arith)))

module _ (F : PrimeField) where
  open scalars F use {mul as ◌⊗◌}
  open F.series.ring use {mul as ◌*ˢ◌}

  infixl 70 ◌⊗◌
  infixl 70 ◌*ˢ◌
  coeff-convolution : (a b : List ℕ) (k : ℕ) → k < length a + length b - 1
      → F.series.coeff (series_of F (convolution F a b)) k ≡ F.series.coeff (series_of F a *ˢ series_of F b) k
  unfolding convolution
  coeff-convolution a b k l = coeff-series_of F (convolution F a b) k ∙ ap (residue F) (get_or-tabulate _ _ k l) ∙ residue-value F _

  unscaled-convolution : (a b : List ℕ) (n : ℕ) → n ≤ length a + length b - 1
      → unscaled F n (series_of F (convolution F a b)) ≡ unscaled F n (series_of F a *ˢ series_of F b)
  unfolding unscaled
  unscaled-convolution a b n l =
      tabulate-ext n _ _ (λ k j. ap (λ x. value F (x ⊗ inverse F (binomial F (n - 1) k))) (coeff-convolution a b k (omega arith)))

  -- the words of the product's scaled form, divided again
  product-words : (f g : List ℕ) (n : ℕ) → 0 < length f → 0 < length g → n + 1 ≡ length f + length g
      → unscaled F n (series_of F (convolution F (scaled_words F f) (scaled_words F g))) ≡ product F f g
  unfolding naive_degree
  product-words f g n s t e =
      let d = length-scaled_words F f in
      let h = length-scaled_words F g in
      unscaled-convolution (scaled_words F f) (scaled_words F g) n (omega arith)
      ∙ ap₂ (λ x y. unscaled F n (x *ˢ y)) (series_of-scaled_words F f) (series_of-scaled_words F g)
      ∙ ap (λ k. unscaled F k (scaled F f *ˢ scaled F g)) (omega arith)
      ∙ sym (product-unscaled F f g)

  -- the scaled forms of f and g in a and b, their product in s, and back into out; `room` is how many words the product takes
  pub product_is : {p : ℕ} → F.p ≡ p → (most room : ℕ) → most ≤ F.p → most ≤ room → (whole part : List ℕ) → Tables F most whole part
      → (f g a b s out : List ℕ) {a' b' s' out' : List ℕ} → ProductFits most f g out
      → length a ≡ length f → length b ≡ length g → length s ≡ length out
      → a' ≡ cond (weigh_fits f whole part a) (weighted p whole part (length a) f) a
      → b' ≡ cond (weigh_fits g whole part b) (weighted p whole part (length b) g) b
      → s' ≡ cond (convolve_fits room a' b' s) (convolution F a' b') s
      → out' ≡ cond (weigh_fits s' part whole out) (weighted p part whole (length out) s') out
      → out' ≡ product F f g
  product_is at most room short in-room whole part t f g a b s out {a'} {b'} {s'} fits la lb ls qa qb qs qo =
      let ea = scale-is F at most short whole part t f a la (omega arith) qa in
      let eb = scale-is F at most short whole part t g b lb (omega arith) qb in
      let na : length a' ≡ length f = ap length ea ∙ length-scaled_words F f in
      let nb : length b' ≡ length g = ap length eb ∙ length-scaled_words F g in
      let es = convolve-is F room a' b' s (omega arith) (omega arith) (omega arith) qs in
      let ns : length s' ≡ length a' + length b' - 1 = ap length es ∙ length-convolution F a' b' in
      unscale-is F at most short whole part t s' out (omega arith) fits.short qo
      ∙ ap (λ x. unscaled F (length out) (series_of F x)) (es ∙ ap₂ (convolution F) ea eb)
      ∙ product-words f g (length out) fits.first fits.second fits.size

  -- f times the first m of an array of ones as long as the longest list, or longer
  pub raise-is : (room : ℕ) {p most : ℕ} → most ≤ room → (f out : List ℕ) (m : ℕ) {out' : List ℕ} → RaiseFits p most f out → m ≡ length out - length f + 1
      → out' ≡ product F f (take m (replicate room 1)) → out' ≡ raise F (naive_degree out) f
  unfolding naive_degree
  raise-is room in-room f out m fits e q =
      q
      ∙ ap (λ k. product F f (take k (replicate room 1))) size
      ∙ ap (product F f) (ones_is room (naive_degree out - naive_degree f) (omega arith))
      ∙ sym (raise-product F (naive_degree out) f (omega arith))
    where
      size : m ≡ suc (naive_degree out - naive_degree f)
      size = let l = fits.list.some in let r = fits.room in omega arith

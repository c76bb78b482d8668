-- What the operations come to over lists that no call refuses: such lists again, and their numbers of words.
--     sum-listed, difference-listed, product-listed, derivative-listed     the results of the operations
--     value-listed     the value of a tree
--     only-over        the refusal of a tree is 6
-- Assumes nothing.
use mathlib.Core.Path.{◌≡◌, refl, ◌∙◌, subst}
use mathlib.Core.Bool.{Bool, true, false, cond}
use mathlib.Core.List.{List, []}
use Prim.Native.Nat.{ℕ, suc, ◌+◌, ◌≤◌, ◌<◌, max}
use native.Mathlib.Omega.{arith}
use lib.Dec.{ltb}
use lib.ListN.{length, get_or}
use borrow.Author.Tests.{leb-false, ltb-false}
use Rattle.algebra.specs.PrimeField.{PrimeField}
use Rattle.refusal.specs.declared.Refusal.{Refusal}
use Rattle.refusal.specs.declared.Refusal.TheVariants.{Over}
use Rattle.refusal.proofs.First.{or-false}
use Rattle.lists.specs.Degrees.{naive_degree}
use Rattle.lists.specs.Lists.{Coefficients}
use Rattle.lists.specs.Operations as of
use Rattle.lists.specs.Refused.{IsList}
use Rattle.lists.proofs.Scaled.{length-naive, coefficients-listed}
use Rattle.lists.proofs.Products.{length-product, coefficients-product}
use Rattle.lists.proofs.Sums.{length-sum, coefficients-sum, length-difference, coefficients-difference}
use Rattle.lists.proofs.Calculus.{coefficients-derivative}
use Rattle.list_derivative.proofs.Derived.{derivative-length}
use Rattle.list_derivative.specs.Calls.{derivative_words}
use Rattle.lines.specs.Grammar.{Tree, list, sum, difference, product, derivative}
use Rattle.line_values.specs.Values.{Valued, value, refused, both, one, added, subtracted, multiplied, derived, value_of, lacks}

module _ (F : PrimeField) (most : ℕ) (wide : most ≤ F.p) where
  listed : (c : List ℕ) → Coefficients F c → 0 < length c → length c ≤ most → IsList F.p most c
  listed c g some short = record { some = some; short = short; words = g.below }

  module _ (a b : List ℕ) (l : IsList F.p most a) (m : IsList F.p most b) where
    pub larger-is : suc (of.larger_degree F a b) ≡ max (length a) (length b)
    unfolding of.larger_degree
    larger-is = let x = length-naive a l.some in let y = length-naive b m.some in omega arith

    larger-small : of.larger_degree F a b < F.p
    larger-small = omega (arith, larger-is, l.short, m.short, l.some)

    larger-short : max (length a) (length b) ≤ most
    larger-short = omega (arith, l.short, m.short)

    pub sum-listed : IsList F.p most (of.sum_of F a b)
    sum-listed =
        let n = length-sum F a b ∙ larger-is in
        let s = l.some in
        listed _ (coefficients-sum F a b larger-small) (omega arith) (omega (arith, larger-short))

    pub difference-listed : IsList F.p most (of.difference_of F a b)
    difference-listed =
        let n = length-difference F a b ∙ larger-is in
        let s = l.some in
        listed _ (coefficients-difference F a b larger-small) (omega arith) (omega (arith, larger-short))

    pub product-listed : suc (naive_degree a + naive_degree b) ≤ most → IsList F.p most (of.product F a b)
    product-listed h =
        let n = length-product F a b in
        listed _ (coefficients-product F a b (omega arith)) (omega arith) (omega arith)

  pub derivative-listed : (a : List ℕ) → IsList F.p most a → IsList F.p most (of.derivative F a)
  derivative-listed a l =
      let n : length (of.derivative F a) ≡ max (naive_degree a) 1 = unfold derivative_words in derivative-length F a in
      let d = length-naive a l.some in
      let s = l.short in
      listed _ (coefficients-derivative F a (coefficients-listed F wide l)) (omega arith) (omega arith)

  -- a value is a list that no call refuses
  abbrev Sound : Valued → Type 0
  Sound (value c) = IsList F.p most c
  Sound (refused why) = why ≡ Over

  both-sound : (f : List ℕ → List ℕ → Valued) → ((a b : List ℕ) → IsList F.p most a → IsList F.p most b → Sound (f a b))
      → (u v : Valued) → Sound u → Sound v → Sound (both f u v)
  unfolding both
  both-sound f h (value a) (value b) l m = h a b l m
  both-sound f h (value a) (refused why) l m = m
  both-sound f h (refused why) v l m = l

  one-sound : (f : List ℕ → Valued) → ((a : List ℕ) → IsList F.p most a → Sound (f a)) → (u : Valued) → Sound u → Sound (one f u)
  unfolding one
  one-sound f h (value a) l = h a l
  one-sound f h (refused why) l = l

  times-sound : (a b : List ℕ) → IsList F.p most a → IsList F.p most b → Sound (multiplied F most a b)
  times-sound a b l m = go (ltb most (suc (naive_degree a + naive_degree b))) refl
    where
      go : (t : Bool) → ltb most (suc (naive_degree a + naive_degree b)) ≡ t → Sound (cond t (refused Over) (value (of.product F a b)))
      go true e = refl
      go false e = product-listed a b l m (ltb-false most (suc (naive_degree a + naive_degree b)) e)

  module _ (lists : List (List ℕ)) (each : (i : ℕ) → i < length lists → IsList F.p most (get_or lists i [])) where
    pub value-sound : (e : Tree) → lacks (length lists) e ≡ false → Sound (value_of F most lists e)
    unfolding value_of lacks
    value-sound (list n) h = each n (leb-false (length lists) n h)
    value-sound (sum a b) h =
        let d = or-false (lacks (length lists) a) (lacks (length lists) b) h in
        both-sound (added F most) sum-listed (value_of F most lists a) (value_of F most lists b) (value-sound a d.0) (value-sound b d.1)
    value-sound (difference a b) h =
        let d = or-false (lacks (length lists) a) (lacks (length lists) b) h in
        both-sound (subtracted F most) difference-listed (value_of F most lists a) (value_of F most lists b) (value-sound a d.0) (value-sound b d.1)
    value-sound (product a b) h =
        let d = or-false (lacks (length lists) a) (lacks (length lists) b) h in
        both-sound (multiplied F most) times-sound (value_of F most lists a) (value_of F most lists b) (value-sound a d.0) (value-sound b d.1)
    value-sound (derivative a) h = one-sound (derived F most) derivative-listed (value_of F most lists a) (value-sound a h)

    pub value-listed : (e : Tree) (c : List ℕ) → lacks (length lists) e ≡ false → value_of F most lists e ≡ value c → IsList F.p most c
    value-listed e c h q = subst Sound q (value-sound e h)

    pub only-over : (e : Tree) (why : Refusal) → lacks (length lists) e ≡ false → value_of F most lists e ≡ refused why → why ≡ Over
    only-over e why h q = subst Sound q (value-sound e h)

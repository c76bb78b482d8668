-- The call on a line of algebra: its contract implies what demand 2 says of it.
--     value-means     over lists that no call refuses, the value of a tree means the tree's polynomial, and has the words of its naive degree
--     line-so         of line_value
-- Assumes nothing.
use mathlib.Core.Path.{◌≡◌, refl, sym, ◌∙◌, ap, ap₂, subst}
use mathlib.Core.Bool.{Bool, true, false, cond}
use mathlib.Core.List.{List, [], ◌∷◌}
use Prim.Native.Nat.{ℕ, suc, ◌+◌, ◌-◌, ◌≤◌, ◌<◌, max}
use native.Mathlib.Omega.{arith}
use lib.Dec.{ltb}
use lib.ListN.{length, get_or}
use borrow.Author.Tests.{leb-false, ltb-false}
use Rattle.algebra.specs.Derivative as D
use Rattle.algebra.specs.PrimeField.{PrimeField}
use Rattle.refusal.specs.Limits.{max_words}
use Rattle.refusal.specs.Refusal.{Reply, written}
use Rattle.refusal.specs.Lowest.{lowest}
use Rattle.refusal.specs.declared.Refusal.TheVariants.{Over}
use Rattle.refusal.proofs.Answers.{done-reply}
use Rattle.refusal.proofs.First.{or-else-done, or-false}
use Rattle.field.specs.Fields.{p, F65521, field_at, longest}
use Rattle.field.proofs.Fields.{longest-in}
use Rattle.lists.specs.Bytes.{Bytes}
use Rattle.lists.specs.Degrees.{naive_degree}
use Rattle.lists.specs.Lists.{meaning}
use Rattle.lists.specs.Operations as of
use Rattle.lists.specs.Padded.{padded}
use Rattle.lists.specs.Refused.{IsList}
use Rattle.lists.proofs.Scaled.{length-naive, coefficients-listed}
use Rattle.lists.proofs.Unscaled.{meaning-injective}
use Rattle.lists.proofs.Products.{length-product, product-meaning}
use Rattle.lists.proofs.Sums.{length-sum, sum-meaning, length-difference, difference-meaning}
use Rattle.lists.proofs.Calculus.{derivative-meaning}
use Rattle.list_derivative.specs.Calls.{derivative_words}
use Rattle.list_derivative.proofs.Derived.{derivative-length}
use Rattle.album_layout.specs.Layout.{count, lists_of}
use Rattle.album_layout.proofs.Places.{length-lists}
use Rattle.album_layout.proofs.Passed.{passed-each}
use Rattle.lines.specs.Grammar.{Tree, list, sum, difference, product, derivative}
use Rattle.lines.proofs.Lines.{inside_is}
use Rattle.lines.proofs.Readings.{reading-complete}
use Rattle.line_values.specs.Values.{Valued, value, refused, both, one, added, subtracted, multiplied, derived, value_of, lacks}
use Rattle.line_values.specs.Calls.{lacks_operand, line_rows, value_in, line_value, late_of, list_in, line_answer, line_written}
use Rattle.line_values.proofs.Judging.{accepted, valued}
use Rattle.line_values.proofs.Programs.{lacks-tokens}
use Rattle.line_values.proofs.Values.{sum-listed, difference-listed, product-listed, derivative-listed}
use Rattle.statement.specs.Demand2Calls.{degree_by, meant_by, LineSo}
use Rattle.statement.proofs.Demand2Albums.{Fine, fine-passes, holds}

module _ (F : PrimeField) (most : ℕ) (wide : most ≤ F.p) where
  open F.series.ring use {Carrier as S, neg as -ˢ◌, add as ◌+ˢ◌, mul as ◌*ˢ◌}

  infixl 65 ◌+ˢ◌
  infixl 70 ◌*ˢ◌
  infix 80 -ˢ◌
  -- a list that means s, of naive degree n
  record Means (n : ℕ) (s : S) (c : List ℕ) : Type 0 where
    pub listed : IsList F.p most c
    pub size : length c ≡ suc n
    pub means : meaning F c ≡ s

  abbrev ValueMeans : (n : ℕ) (s : S) → Valued → Type 0
  ValueMeans n s (value c) = Means n s c
  ValueMeans n s (refused why) = Unit {0}

  of-both : (f : List ℕ → List ℕ → Valued) (n m k : ℕ) (s t u : S) → ((a b : List ℕ) → Means n s a → Means m t b → ValueMeans k u (f a b))
      → (x y : Valued) → ValueMeans n s x → ValueMeans m t y → ValueMeans k u (both f x y)
  unfolding both
  of-both f n m k s t u h (value a) (value b) x y = h a b x y
  of-both f n m k s t u h (value a) (refused why) x y = tt
  of-both f n m k s t u h (refused why) v x y = tt

  of_one : (f : List ℕ → Valued) (n k : ℕ) (s u : S) → ((a : List ℕ) → Means n s a → ValueMeans k u (f a))
      → (x : Valued) → ValueMeans n s x → ValueMeans k u (one f x)
  unfolding one
  of_one f n k s u h (value a) x = h a x
  of_one f n k s u h (refused why) x = tt

  module _ {n m : ℕ} {s t : S} (a b : List ℕ) (l : Means n s a) (r : Means m t b) where
    degree-a : naive_degree a ≡ n
    degree-a = omega (arith, length-naive a l.listed.some, l.size)

    degree-b : naive_degree b ≡ m
    degree-b = omega (arith, length-naive b r.listed.some, r.size)

    larger : of.larger_degree F a b ≡ max n m
    unfolding of.larger_degree
    larger = ap₂ max degree-a degree-b

    small : of.larger_degree F a b < F.p
    small = omega (arith, larger, l.size, r.size, l.listed.short, r.listed.short)

    means-sum : Means (max n m) (s +ˢ t) (of.sum_of F a b)
    means-sum =
        record {
          listed = sum-listed F most wide a b l.listed r.listed;
          size = length-sum F a b ∙ ap suc larger;
          means = sum-meaning F a b small ∙ ap₂ (λ x y. x +ˢ y) l.means r.means;
        }

    means-difference : Means (max n m) (s +ˢ -ˢ t) (of.difference_of F a b)
    means-difference =
        record {
          listed = difference-listed F most wide a b l.listed r.listed;
          size = length-difference F a b ∙ ap suc larger;
          means = difference-meaning F a b small ∙ ap₂ (λ x y. x +ˢ -ˢ y) l.means r.means;
        }

    means-product : ValueMeans (n + m) (s *ˢ t) (multiplied F most a b)
    means-product = go (ltb most (suc (naive_degree a + naive_degree b))) refl
      where
        go : (x : Bool) → ltb most (suc (naive_degree a + naive_degree b)) ≡ x
            → ValueMeans (n + m) (s *ˢ t) (cond x (refused Over) (value (of.product F a b)))
        go true e = tt
        go false e =
            let h = ltb-false most (suc (naive_degree a + naive_degree b)) e in
            record {
              listed = product-listed F most wide a b l.listed r.listed h;
              size = length-product F a b ∙ ap₂ (λ x y. suc (x + y)) degree-a degree-b;
              means = product-meaning F a b (omega arith) ∙ ap₂ (λ x y. x *ˢ y) l.means r.means;
            }

  means-derivative : {n : ℕ} {s : S} (a : List ℕ) → Means n s a → Means (n - 1) (D.derivative F.series s) (of.derivative F a)
  means-derivative {n} {s} a l =
      let d : naive_degree a ≡ n = omega (arith, length-naive a l.listed.some, l.size) in
      let words : length (of.derivative F a) ≡ max (naive_degree a) 1 = unfold derivative_words in derivative-length F a in
      record {
        listed = derivative-listed F most wide a l.listed;
        size = omega arith;
        means = derivative-meaning F a ∙ ap (D.derivative F.series) l.means;
      }

  module _ (lists : List (List ℕ)) (each : (i : ℕ) → i < length lists → IsList F.p most (get_or lists i [])) where
    value-means : (e : Tree) → lacks (length lists) e ≡ false → ValueMeans (degree_by lists e) (meant_by F lists e) (value_of F most lists e)
    unfolding value_of lacks degree_by meant_by
    value-means (list n) h =
        let l = each n (leb-false (length lists) n h) in
        record { listed = l; size = length-naive (get_or lists n []) l.some; means = refl }
    value-means (sum a b) h =
        let d = or-false (lacks (length lists) a) (lacks (length lists) b) h in
        of-both (added F most) (degree_by lists a) (degree_by lists b) _ (meant_by F lists a) (meant_by F lists b) _ means-sum (value_of F most lists a) (value_of F most lists b) (value-means a d.0) (value-means b d.1)
    value-means (difference a b) h =
        let d = or-false (lacks (length lists) a) (lacks (length lists) b) h in
        of-both (subtracted F most) (degree_by lists a) (degree_by lists b) _ (meant_by F lists a) (meant_by F lists b) _ means-difference (value_of F most lists a) (value_of F most lists b) (value-means a d.0) (value-means b d.1)
    value-means (product a b) h =
        let d = or-false (lacks (length lists) a) (lacks (length lists) b) h in
        of-both (multiplied F most) (degree_by lists a) (degree_by lists b) _ (meant_by F lists a) (meant_by F lists b) _ means-product (value_of F most lists a) (value_of F most lists b) (value-means a d.0) (value-means b d.1)
    value-means (derivative a) h = of_one (derived F most) (degree_by lists a) _ (meant_by F lists a) _ means-derivative (value_of F most lists a) (value-means a h)

module _ (s line old : List ℕ) (bytes : Bytes s) {out : List ℕ} {r : Reply}
    (e : r ≡ line_answer 0 s line old) (w : out ≡ line_written 0 s line old) where
  pub line-so : LineSo F65521 s line out r
  unfolding field_at longest line_value lacks_operand
  line-so n a =
      let v = line_value F65521 max_words s line in
      let d = done-reply _ (n ∷ []) (naive_degree (list_in v) ∷ []) (sym a ∙ e) in
      let o = or-else-done (lowest (line_rows p max_words s line old)) (late_of v) d.0 in
      let ok = accepted p max_words s line old o.0 in
      let sound : Fine s = record { counted = ok.counted; laid = ok.laid; tight = ok.tight } in
      let one = (inside_is line ok.inside).1 in
      let tree = one.tree in
      let read = reading-complete one.is in
      let has : lacks (length (lists_of s)) tree ≡ false = ap (λ k. lacks k tree) (length-lists s) ∙ sym (lacks-tokens (count s) one.is) ∙ ok.has in
      let is : value_of F65521 max_words (lists_of s) tree ≡ value (list_in v) = sym (ap (value_in F65521 max_words (lists_of s)) read) ∙ valued v o.1 in
      let m = subst (ValueMeans F65521 max_words (longest-in 0) _ _) is
      (value-means F65521 max_words (longest-in 0) (lists_of s) (passed-each p s (fine-passes s sound) max_words (omega arith)) tree has) in
      let g = coefficients-listed F65521 (longest-in 0) m.listed in
      let degree : n ≡ naive_degree (list_in v) = ap (λ (l : List ℕ). get_or l 0 0) d.1 in
      let size : length (list_in v) ≡ suc n = omega (arith, length-naive (list_in v) m.listed.some) in
      record {
        lists = lists_of s;
        album = holds s bytes sound;
        tree = tree;
        reads = one.is;
        only = one.only;
        has = has;
        degree = omega (arith, m.size);
        result = list_in v;
        is =
            record {
              coefficients = g;
              words = size;
              means = m.means;
              only = λ other h l q. meaning-injective F65521 other (list_in v) h g (l ∙ sym size) (q ∙ sym m.means);
            };
        words = w ∙ ap (λ x. written x (padded max_words (list_in v)) old) d.0;
      }

-- What product and raise refuse, as the chain of tests that the code makes, and what a call that refuses nothing knows of its slices.
--     .. -refused, -over, -backwards, -misfit, -done     what the tests of a call find, one after the other
--     product-fits, raise-fits                           what a call knows that refuses nothing
--     raise-completes                                    a raise refuses nothing whose target and slice fit the list
-- Assumes nothing.
use mathlib.Core.Path.{◌≡◌, sym, ◌∙◌}
use mathlib.Core.Bool.{not}
use mathlib.Core.List.{List, [], ◌∷◌}
use Prim.Native.Nat.{ℕ, suc, ◌+◌, ◌≤◌, ◌<◌}
use native.Mathlib.Omega.{arith}
use lib.Dec.{eqb, ltb}
use lib.ListN.{length}
use borrow.Author.Tests.{eqb-true, ltb-false, not-false, eq-eqb, ne_eqb, lt-ltb, le-ltb}
use Rattle.std.specs.Prelude.{Ok, Err}
use Rattle.refusal.specs.Lowest.{lowest}
use Rattle.refusal.specs.declared.Refusal.{Refusal}
use Rattle.refusal.specs.declared.Refusal.TheVariants.{Over, Backwards, Misfit}
use Rattle.refusal.proofs.First.{refuse, or_else, first_then, refuse-done, or-else-done}
use Rattle.lists.specs.Degrees.{naive_degree}
use Rattle.lists.specs.Refused.{list_refusals, IsList}
use Rattle.lists.proofs.Judged.{one-listed, two-listed, one_passes}
use Rattle.list_product.specs.Calls.{product_rows, raise_rows}
use Rattle.list_product.specs.Internal.{ProductFits, RaiseFits}

module _ (p most : ℕ) (big : 0 < p) (f g out : List ℕ) where
  product-judged : lowest (product_rows p most f g out)
      ≡ or_else (lowest (list_refusals p most (f ∷ g ∷ [])))
      (refuse (ltb most (suc (naive_degree f + naive_degree g))) Over
      (refuse (not (eqb (length out) (suc (naive_degree f + naive_degree g)))) Misfit (Ok tt)))
  unfolding product_rows list_refusals
  product-judged = first_then (list_refusals p most (f ∷ g ∷ [])) _ tt

  pub product-refused : {why : Refusal} → lowest (list_refusals p most (f ∷ g ∷ [])) ≡ Err why
      → Err why ≡ lowest (product_rows p most f g out)
  product-refused e = sym (product-judged ∙ simp e)

  module _ (e : lowest (list_refusals p most (f ∷ g ∷ [])) ≡ Ok tt) where
    pub product-over : most + 1 < length f + length g → Err Over ≡ lowest (product_rows p most f g out)
    unfolding naive_degree
    product-over l =
        let s = two-listed p most big f g e in
        sym (product-judged ∙ simp (e, lt-ltb most (suc (naive_degree f + naive_degree g)) (omega arith)))

    module _ (l : length f + length g ≤ most + 1) where
      pub product-misfit : ¬ (length out + 1 ≡ length f + length g) → Err Misfit ≡ lowest (product_rows p most f g out)
      unfolding naive_degree
      product-misfit h =
          let s = two-listed p most big f g e in
          sym
          (product-judged
          ∙ simp (
            e,
            le-ltb most (suc (naive_degree f + naive_degree g)) (omega arith),
            ne_eqb (length out) (suc (naive_degree f + naive_degree g)) (λ q. h (omega arith)),
          ))

      pub product-done : length out + 1 ≡ length f + length g → Ok tt ≡ lowest (product_rows p most f g out)
      unfolding naive_degree
      product-done h =
          let s = two-listed p most big f g e in
          sym
          (product-judged
          ∙ simp (
            e,
            le-ltb most (suc (naive_degree f + naive_degree g)) (omega arith),
            eq-eqb (length out) (suc (naive_degree f + naive_degree g)) (omega arith),
          ))

  pub product-fits : Ok tt ≡ lowest (product_rows p most f g out) → ProductFits most f g out
  unfolding naive_degree
  product-fits e =
      let d = or-else-done (lowest (list_refusals p most (f ∷ g ∷ []))) _ (sym product-judged ∙ sym e) in
      let o = refuse-done (ltb most (suc (naive_degree f + naive_degree g))) _ _ d.1 in
      let m = refuse-done (not (eqb (length out) (suc (naive_degree f + naive_degree g)))) _ _ o.1 in
      let s = two-listed p most big f g d.0 in
      let l = ltb-false most (suc (naive_degree f + naive_degree g)) o.0 in
      let q = eqb-true (length out) (suc (naive_degree f + naive_degree g)) (not-false _ m.0) in
      record { first = s.0.some; second = s.1.some; size = omega arith; short = omega arith }

module _ (p most : ℕ) (big : 0 < p) (f : List ℕ) (target : ℕ) (out : List ℕ) where
  raise-judged : lowest (raise_rows p most f target out)
      ≡ or_else (lowest (list_refusals p most (f ∷ [])))
      (refuse (ltb most (suc target)) Over
      (refuse (ltb target (naive_degree f)) Backwards
      (refuse (not (eqb (length out) (suc target))) Misfit (Ok tt))))
  unfolding raise_rows list_refusals
  raise-judged = first_then (list_refusals p most (f ∷ [])) _ tt

  pub raise-refused : {why : Refusal} → lowest (list_refusals p most (f ∷ [])) ≡ Err why
      → Err why ≡ lowest (raise_rows p most f target out)
  raise-refused e = sym (raise-judged ∙ simp e)

  module _ (e : lowest (list_refusals p most (f ∷ [])) ≡ Ok tt) where
    pub raise-over : most ≤ target → Err Over ≡ lowest (raise_rows p most f target out)
    raise-over l = sym (raise-judged ∙ simp (e, lt-ltb most (suc target) (omega arith)))

    module _ (l : target < most) where
      pub raise-backwards : target + 1 < length f → Err Backwards ≡ lowest (raise_rows p most f target out)
      unfolding naive_degree
      raise-backwards b = sym (raise-judged ∙ simp (e, le-ltb most (suc target) (omega arith), lt-ltb target (naive_degree f) (omega arith)))

      module _ (b : length f ≤ target + 1) where
        pub raise-misfit : ¬ (length out ≡ target + 1) → Err Misfit ≡ lowest (raise_rows p most f target out)
        unfolding naive_degree
        raise-misfit h =
            sym
            (raise-judged
            ∙ simp (
              e,
              le-ltb most (suc target) (omega arith),
              le-ltb target (naive_degree f) (omega arith),
              ne_eqb (length out) (suc target) (λ q. h (omega arith)),
            ))

        pub raise-done : length out ≡ target + 1 → Ok tt ≡ lowest (raise_rows p most f target out)
        unfolding naive_degree
        raise-done h =
            sym
            (raise-judged
            ∙ simp (
              e,
              le-ltb most (suc target) (omega arith),
              le-ltb target (naive_degree f) (omega arith),
              eq-eqb (length out) (suc target) (omega arith),
            ))

  pub raise-fits : Ok tt ≡ lowest (raise_rows p most f target out) → RaiseFits p most f out × (naive_degree out ≡ target)
  unfolding naive_degree
  raise-fits e =
      let d = or-else-done (lowest (list_refusals p most (f ∷ []))) _ (sym raise-judged ∙ sym e) in
      let o = refuse-done (ltb most (suc target)) _ _ d.1 in
      let b = refuse-done (ltb target (naive_degree f)) _ _ o.1 in
      let m = refuse-done (not (eqb (length out) (suc target))) _ _ b.1 in
      let s = one-listed p most big f d.0 in
      let l = ltb-false most (suc target) o.0 in
      let r = ltb-false target (naive_degree f) b.0 in
      let q = eqb-true (length out) (suc target) (not-false _ m.0) in
      (record { list = s; room = omega arith; short = omega arith }, omega arith)

  pub raise-completes : IsList p most f → target < most → length f ≤ target + 1 → length out ≡ target + 1
      → lowest (raise_rows p most f target out) ≡ Ok tt
  raise-completes l = λ a b e. sym (raise-done (one_passes p most f l) a b e)

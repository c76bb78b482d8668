-- The operations on lists that no call refuses: none of the calls refuses, but a product of too many words.
--     operation-add, -subtract, -multiply                the operation of an operator's byte
--     came-sum, came-difference, came-product, over      what is then in front of the buffer
--     came-derivative                                    the same of a derivative
-- Assumes nothing.
use mathlib.Core.Path.{◌≡◌, refl, sym, ◌∙◌, ap}
use mathlib.Core.List.{List, [], ◌∷◌, ◌++◌}
use Prim.Native.Nat.{ℕ, suc, ◌+◌, ◌-◌, ◌≤◌, ◌<◌, max}
use native.Mathlib.Omega.{arith}
use lib.ListN.{length, take, drop}
use lib.Seq.{take_at}
use borrow.Author.Tests.{lt-ltb, le-ltb}
use Rattle.std.specs.Prelude.{Ok, Err}
use Rattle.algebra.specs.PrimeField.{PrimeField}
use Rattle.refusal.specs.Limits.{max_words}
use Rattle.refusal.specs.Lowest.{lowest}
use Rattle.refusal.specs.Refusal.{written, Outcome}
use Rattle.refusal.specs.declared.Refusal.TheVariants.{Over}
use Rattle.field.specs.Fields.{modulus, field_at, longest}
use Rattle.field.proofs.Fields.{modulus-some, longest-in, longest-room}
use Rattle.lists.specs.Degrees.{naive_degree}
use Rattle.lists.specs.Operations as of
use Rattle.lists.specs.Refused.{list_refusals, IsList}
use Rattle.lists.proofs.Judged.{judged, right-length, one_passes}
use Rattle.lists.proofs.Parts.{prefix-length}
use Rattle.lists.proofs.Scaled.{length-naive}
use Rattle.lists.proofs.Search.{tight}
use Rattle.lists.proofs.Products.{length-product}
use Rattle.lists.proofs.Sums.{length-sum, length-difference}
use Rattle.list_sum.specs.Calls.{sum_rows, sum_written, difference_written}
use Rattle.list_sum.proofs.Judged.{sum_done}
use Rattle.list_product.specs.Calls.{product_written}
use Rattle.list_product.proofs.Judged.{product-done}
use Rattle.list_derivative.specs.Calls.{derivative_words, derivative_written}
use Rattle.list_derivative.proofs.Judged.{derivative-done}
use Rattle.list_derivative.proofs.Derived.{derivative-length}
use Rattle.lines.specs.declared.Operator.{Operator}
use Rattle.lines.specs.declared.Operator.TheVariants.{Add, Subtract, Multiply, Derive}
use Rattle.lines.specs.Program.{byte_of}
use Rattle.line_values.specs.Values.{added, subtracted, multiplied, derived}
use Rattle.line_values.specs.Internal.{operation, Came}
use Rattle.line_values.proofs.Values.{larger-is, sum-listed, difference-listed, product-listed, derivative-listed}

module _ (F : PrimeField) (most : ℕ) (o : Operator) (a b : List ℕ) where
  pub operation-add : o ≡ Add → operation F most (byte_of o) a b ≡ added F most a b
  unfolding operation
  operation-add e = rw e refl

  pub operation-subtract : o ≡ Subtract → operation F most (byte_of o) a b ≡ subtracted F most a b
  unfolding operation
  operation-subtract e = rw e refl

pub operation-multiply : (F : PrimeField) (most : ℕ) (o : Operator) (a b : List ℕ) → (o ≡ Add → ⊥) → (o ≡ Subtract → ⊥)
    → operation F most (byte_of o) a b ≡ multiplied F most a b
unfolding operation
operation-multiply F most Add a b f g = absurd (f refl)
operation-multiply F most Subtract a b f g = absurd (g refl)
operation-multiply F most Multiply a b f g = refl
operation-multiply F most Derive a b f g = refl

-- a result in front of a buffer
in-front : (o : Outcome) (c old rest : List ℕ) {part : List ℕ} (n : ℕ) → o ≡ Ok tt → part ≡ written o c old → n ≡ length c → take n (part ++ rest) ≡ c
in-front o c old rest {part} n d e q =
    ap (λ l. take n (l ++ rest)) (e ∙ ap (λ x. written x c old) d) ∙ take_at c rest n (sym q)

module _ (k : ℕ) where
  module _ (a b : List ℕ) (l : IsList (modulus k) (longest k) a) (m : IsList (modulus k) (longest k) b)
      (room : List ℕ) (full : length room ≡ max_words) where
    passes : lowest (list_refusals (modulus k) (longest k) (a ∷ b ∷ [])) ≡ Ok tt
    passes =
        judged (modulus k) (longest k) (a ∷ b ∷ [])
        ∙ simp (right-length (modulus k) (longest k) a l, right-length (modulus k) (longest k) b m, tight (modulus k) a l.words, tight (modulus k) b m.words)

    module _ {n : ℕ} (e : n ≡ max (length a) (length b)) where
      short : n ≤ max_words
      short = omega (arith, l.short, m.short, longest-room k)

      pub larger-fits : n ≤ length room
      larger-fits = omega (arith, short)

      done : lowest (sum_rows (modulus k) (longest k) a b (take n room)) ≡ Ok tt
      done = sym (sum_done (modulus k) (longest k) (modulus-some k) a b (take n room) passes (prefix-length n max_words room full short ∙ e))

      pub came-sum : {part : List ℕ} → part ≡ sum_written k a b (take n room)
          → Came (modulus k) (longest k) (added (field_at k) (longest k) a b) (part ++ drop n room) (Ok n)
      unfolding field_at
      came-sum f =
          let size : n ≡ length (of.sum_of (field_at k) a b) = e ∙ sym (length-sum (field_at k) a b ∙ larger-is (field_at k) (longest k) (longest-in k) a b l m) in
          (_, refl, size, in-front _ _ (take n room) (drop n room) n done f size, sum-listed (field_at k) (longest k) (longest-in k) a b l m)

      pub came-difference : {part : List ℕ} → part ≡ difference_written k a b (take n room)
          → Came (modulus k) (longest k) (subtracted (field_at k) (longest k) a b) (part ++ drop n room) (Ok n)
      unfolding field_at
      came-difference f =
          let size : n ≡ length (of.difference_of (field_at k) a b) = e ∙ sym (length-difference (field_at k) a b ∙ larger-is (field_at k) (longest k) (longest-in k) a b l m) in
          (_, refl, size, in-front _ _ (take n room) (drop n room) n done f size, difference-listed (field_at k) (longest k) (longest-in k) a b l m)

    module _ {n : ℕ} (e : n ≡ length a + length b - 1) where
      degrees : n ≡ suc (naive_degree a + naive_degree b)
      degrees = omega (arith, length-naive a l.some, length-naive b m.some)

      pub over : longest k < n → Came (modulus k) (longest k) (multiplied (field_at k) (longest k) a b) room (Err Over)
      over h = rw (lt-ltb (longest k) (suc (naive_degree a + naive_degree b)) (omega (arith, degrees)))

      module _ (h : n ≤ longest k) where
        pub product-fits-room : n ≤ length room
        product-fits-room = omega (arith, longest-room k)

        pub came-product : {part : List ℕ} → part ≡ product_written k a b (take n room)
            → Came (modulus k) (longest k) (multiplied (field_at k) (longest k) a b) (part ++ drop n room) (Ok n)
        unfolding field_at
        came-product f =
            let some = l.some in
            let size : n ≡ length (of.product (field_at k) a b) = degrees ∙ sym (length-product (field_at k) a b) in
            let fits : length (take n room) + 1 ≡ length a + length b = omega (arith, prefix-length n max_words room full (omega (arith, longest-room k))) in
            let d = sym (product-done (modulus k) (longest k) (modulus-some k) a b (take n room) passes (omega arith) fits) in
            let few : suc (naive_degree a + naive_degree b) ≤ longest k = omega (arith, degrees) in
            rw (le-ltb (longest k) (suc (naive_degree a + naive_degree b)) few)
            (_, refl, size, in-front _ _ (take n room) (drop n room) n d f size, product-listed (field_at k) (longest k) (longest-in k) a b l m few)

  module _ (a : List ℕ) (l : IsList (modulus k) (longest k) a) (room : List ℕ) (full : length room ≡ max_words) {n : ℕ}
      (e : n ≡ max (length a - 1) 1) where
    pub derivative-fits : n ≤ length room
    derivative-fits = omega (arith, l.short, longest-room k)

    pub came-derivative : {part : List ℕ} → part ≡ derivative_written k a (take n room)
        → Came (modulus k) (longest k) (derived (field_at k) (longest k) a) (part ++ drop n room) (Ok n)
    unfolding field_at
    came-derivative f =
        let words : length (of.derivative (field_at k) a) ≡ max (naive_degree a) 1 = unfold derivative_words in derivative-length (field_at k) a in
        let size : n ≡ length (of.derivative (field_at k) a) = omega (arith, length-naive a l.some) in
        let fits = prefix-length n max_words room full (omega (arith, derivative-fits)) ∙ e in
        let d = sym (derivative-done (modulus k) (longest k) a (take n room) (one_passes (modulus k) (longest k) a l) fits) in
        (_, refl, size, in-front _ _ (take n room) (drop n room) n d f size, derivative-listed (field_at k) (longest k) (longest-in k) a l)

-- Sums and differences of raised lists, word by word: what the operation of each gives is the word of the sum, or of the difference.
-- Assumes nothing.
use mathlib.Core.Path.{◌≡◌, sym, ◌∙◌, ap, subst₂}
use mathlib.Core.List.{List}
use Prim.Native.Nat.{ℕ, suc, ◌+◌, ◌-◌, ◌%◌, ◌≤◌, ◌<◌}
use native.Mathlib.Nat.{mod-lt}
use native.Mathlib.Omega.{arith}
use lib.ListN.{length}
use Rattle.std.specs.Prelude.{Ok}
use Rattle.algebra.specs.PrimeField.{PrimeField, scalars, positive, residue, value}
use Rattle.algebra.proofs.PrimeField.{residue-add-mod, residue-neg}
use Rattle.refusal.specs.Refusal.{written}
use Rattle.refusal.specs.Lowest.{lowest}
use Rattle.lists.proofs.Tabulate.{tabulated}
use Rattle.lists.specs.Degrees.{naive_degree}
use Rattle.lists.specs.Lists.{word}
use Rattle.lists.specs.Operations.{raise, larger_degree, sum_of, difference_of}
use Rattle.lists.specs.Refused.{IsList}
use Rattle.lists.proofs.Words.{value-is}
use Rattle.lists.proofs.Raises.{length-raise}
use Rattle.list_product.specs.Calls.{raise_rows}
use Rattle.list_product.proofs.Judged.{raise-completes}
use Rattle.list_sum.specs.Internal.{SumFits, Combines, CombinesRaised}

module _ (F : PrimeField) where
  -- f and g raised to the naive degree of the result, in buffers as long as it
  module _ {p most : ℕ} (big : 0 < p) (f g out : List ℕ) (fits : SumFits p most f g out) where
    degree : length out - 1 ≡ larger_degree F f g
    unfolding naive_degree larger_degree
    degree = let s = fits.size in let l = fits.first.some in let r = fits.second.some in omega arith

    -- the raise refuses nothing, so the buffer holds its result
    in_buffer : (c a : List ℕ) {a' : List ℕ} → IsList p most c → length c ≤ length out → length a ≡ length out
        → a' ≡ written (lowest (raise_rows p most c (length out - 1) a)) (raise F (length out - 1) c) a → a' ≡ raise F (larger_degree F f g) c
    in_buffer c a l room e q =
        q ∙ ap (λ o. written o (raise F (length out - 1) c) a) completes ∙ ap (λ n. raise F n c) degree
      where
        completes : lowest (raise_rows p most c (length out - 1) a) ≡ Ok tt
        completes =
            let some = l.some in
            let first = fits.first.short in
            let second = fits.second.short in
            let size = fits.size in
            raise-completes p most big c (length out - 1) a l (omega arith) (omega arith) (omega arith)

    -- what is combined in the buffers is f and g raised
    pub combined-raised : (op : ℕ → ℕ → ℕ → Type 0) (a b : List ℕ) {a' b' out' : List ℕ} → length a ≡ length out → length b ≡ length out
        → a' ≡ written (lowest (raise_rows p most f (length out - 1) a)) (raise F (length out - 1) f) a
        → b' ≡ written (lowest (raise_rows p most g (length out - 1) b)) (raise F (length out - 1) g) b
        → Combines op a' b' out' → CombinesRaised F op f g out'
    combined-raised op a b {out' = out'} la lb qa qb h =
        let s = fits.size in
        subst₂ (λ x y. Combines op x y out') (in_buffer f a fits.first (omega arith) la qa) (in_buffer g b fits.second (omega arith) lb qb) h

-- where the operation is that of the field
module _ (F : PrimeField) {m : ℕ} (e : F.p ≡ m) where
  open scalars F use {neg as ⊖◌, add as ◌⊕◌}

  infixl 65 ◌⊕◌
  infix 80 ⊖◌
  sum-word : (x y : ℕ) {w : ℕ} → w ≡ (x + y) % m → w ≡ value F (residue F x ⊕ residue F y)
  sum-word x y {w} q =
      let h = mod-lt (x + y) (positive F) in
      value-is F w _ (rw (q, ← e) h) (ap (residue F) (q ∙ ap (λ n. (x + y) % n) (sym e)) ∙ residue-add-mod F _ _)

  difference-word : (x y : ℕ) {w : ℕ} → w ≡ (x + (m - y % m)) % m → w ≡ value F (residue F x ⊕ ⊖ residue F y)
  difference-word x y {w} q =
      let h = mod-lt (x + (F.p - y % F.p)) (positive F) in
      value-is F w _ (rw (q, ← e) h)
      (ap (residue F) (q ∙ ap (λ n. (x + (n - y % n)) % n) (sym e)) ∙ residue-add-mod F _ _
      ∙ ap (λ z. residue F x ⊕ z) (residue-neg F y))

  module _ (op : ℕ → ℕ → ℕ → Type 0) (f g : List ℕ) {out : List ℕ} (h : CombinesRaised F op f g out) where
    pub sum-is : ((x y w : ℕ) → op x y w → w ≡ (x + y) % m) → out ≡ sum_of F f g
    unfolding sum_of word
    sum-is adds =
        let size = h.size ∙ length-raise F (larger_degree F f g) f in
        tabulated out (suc (larger_degree F f g)) _ size (λ k l. sum-word _ _ (adds _ _ _ (h.at k (omega arith))))

    pub difference-is : ((x y w : ℕ) → op x y w → w ≡ (x + (m - y % m)) % m) → out ≡ difference_of F f g
    unfolding difference_of word
    difference-is subtracts =
        let size = h.size ∙ length-raise F (larger_degree F f g) f in
        tabulated out (suc (larger_degree F f g)) _ size (λ k l. difference-word _ _ (subtracts _ _ _ (h.at k (omega arith))))

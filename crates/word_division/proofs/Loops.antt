-- Laws of the loops: the division from the top, and the product taken off row by row.
--     .. -turn, .. -end       one turn of the loops, and their end
--     reduce-fits             the test of the lengths
-- Assumes nothing.
use mathlib.Core.Path.{◌≡◌, refl, sym, ◌∙◌, ap}
use mathlib.Core.Bool.{true}
use mathlib.Core.List.{List, [], ◌∷◌, ◌++◌, append-nil, append_assoc}
use Prim.Native.Nat.{ℕ, zero, suc, ◌+◌, ◌-◌, ◌*◌, ◌%◌, ◌≤◌, ◌<◌}
use native.Mathlib.Nat.{not-suc-le-zero, le_antisymm}
use native.Mathlib.Numerals.{sub-one, add-one}
use native.Mathlib.Omega.{arith}
use lib.ListN.{length, get_or, drop, set, length-set}
use lib.Seq.{get_or-set_same, drop-length, drop-cons, drop-set-lt}
use borrow.Author.Tests.{le-leb, eq-eqb}
use Rattle.word_row.specs.Rows.{row_from}
use Rattle.word_division.specs.Reduction.{negated, digit, reduced, digits, less_product_to, less_product, reduce_fits}

-- one turn of the division
digits_step : (p inv : ℕ) (y : List ℕ) (k : ℕ) (x q : List ℕ) → k < length q
    → digits p inv y k (row_from p k x (negated p (digit p inv y k x)) y) ++ drop k (set q k (digit p inv y k x))
    ≡ digits p inv y (suc k) x ++ drop (suc k) q
unfolding digits
digits_step p inv y k x q l =
    ap (λ w. left ++ w) tail ∙ sym (append_assoc left (digit p inv y k x ∷ []) (drop (suc k) q))
  where
    left : List ℕ
    left = digits p inv y k (row_from p k x (negated p (digit p inv y k x)) y)

    tail : drop k (set q k (digit p inv y k x)) ≡ digit p inv y k x ∷ drop (suc k) q
    tail =
        drop-cons (set q k (digit p inv y k x)) k 0 (simp length-set l)
        ∙ rw (get_or-set_same q k (digit p inv y k x) 0 l, drop-set-lt (suc k) q k (digit p inv y k x) (omega arith))

module _ (p inv : ℕ) (y : List ℕ) where
  pub reduced-turn : (k : ℕ) (x : List ℕ) {z : List ℕ} {c m : ℕ} → 0 < k → c ≡ (get_or x (length y - 1 + (k - 1)) 0 * inv) % p
      → m ≡ negated p c → z ≡ row_from p (k - 1) x m y → reduced p inv y (k - 1) z ≡ reduced p inv y k x
  unfolding reduced digit
  reduced-turn zero x l e n f = absurd (not-suc-le-zero l)
  reduced-turn (suc k) x l e n f = rw (f, n, e, sub-one)

  pub digits-turn : (k : ℕ) (x q : List ℕ) {z : List ℕ} {c m : ℕ} → 0 < k → k ≤ length q
      → c ≡ (get_or x (length y - 1 + (k - 1)) 0 * inv) % p → m ≡ negated p c → z ≡ row_from p (k - 1) x m y
      → digits p inv y (k - 1) z ++ drop (k - 1) (set q (k - 1) c) ≡ digits p inv y k x ++ drop k q
  digits-turn zero x q l h e n f = absurd (not-suc-le-zero l)
  digits-turn (suc k) x q l h e n f = rw (f, n, e, sub-one) (unfold digit in digits_step p inv y k x q h)

  -- its end, and the digits at its start
  pub reduced-end : (k : ℕ) (x : List ℕ) → k ≤ 0 → reduced p inv y k x ≡ x
  unfolding reduced
  reduced-end zero x l = refl
  reduced-end (suc k) x l = absurd (not-suc-le-zero l)

  pub digits-end : (k : ℕ) (x q : List ℕ) → k ≤ 0 → digits p inv y k x ++ drop k q ≡ q
  unfolding digits
  digits-end zero x q l = refl
  digits-end (suc k) x q l = absurd (not-suc-le-zero l)

  pub digits-start : (x q : List ℕ) → digits p inv y (length q) x ++ drop (length q) q ≡ digits p inv y (length q) x
  digits-start x q = rw (drop-length, append-nil)

-- one turn of the product, and its end
pub less-turn : (p k : ℕ) (s q t : List ℕ) {x z : List ℕ} {c : ℕ} → x ≡ less_product_to p k s q t → c ≡ negated p (get_or q k 0)
    → z ≡ row_from p k x c t → z ≡ less_product_to p (k + 1) s q t
unfolding less_product_to
less-turn p k s q t e f g = rw (add-one, g, f, e)

pub less-end : (p k : ℕ) (s q t : List ℕ) {x : List ℕ} → k ≤ length q → length q ≤ k → x ≡ less_product_to p k s q t → x ≡ less_product p s q t
unfolding less_product
less-end p k s q t l h e = e ∙ ap (λ n. less_product_to p n s q t) (le_antisymm l h)

-- the test of the lengths
pub reduce-fits : (x y q : List ℕ) → 1 ≤ length y → length x + 1 ≡ length y + length q → reduce_fits x y q ≡ true
unfolding reduce_fits
reduce-fits x y q l e = rw (le-leb 1 (length y) l, eq-eqb (length x + 1) (length y + length q) e)

-- The division reads and writes no word past the dividend: words after it stay.
--     reduced-longer, digits-longer     what is left of a ++ b, and the digits, where the division is that of a
-- Assumes nothing.
use mathlib.Core.Path.{◌≡◌, refl, sym, ◌∙◌, ap, ap₂}
use mathlib.Core.List.{List, [], ◌∷◌, ◌++◌, append_assoc}
use Prim.Native.Nat.{ℕ, zero, suc, ◌+◌, ◌-◌, ◌*◌, ◌%◌, ◌≤◌, ◌<◌}
use native.Mathlib.Decide.{dec_lt}
use native.Mathlib.Omega.{arith}
use lib.ListN.{length, get_or, take, drop, length-append, length-drop, get_or-append}
use lib.Seq.{take-append-le, drop-append-le, get_or-append-add}
use borrow.Author.Tests.{lt-ltb, le-ltb}
use Rattle.lists.proofs.Tabulate.{tabulated}
use Rattle.word_row.specs.Rows.{row_at, row, row_from}
use Rattle.word_row.proofs.RowWords.{length-row, row_within, row-beyond, length-row_from}
use Rattle.word_division.specs.Reduction.{negated, digit, reduced, digits}

module _ (p m : ℕ) (y a b : List ℕ) where
  row-longer : length y ≤ length a → row p (a ++ b) m y ≡ row p a m y ++ b
  unfolding row
  row-longer l =
      sym (tabulated (row p a m y ++ b) (length (a ++ b)) (row_at p (a ++ b) m y)
      (length-append (row p a m y) b ∙ ap (λ n. n + length b) (length-row p a m y) ∙ sym (length-append a b)) (λ j h. go j (dec_lt j (length y)) (dec_lt j (length a))))
    where
      go : (j : ℕ) → Dec (j < length y) → Dec (j < length a) → get_or (row p a m y ++ b) j 0 ≡ row_at p (a ++ b) m y j
      go j (yes ly) la =
          get_or-append (row p a m y) b 0 j (let e = length-row p a m y in omega arith)
          ∙ row_within p a m y j (omega arith) ly
          ∙ unfold row_at in simp (lt-ltb j (length y) ly) (ap (λ n. (n + m * get_or y j 0) % p) (sym (get_or-append a b 0 j (omega arith))))
      go j (no ly) (yes la) =
          get_or-append (row p a m y) b 0 j (let e = length-row p a m y in omega arith)
          ∙ row-beyond p a m y j (omega arith)
          ∙ sym (get_or-append a b 0 j la)
          ∙ unfold row_at in simp (le-ltb j (length y) (omega arith))
      go j (no ly) (no la) =
          let e : j ≡ length a + (j - length a) = omega arith in
          let f : j ≡ length (row p a m y) + (j - length a) = let s = length-row p a m y in omega arith in
          ap (λ i. get_or (row p a m y ++ b) i 0) f ∙ get_or-append-add (row p a m y) b (j - length a) 0
          ∙ sym (ap (λ i. get_or (a ++ b) i 0) e ∙ get_or-append-add a b (j - length a) 0)
          ∙ unfold row_at in simp (le-ltb j (length y) (omega arith))

row_from-longer : (p k m : ℕ) (y a b : List ℕ) → k + length y ≤ length a → row_from p k (a ++ b) m y ≡ row_from p k a m y ++ b
unfolding row_from
row_from-longer p k m y a b l =
    ap₂ (λ u v. u ++ row p v m y) (take-append-le k a b (omega arith)) (drop-append-le k a b (omega arith))
    ∙ ap (λ v. take k a ++ v) (row-longer p m y (drop k a) b (let e = length-drop k a in omega arith))
    ∙ sym (append_assoc (take k a) (row p (drop k a) m y) b)

module _ (p inv : ℕ) (y b : List ℕ) (some : 1 ≤ length y) where
  digit-longer : (k : ℕ) (a : List ℕ) → length y + k ≤ length a → digit p inv y k (a ++ b) ≡ digit p inv y k a
  unfolding digit
  digit-longer k a l = ap (λ n. (n * inv) % p) (get_or-append a b 0 (length y - 1 + k) (omega arith))

  step-longer : (k : ℕ) (a : List ℕ) → length y + k ≤ length a
      → row_from p k (a ++ b) (negated p (digit p inv y k (a ++ b))) y ≡ row_from p k a (negated p (digit p inv y k a)) y ++ b
  step-longer k a l =
      ap (λ n. row_from p k (a ++ b) (negated p n) y) (digit-longer k a l)
      ∙ row_from-longer p k (negated p (digit p inv y k a)) y a b (omega arith)

  pub reduced-longer : (k : ℕ) (a : List ℕ) → length y - 1 + k ≤ length a → reduced p inv y k (a ++ b) ≡ reduced p inv y k a ++ b
  unfolding reduced
  reduced-longer zero a l = refl
  reduced-longer (suc k) a l =
      ap (reduced p inv y k) (step-longer k a (omega arith))
      ∙ reduced-longer k (row_from p k a (negated p (digit p inv y k a)) y)
      (let e = length-row_from p k a (negated p (digit p inv y k a)) y in omega arith)

  pub digits-longer : (k : ℕ) (a : List ℕ) → length y - 1 + k ≤ length a → digits p inv y k (a ++ b) ≡ digits p inv y k a
  unfolding digits
  digits-longer zero a l = refl
  digits-longer (suc k) a l =
      ap₂ (λ u v. u ++ (v ∷ []))
      (ap (digits p inv y k) (step-longer k a (omega arith))
      ∙ digits-longer k (row_from p k a (negated p (digit p inv y k a)) y)
      (let e = length-row_from p k a (negated p (digit p inv y k a)) y in omega arith))
      (digit-longer k a (omega arith))

-- What the functions write, part by part.
--     halves_are               both parts of a list added
--     joined-are               the three products joined
--     parts_are                two products side by side in one slice, with a 0 between them
-- Assumes nothing.
use mathlib.Core.Path.{◌≡◌, ◌∙◌, ap, ap₂}
use mathlib.Core.List.{List, ◌++◌, append-nil}
use Prim.Native.Nat.{ℕ, ◌+◌, ◌-◌, ◌*◌, ◌≤◌}
use native.Mathlib.Omega.{arith}
use lib.ListN.{length, get_or, take, drop, set, length-set, length-drop, drop_of_length-le, get_or-append}
use lib.Seq.{take_all, take_at, drop_at, take-take, take-append-le, take-set-le, get_or-take, get_or-set_same, length-take-le, length_front}
use Rattle.algebra.specs.PrimeField.{PrimeField}
use Rattle.word_row.specs.Rows.{row, row_from}
use Rattle.word_row.proofs.Loops.{part-row}
use Rattle.word_product.specs.Convolution.{convolution}
use Rattle.word_division.specs.Reduction.{negated}
use Rattle.word_karatsuba.specs.Halves.{Apart, halves_added, products_joined}

-- a part that reaches to the end
pub rest-is : (k : ℕ) (l : List ℕ) → take (length l - k) (drop k l) ≡ drop k l
rest-is k l = take_all (length l - k) (drop k l) (simp length-drop (omega arith))

pub length_rest : (k : ℕ) (l : List ℕ) → length (take (length l - k) (drop k l)) ≡ length l - k
length_rest k l = ap length (rest-is k l) ∙ length-drop k l

pub halves_are : (p h : ℕ) (l x : List ℕ) {q : ℕ} {x1 x2 : List ℕ} → q ≡ p → x1 ≡ row q x 1 (take h l)
    → x2 ≡ row q x1 1 (take (length l - h) (drop h l)) → x2 ≡ halves_added p h l x
unfolding halves_added
halves_are p h l x s e f = f ∙ rw (e, s, rest-is h l)

pub joined-are : (p h : ℕ) (s out : List ℕ) {q : ℕ} {s1 s2 z : List ℕ} → q ≡ p → s1 ≡ row q s (negated q 1) (take (2 * h - 1) out)
    → s2 ≡ row q s1 (negated q 1) (take (length out - 2 * h) (drop (2 * h) out)) → z ≡ row q (take (length out - h) (drop h out)) 1 s2
    → take h out ++ (z ++ drop (length out - h) (drop h out)) ≡ products_joined p h s out
unfolding products_joined
joined-are p h s out {q} {s1} {s2} eq e f g =
    part-row q h out 1 s2 g
    ∙ ap₂ (λ i w. row_from i h out 1 w) eq (f ∙ rw (e, eq, rest-is (2 * h) out))

-- z written over the first n words of o, and 0 after it
pub length-gapped : (n : ℕ) (o z : List ℕ) → length z ≡ length (take n o) → length (set (z ++ drop n o) n 0) ≡ length o
length-gapped n o z e = length-set (z ++ drop n o) n 0 ∙ length_front o z n e

module _ (n m : ℕ) (next : m ≡ n + 1) (o z w : List ℕ) (lz : length z ≡ length (take n o)) (lo : m ≤ length o) where
  abbrev gapped : List ℕ
  gapped = set (z ++ drop n o) n 0

  -- w from word m on
  abbrev written : List ℕ
  written = take m gapped ++ (w ++ drop (length gapped - m) (drop m gapped))

  length-z : length z ≡ n
  length-z = lz ∙ length-take-le n o (omega arith)

  length-first : length (take m gapped) ≡ m
  length-first = length-take-le m gapped (omega (arith, length-gapped n o z lz))

  first-is : take n written ≡ z
  first-is =
      take-append-le n (take m gapped) _ (omega (arith, length-first)) ∙ take-take n m gapped (omega arith)
      ∙ take-set-le n (z ++ drop n o) n 0 (omega arith) ∙ take_at z (drop n o) n length-z

  gap_is : get_or written n 0 ≡ 0
  gap_is =
      get_or-append (take m gapped) _ 0 n (omega (arith, length-first)) ∙ get_or-take m gapped n 0 (omega arith)
      ∙ get_or-set_same (z ++ drop n o) n 0 0 (omega (arith, length_front o z n lz))

  second_is : drop m written ≡ w
  second_is =
      drop_at (take m gapped) _ m length-first
      ∙ rw (drop_of_length-le (drop m gapped) {i = length gapped - m} (simp length-drop (omega arith)), append-nil)

pub parts_are : (F : PrimeField) (h : ℕ) (a b o : List ℕ) {z w : List ℕ} → 1 ≤ h → 2 * h ≤ length o → length z ≡ length (take (2 * h - 1) o)
    → z ≡ convolution F (take h a) (take h b) → w ≡ convolution F (take (length a - h) (drop h a)) (take (length b - h) (drop h b))
    → Apart F h a b
    (take (2 * h) (set (z ++ drop (2 * h - 1) o) (2 * h - 1) 0)
    ++ (w ++ drop (length (set (z ++ drop (2 * h - 1) o) (2 * h - 1) 0) - 2 * h) (drop (2 * h) (set (z ++ drop (2 * h - 1) o) (2 * h - 1) 0))))
parts_are F h a b o {z} {w} l lo lz ez ew =
    record {
      first = first-is (2 * h - 1) (2 * h) (omega arith) o z w lz lo ∙ ez;
      gap = gap_is (2 * h - 1) (2 * h) (omega arith) o z w lz lo;
      second = second_is (2 * h - 1) (2 * h) (omega arith) o z w lz lo ∙ ew ∙ ap₂ (convolution F) (rest-is h a) (rest-is h b);
    }

-- Parts of arrays.
--     prefix-length             the length of the first k words
--     get_or-zeros, get_or-part     the words of an array of zeros, and of its first n
--     get_or-then-zeros         the words of a list with zeros after it
--     part_filled               an array up to the end of a part that was lent and filled
--     front_of, part_of         the first words of an array whose words are known, and those from a place on
-- Assumes nothing.
use mathlib.Core.Path.{◌≡◌, sym, ◌∙◌, ap, ap₂}
use mathlib.Core.List.{List, ◌++◌, append_assoc}
use Prim.Native.Nat.{ℕ, ◌+◌, ◌-◌, ◌≤◌, ◌<◌}
use native.Mathlib.Decide.{dec_lt}
use native.Mathlib.Omega.{arith}
use lib.ListN.{length, get_or, take, drop, replicate, length-append, length-take, length-replicate, get_or-replicate, get_or-append, get_or-eq_default, take-append-drop}
use lib.Seq.{get_or-take, get_or-append-add, length-take-le, take_at, take-append_seam, drop-append_seam}

pub prefix-length : (k n : ℕ) (l : List ℕ) → length l ≡ n → k ≤ n → length (take k l) ≡ k
prefix-length k n l e h = simp length-take (omega arith)

pub get_or-zeros : (n k : ℕ) → get_or {A = ℕ} (replicate n 0) k 0 ≡ 0
get_or-zeros n k = go (dec_lt k n)
  where
    go : Dec (k < n) → get_or {A = ℕ} (replicate n 0) k 0 ≡ 0
    go (yes l) = get_or-replicate n k 0 0 l
    go (no l) = let e = length-replicate {A = ℕ} n 0 in get_or-eq_default (replicate n 0) 0 (omega arith)

pub get_or-part : (x : List ℕ) (n : ℕ) → ((k : ℕ) → get_or x k 0 ≡ 0) → (k : ℕ) → get_or (take n x) k 0 ≡ 0
get_or-part x n h k = go (dec_lt k n)
  where
    go : Dec (k < n) → get_or (take n x) k 0 ≡ 0
    go (yes l) = get_or-take n x k 0 l ∙ h k
    go (no l) = get_or-eq_default (take n x) 0 {n = k} (simp length-take (omega arith))

pub get_or-then-zeros : (x z : List ℕ) → ((k : ℕ) → get_or z k 0 ≡ 0) → (k : ℕ) → get_or (x ++ z) k 0 ≡ get_or x k 0
get_or-then-zeros x z h k = go (dec_lt k (length x))
  where
    go : Dec (k < length x) → get_or (x ++ z) k 0 ≡ get_or x k 0
    go (yes l) = get_or-append x z 0 k l
    go (no l) =
        ap (λ i. get_or (x ++ z) i 0) at ∙ get_or-append-add x z (k - length x) 0
        ∙ h (k - length x) ∙ sym (get_or-eq_default x 0 (omega arith))
      where
        at : k ≡ length x + (k - length x)
        at = omega arith

pub part_filled : (words part rest : List ℕ) (used n : ℕ) → used ≤ length words → length part ≡ n
    → take (used + n) (take used words ++ (part ++ rest)) ≡ take used words ++ part
part_filled words part rest used n l e =
    ap (take (used + n)) (sym (append_assoc (take used words) part rest))
    ∙ take_at (take used words ++ part) rest (used + n) (length-append (take used words) part ∙ ap₂ ◌+◌ (length-take-le used words l) e)

-- an array whose first n words are x and y
module _ (words x y : List ℕ) (n k : ℕ) (h : take n words ≡ x ++ y) (l : k ≡ length x) where
  whole : words ≡ x ++ (y ++ drop n words)
  whole = sym (take-append-drop n words) ∙ ap (λ a. a ++ drop n words) h ∙ append_assoc x y (drop n words)

  pub front_of : take k words ≡ x
  front_of = ap₂ take l whole ∙ take-append_seam x (y ++ drop n words)

  drop_of : drop k words ≡ y ++ drop n words
  drop_of = ap₂ drop l whole ∙ drop-append_seam x (y ++ drop n words)

-- whose first n words are x, a and y
pub part_of : (words x a y : List ℕ) (n k m : ℕ) → take n words ≡ x ++ (a ++ y) → k ≡ length x → m ≡ length a → take m (drop k words) ≡ a
part_of words x a y n k m h l e =
    ap₂ take e (drop_of words x (a ++ y) n k h l ∙ append_assoc a y (drop n words)) ∙ take-append_seam a (y ++ drop n words)

-- The albums that are read are those of lists: the converse of the theorems in Written.antt.
--     album-whole     an album of bytes that obeys its layout is the album of its lists
--     body-whole      the bytes from where body i starts, as many as entry i says, are those of list i
-- Assumes nothing.
use mathlib.Core.Path.{◌≡◌, refl, sym, ap, ap₂, ◌∙◌}
use mathlib.Core.Bool.{false}
use mathlib.Core.List.{List, ◌∷◌, ◌++◌, append_assoc, append-nil}
use Prim.Native.Nat.{ℕ, zero, suc, ◌+◌, ◌*◌, ◌/◌, ◌%◌, ◌≤◌, ◌<◌}
use native.Mathlib.Nat.{div-add-mod', mod-lt}
use native.Mathlib.Numerals.{add-one}
use native.Mathlib.Omega.{arith}
use lib.Dec.{lit<}
use lib.ListN.{length, get_or, take, drop}
use lib.Seq.{take_at, drop-cons, drop-length}
use Rattle.refusal.specs.Limits.{max_lists}
use Rattle.lists.specs.Degrees.{naive_degree}
use Rattle.lists.specs.Tabulate.{tabulate}
use Rattle.lists.specs.Bytes.{Bytes, word_at, words_at, bytes_of}
use Rattle.lists.proofs.Bytes.{length-bytes_of}
use Rattle.album_layout.specs.Layout.{count, entry_at, degree_at, offset_at, start_at, wrong_count, broken_layout, nth_list, lists_from, lists_of}
use Rattle.album_layout.specs.Internal.{Obeys}
use Rattle.album_layout.proofs.Places.{start-next, start_up, words-next, length-list, length-lists, entry-inside, obeys}
use Rattle.album_layout.specs.Written.{entries_from, bodies_of, album_of}

two_bytes : (a b : ℕ) → a < 256 → ((a + 256 * b) % 256 ≡ a) × ((a + 256 * b) / 256 ≡ b)
two_bytes a b l =
    let e = div-add-mod' (a + 256 * b) 256 in
    let m : (a + 256 * b) % 256 < 256 = mod-lt (a + 256 * b) (lit< tt) in
    (omega arith, omega arith)

module _ (s : List ℕ) (o : Obeys s) (bytes : Bytes s) where
  drop-next : (i : ℕ) → i < length s → drop i s ≡ get_or s i 0 ∷ drop (i + 1) s
  drop-next i l = drop-cons s i 0 l ∙ ap (λ n. get_or s i 0 ∷ drop n s) (sym (add-one i))

  word_back : (at : ℕ) → at + 1 < length s → word_at s at % 256 ∷ word_at s at / 256 ∷ drop (at + 2) s ≡ drop at s
  word_back at l =
      let w = two_bytes (get_or s at 0) (get_or s (at + 1) 0) (bytes at) in
      ap₂ (λ a b. a ∷ b ∷ drop (at + 2) s) w.0 w.1
      ∙ sym (drop-next at (omega arith) ∙ ap (λ t. get_or s at 0 ∷ t) (drop-next (at + 1) l ∙ ap (λ n. get_or s (at + 1) 0 ∷ drop n s) two))
    where
      two : at + 1 + 1 ≡ at + 2
      two = omega arith

  words_back : (n at : ℕ) → at + 2 * n ≤ length s → bytes_of (words_at s at n) ++ drop (at + 2 * n) s ≡ drop at s
  unfolding bytes_of words_at tabulate
  words_back zero at l = let e : at + 2 * 0 ≡ at = omega arith in ap (λ i. drop i s) e
  words_back (suc n) at l =
      ap₂ (λ c i. bytes_of c ++ drop i s) (words-next s at n) next
      ∙ ap (λ t. word_at s at % 256 ∷ word_at s at / 256 ∷ t) (words_back n (at + 2) (omega arith))
      ∙ word_back at (omega arith)
    where
      next : at + 2 * suc n ≡ at + 2 + 2 * n
      next = omega arith

  list_back : (k : ℕ) → k < count s → bytes_of (nth_list s k) ++ drop (start_at s (suc k)) s ≡ drop (start_at s k) s
  unfolding nth_list
  list_back k l =
      ap (λ i. bytes_of (nth_list s k) ++ drop i s) (start-next s k)
      ∙ words_back (degree_at s k + 1) (start_at s k) (omega (arith, o.whole, start_up s k (count s) l))

  bodies-back : (n k : ℕ) → k + n ≤ count s → bodies_of (lists_from s k n) ++ drop (start_at s (k + n)) s ≡ drop (start_at s k) s
  unfolding lists_from bodies_of
  bodies-back zero k l = let e : k + 0 ≡ k = omega arith in ap (λ i. drop (start_at s i) s) e
  bodies-back (suc n) k l =
      append_assoc (bytes_of (nth_list s k)) (bodies_of (lists_from s (suc k) n)) (drop (start_at s (k + suc n)) s)
      ∙ ap (λ t. bytes_of (nth_list s k) ++ t)
      (ap (λ i. bodies_of (lists_from s (suc k) n) ++ drop (start_at s i) s) next ∙ bodies-back n (suc k) (omega arith))
      ∙ list_back k (omega arith)
    where
      next : k + suc n ≡ suc k + n
      next = omega arith

  degree-list : (k : ℕ) → naive_degree (nth_list s k) ≡ degree_at s k
  unfolding naive_degree
  degree-list k = omega (arith, length-list s k)

  -- the bytes of a word before others
  abbrev before : (word : ℕ) → List ℕ → List ℕ
  before word rest = word % 256 ∷ word / 256 ∷ rest

  entry-back : (k : ℕ) → k < count s
      → before (naive_degree (nth_list s k)) (before (start_at s k) (drop (entry_at (suc k)) s)) ≡ drop (entry_at k) s
  entry-back k l =
      ap₂ (λ d i. before d (before i (drop (entry_at (suc k)) s))) (degree-list k) (sym (o.placed k l))
      ∙ ap (λ i. before (degree_at s k) (before (offset_at s k) (drop i s))) next
      ∙ ap (before (degree_at s k)) (word_back (entry_at k + 2) (omega (arith, entry-inside s o)))
      ∙ word_back (entry_at k) (omega (arith, entry-inside s o))
    where
      next : entry_at (suc k) ≡ entry_at k + 2 + 2
      next = omega arith

  entries-back : (n k at : ℕ) → at ≡ start_at s k → k + n ≤ count s
      → bytes_of (entries_from at (lists_from s k n)) ++ drop (entry_at (k + n)) s ≡ drop (entry_at k) s
  unfolding lists_from entries_from bytes_of
  entries-back zero k at e l = let z : k + 0 ≡ k = omega arith in ap (λ i. drop (entry_at i) s) z
  entries-back (suc n) k at e l =
      ap (λ t. before (naive_degree (nth_list s k)) (before at t))
      (ap (λ i. bytes_of (entries_from (at + 2 * length (nth_list s k)) (lists_from s (suc k) n)) ++ drop (entry_at i) s) next
      ∙ entries-back n (suc k) (at + 2 * length (nth_list s k)) (omega (arith, start-next s k, length-list s k)) (omega arith))
      ∙ ap (λ i. before (naive_degree (nth_list s k)) (before i (drop (entry_at (suc k)) s))) e
      ∙ entry-back k (omega arith)
    where
      next : k + suc n ≡ suc k + n
      next = omega arith

  -- the entries and the bodies
  rest_back : bytes_of (entries_from (entry_at (count s)) (lists_of s)) ++ bodies_of (lists_of s) ≡ drop 1 s
  unfolding lists_of start_at
  rest_back =
      let n : 0 + count s ≡ count s = omega arith in
      ap (λ t. bytes_of (entries_from (entry_at (count s)) (lists_of s)) ++ t)
      (sym (append-nil (bodies_of (lists_of s)))
      ∙ ap (λ t. bodies_of (lists_of s) ++ t) (sym (ap (λ i. drop i s) (ap (start_at s) n ∙ sym o.whole) ∙ drop-length s))
      ∙ bodies-back (count s) 0 (omega arith)
      ∙ ap (λ i. drop (entry_at i) s) (sym n))
      ∙ entries-back (count s) 0 (entry_at (count s)) refl (omega arith)

  back : album_of (lists_of s) ≡ s
  unfolding album_of lists_of
  back =
      ap (λ n. n ∷ bytes_of (entries_from (entry_at n) (lists_of s)) ++ bodies_of (lists_of s)) (length-lists s)
      ∙ ap (λ t. count s ∷ t) rest_back
      ∙ sym (drop-next 0 o.some)

pub album-whole : (s : List ℕ) → Bytes s → wrong_count max_lists s ≡ false → broken_layout s ≡ false
    → album_of (lists_of s) ≡ s
album-whole s bytes counted laid = back s (obeys s counted laid) bytes

-- the bytes of body i, as many as entry i says
pub body_back : (s : List ℕ) → Obeys s → Bytes s → (i : ℕ) → i < count s
    → take (2 * (degree_at s i + 1)) (drop (start_at s i) s) ≡ bytes_of (nth_list s i)
body_back s o bytes i l =
    ap (take (2 * (degree_at s i + 1))) (sym (list_back s o bytes i l))
    ∙ take_at (bytes_of (nth_list s i)) (drop (start_at s (suc i)) s) (2 * (degree_at s i + 1))
    (length-bytes_of (nth_list s i) ∙ ap (λ n. 2 * n) (length-list s i))

pub body-whole : (s : List ℕ) → Bytes s → wrong_count max_lists s ≡ false → broken_layout s ≡ false → (i : ℕ) → i < count s
    → take (2 * (degree_at s i + 1)) (drop (start_at s i) s) ≡ bytes_of (nth_list s i)
body-whole s bytes counted laid = body_back s (obeys s counted laid) bytes

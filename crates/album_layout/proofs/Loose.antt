-- The search for a loose word. The bodies touch each other and end the album, so the lists' words are those from the first body to the
-- end: an album has a loose word in a list where one of these is loose.
--     loose-chunks     the pairs of bytes from the first body to the end answer for all lists
-- Assumes nothing.
use mathlib.Core.Path.{◌≡◌, refl, sym, ap, ap₂, ◌∙◌}
use mathlib.Core.Bool.{false, ◌||◌, or_assoc}
use mathlib.Core.List.{List}
use Prim.Native.Nat.{ℕ, zero, suc, ◌+◌, ◌-◌, ◌*◌, ◌/◌}
use native.Mathlib.Nat.{zero-add, add-zero}
use native.Mathlib.Omega.{arith}
use lib.Dec.{leb, lit<}
use lib.ListN.{length, get_or, take, drop}
use lib.Seq.{get_or-take, get_or-drop}
use Rattle.std.proofs.lemmas.List.{drop-drop, length-drop, take_all}
use Rattle.std.specs.Int.{w16, from_le_bytes}
use Rattle.std.specs.List.{list_any}
use Rattle.std.specs.Simd.{first_chunks}
use Rattle.lists.specs.Tabulate.{tabulate}
use Rattle.lists.specs.Refused.{has_loose, any_of}
use Rattle.lists.specs.Bytes.{word_at, words_at}
use Rattle.album_layout.specs.Layout.{count, entry_at, degree_at, start_at, nth_list, lists_from, lists_of}
use Rattle.album_layout.specs.Internal.{Obeys}
use Rattle.album_layout.proofs.Places.{start-next, words-next}

module _ (p : ℕ) (s : List ℕ) where
  loose-next : (at n : ℕ) → has_loose p (words_at s at (suc n)) ≡ (leb p (word_at s at) || has_loose p (words_at s (at + 2) n))
  unfolding has_loose
  loose-next at n = ap (has_loose p) (words-next s at n)

  loose_none : (at : ℕ) → has_loose p (words_at s at 0) ≡ false
  unfolding words_at tabulate has_loose
  loose_none at = refl

  loose-append : (m at n : ℕ) → has_loose p (words_at s at (m + n)) ≡ (has_loose p (words_at s at m) || has_loose p (words_at s (at + 2 * m) n))
  loose-append zero at n = let e : at ≡ at + 2 * 0 = omega arith in rw (loose_none at) (ap₂ (λ i m. has_loose p (words_at s i m)) e (zero-add n))
  loose-append (suc m) at n =
      ap (λ l. has_loose p (words_at s at l)) sum
      ∙ loose-next at (m + n)
      ∙ ap (λ b. leb p (word_at s at) || b) (loose-append m (at + 2) n ∙ ap (λ i. has_loose p (words_at s (at + 2) m) || has_loose p (words_at s i n)) step)
      ∙ sym (or_assoc (leb p (word_at s at)) _ _)
      ∙ ap (λ b. b || has_loose p (words_at s (at + 2 * suc m) n)) (sym (loose-next at m))
    where
      sum : suc m + n ≡ suc (m + n)
      sum = omega arith

      step : at + 2 + 2 * m ≡ at + 2 * suc m
      step = omega arith

  -- the words of n lists from number k on
  abbrev words_in : (k n : ℕ) → ℕ
  words_in k zero = 0
  words_in k (suc n) = (degree_at s k + 1) + words_in (suc k) n

  any-loose : (n k : ℕ) → any_of (has_loose p) (lists_from s k n) ≡ has_loose p (words_at s (start_at s k) (words_in k n))
  unfolding lists_from nth_list
  any-loose zero k = sym (loose_none (start_at s k))
  any-loose (suc n) k =
      ap (λ b. has_loose p (nth_list s k) || b)
      (any-loose n (suc k) ∙ ap (λ i. has_loose p (words_at s i (words_in (suc k) n))) (start-next s k))
      ∙ sym (loose-append (degree_at s k + 1) (start_at s k) (words_in (suc k) n))

  span : (n k : ℕ) → start_at s k + 2 * words_in k n ≡ start_at s (k + n)
  span zero k = let e : k ≡ k + 0 = omega arith in omega (arith, ap (start_at s) e)
  span (suc n) k = omega (arith, start-next s k, span n (suc k), ap (start_at s) (next k n))
    where
      next : (k n : ℕ) → suc k + n ≡ k + suc n
      next k n = omega arith

  -- the words that are searched, as `as_chunks` gives them
  chunk-word : (at : ℕ) → from_le_bytes w16 (take 2 (drop at s)) ≡ word_at s at
  chunk-word at = omega (arith, get_or-take 2 (drop at s) 0 0 (lit< tt), get_or-take 2 (drop at s) 1 0 (lit< tt), get_or-drop at s 0 0, get_or-drop at s 1 0, ap (λ i. get_or s i 0) (add-zero at))

  chunks_loose : (n at : ℕ) → list_any (λ w. leb p (from_le_bytes w16 w)) (first_chunks 2 n (drop at s)) ≡ has_loose p (words_at s at n)
  chunks_loose zero at = sym (loose_none at)
  chunks_loose (suc n) at =
      ap₂ (λ w b. leb p w || b) (chunk-word at) (ap (λ t. list_any (λ w. leb p (from_le_bytes w16 w)) (first_chunks 2 n t)) (drop-drop 2 at s) ∙ chunks_loose n (at + 2))
      ∙ sym (loose-next at n)

  rest : (at : ℕ) → take (length s - at) (drop at s) ≡ drop at s
  rest at = take_all _ (drop at s) (omega (arith, length-drop at s))

  pub loose-chunks : Obeys s → (q at : ℕ) (pairs : List (List ℕ)) → q ≡ p → at ≡ entry_at (count s)
      → (let bodies = take (length s - at) (drop at s) in pairs ≡ first_chunks 2 (length bodies / 2) bodies)
      → list_any (λ w. leb q (from_le_bytes w16 w)) pairs ≡ any_of (has_loose p) (lists_of s)
  unfolding lists_of start_at
  loose-chunks o q at pairs same e is =
      ap₂ (λ k l. list_any (λ w. leb k (from_le_bytes w16 w)) l) same (is ∙ ap (λ t. first_chunks 2 (length t / 2) t) (rest at))
      ∙ chunks_loose (length (drop at s) / 2) at
      ∙ ap₂ (λ i n. has_loose p (words_at s i n)) e all
      ∙ sym (any-loose (count s) 0)
    where
      all : length (drop at s) / 2 ≡ words_in 0 (count s)
      all = omega (arith, length-drop at s, o.whole, span (count s) 0, ap (start_at s) (zero-add (count s)))

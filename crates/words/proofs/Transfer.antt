-- Reading words from bytes and writing words as bytes: what a slice then holds, and the steps of both loops.
--     chunk-word, read-end     word k from the pair of bytes there, and the slice with zeros after the words
--     cleared                  a slice whose words from a place on are filled with zeros
--     two-more                 the bytes of one more word
-- Theorems:
--     into-exact      as many words as the bytes have: their words
--     into-padded     at least as many: their words, padded
--     bytes_fit       a slice of two bytes for each word holds the bytes of the words
--     copied-fit      a slice of as many words holds the words; one of another length is kept (copied-not)
-- Assumes nothing.
use mathlib.Core.Path.{◌≡◌, refl, sym, ◌∙◌, ap, ap₂, subst}
use mathlib.Core.List.{List, [], ◌∷◌, ◌++◌, append-nil}
use Prim.Native.Nat.{ℕ, zero, suc, min, ◌+◌, ◌-◌, ◌*◌, ◌/◌, ◌%◌, ◌≤◌, ◌<◌}
use native.Mathlib.Decide.{dec_lt}
use native.Mathlib.Nat.{le_of_suc-le-suc, not-suc-le-zero, div-add-mod', mod-lt}
use native.Mathlib.Omega.{arith}
use lib.Dec.{lit<}
use lib.ListN.{length, get_or, set, take, drop, replicate, length-append, length-take, length-drop, length-replicate, length-set, get_or-eq_default, drop_of_length-le}
use lib.Seq.{get_or-take, get_or-drop}
use Rattle.std.specs.Int.{w16, from_le_bytes}
use Rattle.std.specs.Simd.{first_chunks}
use borrow.Author.Tests.{eq-eqb, ne_eqb}
use Rattle.lists.specs.Padded.{padded}
use Rattle.lists.proofs.Padded.{padded-is}
use Rattle.lists.proofs.Parts.{get_or-zeros, get_or-then-zeros}
use Rattle.lists.proofs.Tabulate.{tabulated, length-tabulate, get_or-tabulate}
use Rattle.lists.proofs.Filled.{Filled, fill_step}
use Rattle.lists.specs.Bytes.{word_at, word_count, words_of, bytes_of}
use Rattle.lists.proofs.Bytes.{length-words_of, get_or-words_of}
use Rattle.words.specs.Transfer.{words_into, bytes_into, copied_into}

-- ---- reading
module _ (s : List ℕ) where
  word-inside : (k : ℕ) → k < length s / 2 → word_at s (2 * k) ≡ get_or (words_of s) k 0
  unfolding word_count
  word-inside k l = sym (get_or-words_of s k l)

  word-past : (k : ℕ) → length s / 2 ≤ k → 0 ≡ get_or (words_of s) k 0
  unfolding word_count
  word-past k l = sym (get_or-eq_default (words_of s) 0 (omega (arith, length-words_of s)))

  -- a slice of n words that holds them
  into-is : (n : ℕ) (l : List ℕ) → length l ≡ n → Filled l n (words_of s) → l ≡ words_into n s
  unfolding words_into
  into-is n l e h = tabulated l n _ e (λ k p. h.at k p)

  length-into : (n : ℕ) → length (words_into n s) ≡ n
  unfolding words_into
  length-into n = length-tabulate n _

  get_or-into : (n k : ℕ) → k < n → get_or (words_into n s) k 0 ≡ get_or (words_of s) k 0
  unfolding words_into
  get_or-into n k l = get_or-tabulate n _ k l

  pub into-padded : (n : ℕ) → word_count s ≤ n → words_into n s ≡ padded n (words_of s)
  into-padded n l = padded-is n (words_of s) (words_into n s) (omega (arith, length-words_of s)) (length-into n) (get_or-into n)

  pub into-exact : (n : ℕ) → n ≡ word_count s → words_into n s ≡ words_of s
  unfolding words_into
  into-exact n e = sym (tabulated (words_of s) n _ (length-words_of s ∙ sym e) (λ k l. refl))

-- the pairs of bytes, as `as_chunks` gives them
chunk_at : (s : List ℕ) (n k : ℕ) → k < n → from_le_bytes w16 (get_or (first_chunks 2 n s) k []) ≡ word_at s (2 * k)
chunk_at s zero k l = absurd (not-suc-le-zero l)
chunk_at s (suc n) zero l = omega (arith, get_or-take 2 s 0 0 (lit< tt), get_or-take 2 s 1 0 (lit< tt))
chunk_at s (suc n) (suc k) l = chunk_at (drop 2 s) n k (le_of_suc-le-suc l) ∙ ap₂ (λ a b. a + 256 * b) (further (2 * k) _ (omega arith)) (further (2 * k + 1) _ (omega arith))
  where
    further : (i j : ℕ) → 2 + i ≡ j → get_or (drop 2 s) i 0 ≡ get_or s j 0
    further i j e = get_or-drop 2 s i 0 ∙ ap (λ n. get_or s n 0) e

pub chunk-word : (s : List ℕ) (c : List (List ℕ)) (n k : ℕ) → c ≡ first_chunks 2 (length s / 2) s → n ≤ length s / 2 → k < n
    → from_le_bytes w16 (get_or (take n c) k []) ≡ get_or (words_of s) k 0
chunk-word s c n k e h l =
    ap (from_le_bytes w16) (get_or-take n c k [] l ∙ ap (λ d. get_or d k []) e)
    ∙ chunk_at s (length s / 2) k (omega arith) ∙ word-inside s k (omega arith)

-- a slice after `s[n..].fill(0)`
pub cleared : (w z : List ℕ) (n : ℕ) → z ≡ replicate (length (take (length w - n) (drop n w))) 0
    → take n w ++ (z ++ drop (length w - n) (drop n w)) ≡ take n w ++ replicate (length w - n) 0
cleared w z n e = rw (e, left, drop_of_length-le (drop n w) short, append-nil)
  where
    short : length (drop n w) ≤ length w - n
    short = simp length-drop (omega arith)

    left : length (take (length w - n) (drop n w)) ≡ length w - n
    left = simp (length-take, length-drop) (omega arith)

pub length-cleared : (w : List ℕ) (n : ℕ) → n ≤ length w → length (take n w ++ replicate (length w - n) 0) ≡ length w
length-cleared w n l = simp (length-append, length-take, length-replicate) (omega arith)

-- the words that are there, and zeros after them
pub read-end : (s w z : List ℕ) (n m : ℕ) → length w ≡ m → n ≡ min (length w) (length s / 2) → Filled w n (words_of s)
    → z ≡ replicate (length (take (length w - n) (drop n w))) 0 → take n w ++ (z ++ drop (length w - n) (drop n w)) ≡ words_into m s
read-end s w z n m em en h ez = cleared w z n ez ∙ rw (← em) (into-is s (length w) _ (length-cleared w n (omega arith)) (record { at = at }))
  where
    read : (k : ℕ) → k < length w → Dec (k < n) → get_or (take n w) k 0 ≡ get_or (words_of s) k 0
    read k l (yes p) = get_or-take n w k 0 p ∙ h.at k p
    read k l (no p) = get_or-eq_default (take n w) 0 (simp length-take (omega arith)) ∙ word-past s k (omega arith)

    at : (k : ℕ) → k < length w → get_or (take n w ++ replicate (length w - n) 0) k 0 ≡ get_or (words_of s) k 0
    at k l = get_or-then-zeros (take n w) (replicate (length w - n) 0) (get_or-zeros (length w - n)) k ∙ read k l (dec_lt k n)

-- ---- writing
twice : (k : ℕ) → 2 * suc k ≡ suc (suc (2 * k))
twice k = omega arith

one_on : (k : ℕ) → 2 * suc k + 1 ≡ suc (suc (2 * k + 1))
one_on k = omega arith

low-at : (l : List ℕ) (k : ℕ) → k < length l → get_or (bytes_of l) (2 * k) 0 ≡ get_or l k 0 % 256
unfolding bytes_of
low-at [] k h = absurd (not-suc-le-zero h)
low-at (w ∷ l) zero h = refl
low-at (w ∷ l) (suc k) h = ap (λ i. get_or (bytes_of (w ∷ l)) i 0) (twice k) ∙ low-at l k (le_of_suc-le-suc h)

high-at : (l : List ℕ) (k : ℕ) → k < length l → get_or (bytes_of l) (2 * k + 1) 0 ≡ get_or l k 0 / 256
unfolding bytes_of
high-at [] k h = absurd (not-suc-le-zero h)
high-at (w ∷ l) zero h = refl
high-at (w ∷ l) (suc k) h = ap (λ i. get_or (bytes_of (w ∷ l)) i 0) (one_on k) ∙ high-at l k (le_of_suc-le-suc h)

-- the bytes of one more word
pub two-more : (l words : List ℕ) (k a b : ℕ) → Filled l (2 * k) (bytes_of words) → length l ≡ 2 * length words → k < length words
    → a ≡ get_or words k 0 % 256 → b ≡ get_or words k 0 / 256
    → Filled (set (set l (2 * k) a) (2 * k + 1) b) (2 * (k + 1)) (bytes_of words)
two-more l words k a b h e p ea eb =
    subst (λ i. Filled (set (set l (2 * k) a) (2 * k + 1) b) i (bytes_of words)) next
    (fill_step b (fill_step a h (omega arith) (ea ∙ sym (low-at words k p))) (simp length-set (omega arith)) (eb ∙ sym (high-at words k p)))
  where
    next : 2 * k + 1 + 1 ≡ 2 * (k + 1)
    next = omega arith

-- the tests of the code
pub even_is : (n m : ℕ) → ¬ (n % 2 ≡ 1) → n / 2 ≡ m → n ≡ 2 * m
even_is n m odd half = let r : n % 2 < 2 = mod-lt n (lit< tt) in omega (arith, div-add-mod' n 2)

pub odd-not : (n m : ℕ) → n % 2 ≡ 1 → ¬ (n ≡ 2 * m)
odd-not n m odd e = omega (arith, div-add-mod' n 2)

pub half-not : (n m : ℕ) → ¬ (n / 2 ≡ m) → ¬ (n ≡ 2 * m)
half-not n m half e = let r : n % 2 < 2 = mod-lt n (lit< tt) in half (omega (arith, div-add-mod' n 2))

module _ (words old : List ℕ) where
  pub bytes_fit : length old ≡ 2 * length words → bytes_into words old ≡ bytes_of words
  unfolding bytes_into
  bytes_fit e = rw (eq-eqb (length old) (2 * length words) e)

  pub bytes-not : ¬ (length old ≡ 2 * length words) → old ≡ bytes_into words old
  unfolding bytes_into
  bytes-not f = sym (rw (ne_eqb (length old) (2 * length words) f))

-- ---- copying
pub copied-fit : (words old : List ℕ) → length words ≡ length old → copied_into words old ≡ words
unfolding copied_into
copied-fit words old e = rw (eq-eqb (length words) (length old) e)

pub copied-not : (words old : List ℕ) → ¬ (length words ≡ length old) → copied_into words old ≡ old
unfolding copied_into
copied-not words old f = rw (ne_eqb (length words) (length old) f)

-- Words as bytes.
--     length-words_of, get_or-words_of     the words of some bytes
--     bytes_word                           word j of the bytes of a list, whatever follows them
-- Theorems:
--     words-of-bytes     the bytes of some words read back as these words
--     bytes-words        the bytes of words of 16 bits are bytes
-- Assumes nothing.
use mathlib.Core.Path.{◌≡◌, refl, sym, ◌∙◌, ap, ap₂}
use mathlib.Core.List.{List, [], ◌∷◌, ◌++◌, append-nil}
use Prim.Native.Nat.{ℕ, zero, suc, ◌+◌, ◌*◌, ◌/◌, ◌%◌, ◌<◌}
use native.Mathlib.Nat.{zero-add, div-add-mod', mod-lt}
use native.Mathlib.Omega.{arith}
use lib.Dec.{lit<}
use lib.ListN.{length, get_or}
use lib.Seq.{get_or-append-add}
use Rattle.lists.proofs.Tabulate.{tabulated, length-tabulate, get_or-tabulate}
use Rattle.lists.specs.Bytes.{byte_values, Bytes, word_at, words_at, word_count, words_of, bytes_of}

pub length-words_of : (s : List ℕ) → length (words_of s) ≡ word_count s
unfolding words_of words_at
length-words_of s = length-tabulate (word_count s) _

pub get_or-words_of : (s : List ℕ) (k : ℕ) → k < word_count s → get_or (words_of s) k 0 ≡ word_at s (2 * k)
unfolding words_of words_at
get_or-words_of s k l = get_or-tabulate (word_count s) _ k l ∙ ap (word_at s) (zero-add (2 * k))

pub length-bytes_of : (words : List ℕ) → length (bytes_of words) ≡ 2 * length words
unfolding bytes_of
length-bytes_of [] = refl
length-bytes_of (w ∷ words) = omega (arith, length-bytes_of words)

-- ---- the bytes of words, read back
pub low-high : (x : ℕ) → x % 256 + 256 * (x / 256) ≡ x
low-high x = omega (arith, div-add-mod' x 256)

-- what stands after the front part of some bytes
pub after : (front rest : List ℕ) (j i : ℕ) → length front + j ≡ i → get_or (front ++ rest) i 0 ≡ get_or rest j 0
after front rest j i e = ap (λ n. get_or (front ++ rest) n 0) (sym e) ∙ get_or-append-add front rest j 0

pub word_after : (front rest : List ℕ) (j i : ℕ) → length front + j ≡ i → word_at (front ++ rest) i ≡ word_at rest j
word_after front rest j i e = ap₂ (λ a b. a + 256 * b) (after front rest j i e) (after front rest (j + 1) (i + 1) (omega arith))

pub bytes_word : (c rest : List ℕ) (j : ℕ) → j < length c → word_at (bytes_of c ++ rest) (2 * j) ≡ get_or c j 0
unfolding bytes_of
bytes_word [] rest j l = absurd (omega arith)
bytes_word (x ∷ c) rest zero l = low-high x
bytes_word (x ∷ c) rest (suc j) l =
    ap (word_at (x % 256 ∷ x / 256 ∷ bytes_of c ++ rest)) next ∙ word_after (x % 256 ∷ x / 256 ∷ []) (bytes_of c ++ rest) (2 * j) (2 + 2 * j) refl
    ∙ bytes_word c rest j (omega arith)
  where
    next : 2 * suc j ≡ 2 + 2 * j
    next = omega arith

count-bytes : (c : List ℕ) → word_count (bytes_of c) ≡ length c
unfolding word_count
count-bytes c =
    let even = ap (λ n. n / 2) (length-bytes_of c) in
    let less : 2 * length c % 2 < 2 = mod-lt (2 * length c) (lit< tt) in
    even ∙ omega (arith, div-add-mod' (2 * length c) 2)

pub words-of-bytes : (c : List ℕ) → words_of (bytes_of c) ≡ c
unfolding words_of words_at
words-of-bytes c =
    sym
    (tabulated c (word_count (bytes_of c)) (λ j. word_at (bytes_of c) (0 + 2 * j)) (sym (count-bytes c))
    (λ j l.
    sym
    (ap (word_at (bytes_of c)) (zero-add (2 * j)) ∙ ap (λ s. word_at s (2 * j)) (sym (append-nil (bytes_of c)))
    ∙ bytes_word c [] j (omega (arith, count-bytes c)))))

-- ---- they are bytes
pub bytes-cons : (x : ℕ) (l : List ℕ) → x < byte_values → Bytes l → Bytes (x ∷ l)
bytes-cons x l h b zero = h
bytes-cons x l h b (suc k) = b k

pub bytes-two : (x : ℕ) (l : List ℕ) → x < 65536 → Bytes l → Bytes (x % 256 ∷ x / 256 ∷ l)
bytes-two x l h b =
    bytes-cons (x % 256) (x / 256 ∷ l) (mod-lt x (lit< tt)) (bytes-cons (x / 256) l (omega (arith, low-high x)) b)

pub bytes-words : (c : List ℕ) → ((j : ℕ) → get_or c j 0 < 65536) → Bytes (bytes_of c)
unfolding bytes_of
bytes-words [] h k = omega arith
bytes-words (x ∷ c) h k = bytes-two x (bytes_of c) (h 0) (bytes-words c (λ j. h (suc j))) k

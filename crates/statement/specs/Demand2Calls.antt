-- What demand 2 says of each call, by its inputs, its answer r and what its slice holds at exit. Of a refused call it says nothing.
--     Answers r values     the call completes and answers these values
--     ProductSo, RaiseSo, SumSo, DifferenceSo, TrimSo, DerivativeSo     the slice holds the one list that means the product, the same
--                          polynomial, the sum, the difference, the same scaled form less its top zeros, the formal derivative
--     ExtentSo             an extent is the largest k with c_k not 0; no value is answered for a list of zeros and for no other
--     ValueSo              the word is the one that stands for the value
--     WordSumSo, WordDifferenceSo, WordProductSo     the word is the one that stands for the sum, the difference, the product of two coefficients
--     InverseSo            the word is the inverse
--     ReadSo               of an album that holds some lists without a loose word, list i is read: its naive degree is answered, its words
--                          are written, zeros after them; and a call that completes was handed such an album
--     BodySo               of such an album the part is the bytes of list i
--     ContentsSo           of such an album each record names the naive degree of its list and the place of its bytes, zeros after the last
--     WriteSo              the bytes that are written are such an album: of the lists that the degrees cut from the words, so that all their
--                          words and degrees are those given; the bytes after it are what they were; and where the words and degrees are
--                          those of such an album, that album is written, byte for byte
--     meant_by              the polynomial that a tree says over some lists, by the operations on polynomials
--     degree_by             the naive degree that document 01's operations give it: of a sum the larger, of a product the sum, of a derivative
--                          one less, and 0 of a constant's
--     LineSo               of an album that holds some lists, a line reads as one tree, whose operands are among the lists; the slice holds the
--                          one list of its naive degree, which is answered, that means its polynomial, and zeros after it
--     HostProductSo        the bytes at exit are those of a list, and it is the one that means the product of the lists whose bytes were given
-- Assumes nothing.
use Rattle.std.specs.Prelude.{◌≡◌, false, List, [], ◌∷◌, map, ℕ, suc, ◌+◌, ◌-◌, ◌≤◌, ◌<◌, max, length, get_or, take, drop, Ok}
use Rattle.algebra.specs.Derivative as D
use Rattle.algebra.specs.PrimeField.{PrimeField, scalars, residue}
use Rattle.refusal.specs.Limits.{max_lists, max_words, max_bytes}
use Rattle.refusal.specs.Refusal.{Reply, reply}
use Rattle.field.specs.Field.{IsInverse}
use Rattle.lists.specs.Bytes.{words_of, bytes_of}
use Rattle.lists.specs.Degrees.{naive_degree}
use Rattle.lists.specs.Lists.{meaning}
use Rattle.lists.specs.Padded.{padded}
use Rattle.list_derivative.specs.Calls.{derivative_words}
use Rattle.album_layout.specs.Written.{album_of, Writable}
use Rattle.album_writer.specs.Cut.{cut_by, joined}
use Rattle.album_writer.specs.Calls.{over_front}
use Rattle.album_contents.specs.declared.Entry.{Entry}
use Rattle.lines.specs.Grammar.{tokens, Tree, list, sum, difference, product, derivative, expression, Reads}
use Rattle.line_values.specs.Values.{lacks}
use Rattle.statement.specs.Meant.{TheWord, TheValue, TheList, TheTrim, IsExtent}
use Rattle.statement.specs.Contained.{none}

abbrev pub Answers : Reply → List ℕ → Type 0
Answers r values = r ≡ reply (Ok tt) values

pub record ExtentSo (f : List ℕ) (r : Reply) : Type 0 where
  pub extent : (e : ℕ) → Answers r (e ∷ []) → IsExtent f e
  pub zero-list : Answers r [] → (k : ℕ) → get_or f k 0 ≡ 0

unfoldable pub degree_by : List (List ℕ) → Tree → ℕ
degree_by lists (list n) = naive_degree (get_or lists n [])
degree_by lists (sum a b) = max (degree_by lists a) (degree_by lists b)
degree_by lists (difference a b) = max (degree_by lists a) (degree_by lists b)
degree_by lists (product a b) = degree_by lists a + degree_by lists b
degree_by lists (derivative a) = degree_by lists a - 1

module _ (F : PrimeField) where
  open scalars F use {Carrier as K, neg as ⊖◌, add as ◌⊕◌, mul as ◌⊗◌}
  open F.series.ring use {Carrier as S, neg as -ˢ◌, add as ◌+ˢ◌, mul as ◌*ˢ◌}

  infixl 65 ◌⊕◌
  infixl 70 ◌⊗◌
  infix 80 ⊖◌
  infixl 65 ◌+ˢ◌
  infixl 70 ◌*ˢ◌
  infix 80 -ˢ◌
  abbrev pub ProductSo : (f g out : List ℕ) → Reply → Type 0
  ProductSo f g out r = Answers r [] → TheList F (suc (naive_degree f + naive_degree g)) (meaning F f *ˢ meaning F g) out

  abbrev pub RaiseSo : (f : List ℕ) → (n : ℕ) → (out : List ℕ) → Reply → Type 0
  RaiseSo f n out r = Answers r [] → TheList F (suc n) (meaning F f) out

  abbrev pub SumSo : (f g out : List ℕ) → Reply → Type 0
  SumSo f g out r = Answers r [] → TheList F (suc (max (naive_degree f) (naive_degree g))) (meaning F f +ˢ meaning F g) out

  abbrev pub DifferenceSo : (f g out : List ℕ) → Reply → Type 0
  DifferenceSo f g out r = Answers r [] → TheList F (suc (max (naive_degree f) (naive_degree g))) (meaning F f +ˢ -ˢ meaning F g) out

  abbrev pub TrimSo : (f out : List ℕ) → Reply → Type 0
  TrimSo f out r = Answers r [] → TheTrim F f out

  abbrev pub DerivativeSo : (f out : List ℕ) → Reply → Type 0
  DerivativeSo f out r = Answers r [] → TheList F (derivative_words f) (D.derivative F.series (meaning F f)) out

  abbrev pub ValueSo : (f : List ℕ) → (x : ℕ) → Reply → Type 0
  ValueSo f x r = (w : ℕ) → Answers r (w ∷ []) → TheValue F f x w

  -- the word that stands for an element of the field
  abbrev pub WordSo : K → Reply → Type 0
  WordSo x r = (w : ℕ) → Answers r (w ∷ []) → TheWord F x w

  abbrev pub WordSumSo : (a b : ℕ) → Reply → Type 0
  WordSumSo a b r = WordSo (residue F a ⊕ residue F b) r

  abbrev pub WordDifferenceSo : (a b : ℕ) → Reply → Type 0
  WordDifferenceSo a b r = WordSo (residue F a ⊕ ⊖ residue F b) r

  abbrev pub WordProductSo : (a b : ℕ) → Reply → Type 0
  WordProductSo a b r = WordSo (residue F a ⊗ residue F b) r

  abbrev pub InverseSo : (a : ℕ) → Reply → Type 0
  InverseSo a r = (w : ℕ) → Answers r (w ∷ []) → IsInverse F.p a w

  -- s is the album of these lists, which have no loose word
  pub record Holds (s : List ℕ) (lists : List (List ℕ)) : Type 0 where
    pub writable : Writable lists
    pub tight : (k j : ℕ) → get_or (get_or lists k []) j 0 < F.p
    pub album : album_of lists ≡ s

  -- list i is handed out
  pub record Handed (lists : List (List ℕ)) (i : ℕ) (out : List ℕ) (r : Reply) : Type 0 where
    pub inside : i < length lists
    pub degree : Answers r (naive_degree (get_or lists i []) ∷ [])
    pub words : out ≡ padded max_words (get_or lists i [])

  pub record ReadSo (s : List ℕ) (i : ℕ) (old out : List ℕ) (r : Reply) : Type 0 where
    pub reads : (lists : List (List ℕ)) → Holds s lists → i < length lists → length old ≡ max_words → Handed lists i out r
    pub holds : (n : ℕ) → Answers r (n ∷ []) → (lists : List (List ℕ)) × Holds s lists × Handed lists i out r

  abbrev pub BodySo : List ℕ → ℕ → (part : List ℕ) → Type 0
  BodySo s i part = (lists : List (List ℕ)) → Holds s lists → i < length lists → part ≡ bytes_of (get_or lists i [])

  pub record Entries (s : List ℕ) (lists : List (List ℕ)) (entries : List Entry) : Type 0 where
    pub records : length entries ≡ max_lists
    pub degree : (i : ℕ) → i < length lists → (get_or entries i none).degree ≡ naive_degree (get_or lists i [])
    pub place : (i : ℕ) → i < length lists
        → take (length (bytes_of (get_or lists i []))) (drop (get_or entries i none).offset s) ≡ bytes_of (get_or lists i [])
    pub zeros : (i : ℕ) → length lists ≤ i → i < max_lists → get_or entries i none ≡ none

  abbrev pub ContentsSo : List ℕ → (old entries : List Entry) → Reply → Type 0
  ContentsSo s old entries r = (lists : List (List ℕ)) → Holds s lists → length old ≡ max_lists → Answers r [] × Entries s lists entries

  -- n bytes are the album of the lists cut from the words
  pub record AlbumWritten (words degrees old out : List ℕ) (n : ℕ) : Type 0 where
    pub album : Holds (take n out) (cut_by degrees words)
    pub all_words : joined (cut_by degrees words) ≡ words
    pub all_degrees : map naive_degree (cut_by degrees words) ≡ degrees
    pub size : n ≡ length (album_of (cut_by degrees words))
    pub after : drop n out ≡ drop n old

  pub record WriteSo (words degrees old out : List ℕ) (r : Reply) : Type 0 where
    pub writes : (n : ℕ) → Answers r (n ∷ []) → AlbumWritten words degrees old out n
    pub again : (s : List ℕ) (lists : List (List ℕ)) → Holds s lists → words ≡ joined lists → degrees ≡ map naive_degree lists
        → max_bytes ≤ length old → Answers r (length s ∷ []) × (out ≡ over_front s old)

  unfoldable pub meant_by : List (List ℕ) → Tree → S
  meant_by lists (list n) = meaning F (get_or lists n [])
  meant_by lists (sum a b) = meant_by lists a +ˢ meant_by lists b
  meant_by lists (difference a b) = meant_by lists a +ˢ -ˢ meant_by lists b
  meant_by lists (product a b) = meant_by lists a *ˢ meant_by lists b
  meant_by lists (derivative a) = D.derivative F.series (meant_by lists a)

  pub record LineValue (s line out : List ℕ) (n : ℕ) : Type 0 where
    pub lists : List (List ℕ)
    pub album : Holds s lists
    pub tree : Tree
    pub reads : Reads expression (tokens line) tree
    pub only : (other : Tree) → Reads expression (tokens line) other → other ≡ tree
    pub has : lacks (length lists) tree ≡ false
    pub degree : n ≡ degree_by lists tree
    pub result : List ℕ
    pub is : TheList F (suc n) (meant_by lists tree) result
    pub words : out ≡ padded max_words result

  abbrev pub LineSo : (s line out : List ℕ) → Reply → Type 0
  LineSo s line out r = (n : ℕ) → Answers r (n ∷ []) → LineValue s line out n

  -- n is the number that a host is answered
  abbrev pub HostProductSo : (f g out : List ℕ) → ℕ → Type 0
  HostProductSo f g out n = n ≡ 0 → (bytes_of (words_of out) ≡ out)
      × TheList F (suc (naive_degree (words_of f) + naive_degree (words_of g))) (meaning F (words_of f) *ˢ meaning F (words_of g)) (words_of out)

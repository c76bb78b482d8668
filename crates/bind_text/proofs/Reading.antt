-- The words of a line and of all lines, read into buffers.
--     word-at                the word that the next field of a line says, and its place
--     one_more               one word more is read
--     Partway                what two buffers hold with k lines of a text read, and what is left: their words and their degrees
--     Turn                   the next line's list: it is within the limits, and there is room for it
--     loaded-inside          the words and degrees that are read lie in the buffers
-- Assumes nothing.
use mathlib.Core.Path.{◌≡◌, refl, sym, ◌∙◌, ap, ap₂}
use mathlib.Core.Bool.{false}
use mathlib.Core.List.{List, [], ◌∷◌, ◌++◌, map, append_assoc, append-nil, map-append}
use Prim.Native.Nat.{ℕ, ◌+◌, ◌-◌, ◌*◌, ◌≤◌, ◌<◌}
use native.Mathlib.Omega.{arith}
use lib.ListN.{length, get_or, take, set, length-append, length-take, length-map}
use Rattle.std.specs.List.{enumerate_from}
use Rattle.std.proofs.lemmas.List.{take_more, take_more_set, get_or-map}
use Rattle.std.proofs.lemmas.List.FromFn.{length-enumerate_from, get_or-enumerate_from}
use Rattle.refusal.specs.Limits.{max_lists, max_words}
use Rattle.refusal.proofs.First.{or-false}
use Rattle.lists.specs.Degrees.{naive_degree}
use Rattle.lists.specs.Refused.{wrong_length, any_of}
use Rattle.lists.proofs.Parts.{part_filled}
use Rattle.album_writer.specs.Cut.{joined}
use Rattle.bind_text.specs.Text.{lines_of, fields_of, value_of, list_of, lists_in}
use Rattle.bind_text.specs.Internal.{capped, Loaded}
use Rattle.bind_text.proofs.Lists.{length-lists, right-length}

-- ---- the words of a line
pub record Word (line : List ℕ) (k n : ℕ) (digits : List ℕ) : Type 0 where
  pub place : n ≡ k
  pub inside : k < length (list_of line)
  pub value : capped (value_of digits) ≡ get_or (map capped (list_of line)) k 0

pub word-at : (line : List ℕ) (k n : ℕ) (digits : List ℕ) → (k < length (enumerate_from 0 (fields_of line)))
    × (◌≡◌ {A = ℕ × List ℕ} (n, digits) (get_or (enumerate_from 0 (fields_of line)) k (n, digits)))
    → Word line k n digits
unfolding list_of
word-at line k n digits h =
    let fields = fields_of line in
    let words = map value_of fields in
    let field : k < length fields = omega (arith, h.0, length-enumerate_from 0 fields) in
    let word : k < length words = omega (arith, length-map fields value_of) in
    let is = h.1 ∙ get_or-enumerate_from 0 fields k (n, digits) field in
    record {
      place = omega (arith, ap (λ p. p.0) is);
      inside = word;
      value =
          ap (λ p. capped (value_of p.1)) is
          ∙ ap capped (sym (get_or-map value_of fields k digits 0 field))
          ∙ sym (get_or-map capped words k 0 0 word);
    }

pub one_more : (out all : List ℕ) (k n v : ℕ) → n ≡ k → k < length out → k < length all → take k out ≡ take k all → v ≡ get_or all k 0
    → take (k + 1) (set out n v) ≡ take (k + 1) all
one_more out all k n v e l m h f =
    ap (λ i. take (k + 1) (set out i v)) e
    ∙ take_more_set out k v l
    ∙ ap₂ (λ a x. a ++ (x ∷ [])) h f
    ∙ sym (take_more all k 0 m)

-- ---- the lists of a text
pub record Partway (text words degrees : List ℕ) (used k : ℕ) (left : List (List ℕ)) : Type 0 where
  pub below : used ≤ max_words * k
  pub lines : k + length left ≡ length (lines_of text)
  pub size : used + length (joined (map list_of left)) ≡ length (joined (lists_in text))
  pub each : any_of (wrong_length max_words) (map list_of left) ≡ false
  pub read : take used words ++ map capped (joined (map list_of left)) ≡ map capped (joined (lists_in text))
  pub told : take k degrees ++ map naive_degree (map list_of left) ≡ map naive_degree (lists_in text)

pub partway_start : (text words degrees : List ℕ) {k : ℕ} {left : List (List ℕ)} → k ≡ 0 → left ≡ lines_of text
    → any_of (wrong_length max_words) (lists_in text) ≡ false → Partway text words degrees 0 k left
unfolding lists_in
partway_start text words degrees {k} {left} q e f =
    let lists = ap (map list_of) e in
    record {
      below = omega arith;
      lines = omega (arith, ap length e);
      size = omega (arith, ap (λ ls. length (joined ls)) lists);
      each = ap (any_of (wrong_length max_words)) lists ∙ f;
      read = ap (λ ls. map capped (joined ls)) lists;
      told = ap (λ i. take i degrees ++ map naive_degree (map list_of left)) q ∙ ap (map naive_degree) lists;
    }

pub record Turn (used k n : ℕ) : Type 0 where
  pub some : 0 < n
  pub short : n ≤ max_words
  pub few : k < max_lists
  pub room : used + n ≤ max_lists * max_words

-- the words of a list and of those after it
joined-more : (c : List ℕ) (lists : List (List ℕ)) → joined (c ∷ lists) ≡ c ++ joined lists
unfolding joined
joined-more c lists = refl

none-joined : joined [] ≡ []
unfolding joined
none-joined = refl

degree-is : (c : List ℕ) → naive_degree c ≡ length c - 1
unfolding naive_degree
degree-is c = refl

module _ {text words degrees : List ℕ} {used k : ℕ} {left : List (List ℕ)} (w : Partway text words degrees used k left) where
  module _ {line : List ℕ} {rest : List (List ℕ)} (e : left ≡ line ∷ rest) where
    tests : (wrong_length max_words (list_of line) ≡ false) × (any_of (wrong_length max_words) (map list_of rest) ≡ false)
    tests = or-false _ _ (sym (ap (λ ls. any_of (wrong_length max_words) (map list_of ls)) e) ∙ w.each)

    pub turn : length (lines_of text) ≤ max_lists → Turn used k (length (list_of line))
    turn few =
        let limits = right-length _ tests.0 in
        let below = w.below in
        let lines = w.lines in
        let left = ap length e in
        record { some = omega arith; short = omega arith; few = omega arith; room = omega arith }

    pub partway-next : {i m n : ℕ} {part : List ℕ} (after : List ℕ) → length (lines_of text) ≤ max_lists → i ≡ k → m ≡ k + 1
        → n ≡ length (list_of line) → length words ≡ max_lists * max_words → length degrees ≡ max_lists → part ≡ map capped (list_of line)
        → Partway text (take used words ++ (part ++ after)) (set degrees i (n - 1)) (used + n) m rest
    partway-next {i} {m} {n} {part} after few p p' q lw ld f =
        let c = list_of line in
        let lists = map list_of rest in
        let t = turn few in
        let next : map list_of left ≡ c ∷ lists = ap (map list_of) e in
        let more = ap joined next ∙ joined-more c lists in
        let words_left = ap length more ∙ length-append c (joined lists) in
        let lines_left = ap length e in
        let size = ap length f ∙ length-map c capped ∙ sym q in
        record {
          below = omega (arith, w.below, t.short);
          lines = omega (arith, w.lines);
          size = omega (arith, w.size);
          each = tests.1;
          read =
              ap (λ a. a ++ map capped (joined lists)) (part_filled words part after used n (omega (arith, t.room)) size ∙ ap (λ a. take used words ++ a) f)
              ∙ append_assoc (take used words) (map capped c) (map capped (joined lists))
              ∙ ap (λ a. take used words ++ a) (sym (map-append capped c (joined lists)) ∙ ap (map capped) (sym more))
              ∙ w.read;
          told =
              ap₂ (λ j h. take j (set degrees h (n - 1)) ++ map naive_degree lists) p' p
              ∙ ap (λ a. a ++ map naive_degree lists) (take_more_set degrees k (n - 1) (omega (arith, t.few)))
              ∙ append_assoc (take k degrees) ((n - 1) ∷ []) (map naive_degree lists)
              ∙ ap (λ d. take k degrees ++ (d ∷ map naive_degree lists)) (ap (λ h. h - 1) q ∙ sym (degree-is c))
              ∙ ap (λ ls. take k degrees ++ map naive_degree ls) (sym next)
              ∙ w.told;
        }

  pub partway_end : left ≡ [] → Loaded text words degrees used
  partway_end e =
      let lines = ap length e in
      let none = ap (λ ls. joined (map list_of ls)) e ∙ none-joined in
      let all : k ≡ length (lines_of text) = omega (arith, w.lines) in
      record {
        size = omega (arith, w.size, ap length none);
        read = sym (append-nil (take used words)) ∙ ap (λ a. take used words ++ map capped a) (sym none) ∙ w.read;
        told =
            ap (λ i. take i degrees) (sym all)
            ∙ sym (append-nil (take k degrees))
            ∙ ap (λ ls. take k degrees ++ map naive_degree (map list_of ls)) (sym e)
            ∙ w.told;
      }

-- what is loaded lies in the buffers
pub loaded-inside : {text words degrees : List ℕ} {n : ℕ} → Loaded text words degrees n
    → (n ≤ length words) × (length (lines_of text) ≤ length degrees)
loaded-inside {text} {words} {degrees} {n} w =
    let size = w.size in
    let read = sym (length-take n words) ∙ ap length w.read ∙ length-map (joined (lists_in text)) capped in
    let told =
    sym (length-take (length (lines_of text)) degrees) ∙ ap length w.told ∙ length-map (lists_in text) naive_degree ∙ length-lists text in
    (omega arith, omega arith)

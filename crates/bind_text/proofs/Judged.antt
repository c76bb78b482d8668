-- What a text is refused with, as the chain of tests that the code makes; and the album of its lists.
--     text-none, text-many, text-long, text-other, text-wrong, text-done     what is found at each way out of the judge
--     text-sound                                                             what is known of a text that is not refused
--     bind-refused                                                           a text that is refused before its numbers are read
--     Given                                                                  words and degrees as they are read from another
--     bind-answer, bind-writes                                               what the writer answers and writes for these
--     album-inside                                                           an album that is written lies in the target
-- Assumes nothing.
use mathlib.Core.Path.{◌≡◌, refl, sym, ◌∙◌, ap, ap₂}
use mathlib.Core.Bool.{true, false, ◌||◌, or-true}
use mathlib.Core.List.{List, [], ◌∷◌, map}
use Prim.Native.Nat.{ℕ, ◌≤◌, ◌<◌}
use native.Mathlib.Omega.{arith}
use lib.Dec.{ltb}
use lib.ListN.{length, get_or, take, drop, length-append, length-map}
use borrow.Author.Tests.{eq-eqb, lt-ltb, le-ltb}
use Rattle.std.specs.Prelude.{Ok, Err, Result}
use Rattle.refusal.specs.Limits.{max_degree, max_lists, max_words, max_bytes}
use Rattle.refusal.specs.Refusal.{reply, written, Outcome}
use Rattle.refusal.specs.Lowest.{◌given-when◌, lowest}
use Rattle.refusal.specs.declared.Refusal.{Refusal}
use Rattle.refusal.specs.declared.Refusal.TheVariants.{Count, Contents, Length, LooseWord, Misfit}
use Rattle.refusal.proofs.First.{refuse, or_else, first-is, first_then, refuse-done}
use Rattle.refusal.proofs.Answers.{kept, done-reply}
use Rattle.field.specs.Fields.{modulus}
use Rattle.lists.specs.Degrees.{naive_degree}
use Rattle.lists.specs.Refused.{wrong_length, has_loose, any_of}
use Rattle.album_layout.specs.Written.{album_of}
use Rattle.album_writer.specs.Cut.{words_for, cut_by, joined}
use Rattle.album_writer.specs.Calls.{wrong_lists, has_high, write_rows, over_front, written_reply}
use Rattle.album_writer.proofs.Cut.{AllSome, cut-joined, joined-size, joined-loose}
use Rattle.album_writer.proofs.Judged.{some-lists, right-lists, all-low, short-degrees, write-judged}
use Rattle.bind_text.specs.Text.{lines_of, lists_in, has_other}
use Rattle.bind_text.specs.Calls.{max_input, text_refusals, bind_rows, bind_answer, bind_written}
use Rattle.bind_text.specs.Internal.{capped, Sound, Loaded}
use Rattle.bind_text.proofs.Lists.{length-lists, each_right}
use Rattle.bind_text.proofs.Numbers.{loose-capped, tight-capped}

module _ (text : List ℕ) where
  text-judged : lowest (text_refusals text)
      ≡ refuse (wrong_lists (length (lines_of text))) Count
      (refuse (ltb max_input (length text) || has_other text) Contents
      (refuse (any_of (wrong_length max_words) (lists_in text)) Length (Ok tt)))
  unfolding text_refusals
  text-judged = first-is (text_refusals text) tt

  wrong-none : length (lines_of text) ≡ 0 → wrong_lists (length (lines_of text)) ≡ true
  unfolding wrong_lists
  wrong-none e = simp (eq-eqb (length (lines_of text)) 0 e)

  wrong-many : max_lists < length (lines_of text) → wrong_lists (length (lines_of text)) ≡ true
  unfolding wrong_lists
  wrong-many l = simp (lt-ltb max_lists (length (lines_of text)) l, or-true)

  pub text-none : length (lines_of text) ≡ 0 → Err Count ≡ lowest (text_refusals text)
  text-none e = sym (text-judged ∙ simp (wrong-none e))

  pub text-many : max_lists < length (lines_of text) → Err Count ≡ lowest (text_refusals text)
  text-many l = sym (text-judged ∙ simp (wrong-many l))

  module _ (some : 0 < length (lines_of text)) (few : length (lines_of text) ≤ max_lists) where
    counted : wrong_lists (length (lines_of text)) ≡ false
    counted = right-lists (length (lines_of text)) some few

    pub text-long : max_input < length text → Err Contents ≡ lowest (text_refusals text)
    text-long l = sym (text-judged ∙ simp (counted, lt-ltb max_input (length text) l))

    module _ (short : length text ≤ max_input) where
      pub text-other : has_other text ≡ true → Err Contents ≡ lowest (text_refusals text)
      text-other e = sym (text-judged ∙ simp (counted, le-ltb max_input (length text) short, e))

      module _ (plain : has_other text ≡ false) where
        pub text-wrong : any_of (wrong_length max_words) (lists_in text) ≡ true → Err Length ≡ lowest (text_refusals text)
        text-wrong e = sym (text-judged ∙ simp (counted, le-ltb max_input (length text) short, plain, e))

        pub text-done : any_of (wrong_length max_words) (lists_in text) ≡ false → Ok tt ≡ lowest (text_refusals text)
        text-done e = sym (text-judged ∙ simp (counted, le-ltb max_input (length text) short, plain, e))

  text-fine : lowest (text_refusals text) ≡ Ok tt
      → (wrong_lists (length (lines_of text)) ≡ false) × (any_of (wrong_length max_words) (lists_in text) ≡ false)
  text-fine e =
      let count = refuse-done (wrong_lists (length (lines_of text))) _ _ (sym text-judged ∙ e) in
      let contents = refuse-done (ltb max_input (length text) || has_other text) _ _ count.1 in
      (count.0, (refuse-done (any_of (wrong_length max_words) (lists_in text)) _ _ contents.1).0)

  pub text-sound : lowest (text_refusals text) ≡ Ok tt → Sound text
  text-sound e = let fine = text-fine e in record { few = (some-lists (length (lines_of text)) fine.0).1; each = fine.1 }

module _ (p : ℕ) (text out : List ℕ) where
  bind-judged : lowest (bind_rows p text out)
      ≡ or_else (lowest (text_refusals text))
      (refuse (any_of (has_loose p) (lists_in text)) LooseWord (refuse (ltb (length out) max_bytes) Misfit (Ok tt)))
  unfolding bind_rows text_refusals
  bind-judged =
      first_then (text_refusals text)
      (LooseWord given-when any_of (has_loose p) (lists_in text) ∷ Misfit given-when ltb (length out) max_bytes ∷ []) tt

  pub bind-refused : {why : Refusal} → lowest (text_refusals text) ≡ Err why
      → (reply (Err why) [] ≡ reply (lowest (bind_rows p text out)) (length (album_of (lists_in text)) ∷ []))
      × (out ≡ written (lowest (bind_rows p text out)) (over_front (album_of (lists_in text)) out) out)
  bind-refused {why} e =
      let found : lowest (bind_rows p text out) ≡ Err why = bind-judged ∙ simp e in
      (sym (ap (λ o. reply o (length (album_of (lists_in text)) ∷ [])) found), kept (over_front (album_of (lists_in text)) out) out found)

  bind-sound : lowest (text_refusals text) ≡ Ok tt
      → lowest (bind_rows p text out) ≡ refuse (any_of (has_loose p) (lists_in text)) LooseWord (refuse (ltb (length out) max_bytes) Misfit (Ok tt))
  bind-sound e = bind-judged ∙ simp e

pub record Given (text words degrees : List ℕ) : Type 0 where
  pub fine : lowest (text_refusals text) ≡ Ok tt
  pub read : words ≡ map capped (joined (lists_in text))
  pub told : degrees ≡ map naive_degree (lists_in text)

-- as they are loaded
pub given-loaded : {text words degrees : List ℕ} {n lists : ℕ} → lowest (text_refusals text) ≡ Ok tt → Loaded text words degrees n
    → lists ≡ length (lines_of text) → Given text (take n words) (take lists degrees)
given-loaded {text} {words} {degrees} f w e =
    record { fine = f; read = w.read; told = ap (λ i. take i degrees) e ∙ w.told }

-- an answer and a slice of two calls that refuse the same, where they work the same
replied : {found other : Outcome} (v w : List ℕ) → found ≡ other → (found ≡ Ok tt → v ≡ w) → reply found v ≡ reply other w
replied {found} {other} v w e f = go found f ∙ ap (λ o. reply o w) e
  where
    go : (o : Outcome) → (o ≡ Ok tt → v ≡ w) → reply o v ≡ reply o w
    go (Ok _) f = ap (reply (Ok tt)) (f refl)
    go (Err why) f = refl

left : {found other : Outcome} (v w old : List ℕ) → found ≡ other → (found ≡ Ok tt → v ≡ w) → written found v old ≡ written other w old
left {found} {other} v w old e f = go found f ∙ ap (λ o. written o w old) e
  where
    go : (o : Outcome) → (o ≡ Ok tt → v ≡ w) → written o v old ≡ written o w old
    go (Ok _) f = f refl
    go (Err why) f = refl

module _ (p : ℕ) (small : p ≤ 65535) (text words degrees out : List ℕ) (g : Given text words degrees) where
  some_words : AllSome (lists_in text)
  some_words k l = (each_right (lists_in text) (text-fine text g.fine).1 k l).0

  right-number : wrong_lists (length degrees) ≡ false
  right-number =
      ap (λ d. wrong_lists (length d)) g.told
      ∙ ap wrong_lists (length-map (lists_in text) naive_degree ∙ length-lists text)
      ∙ (text-fine text g.fine).0

  low-degrees : has_high max_degree degrees ≡ false
  low-degrees =
      ap (has_high max_degree) g.told
      ∙ all-low max_degree (map naive_degree (lists_in text)) (short-degrees (lists_in text) (λ k l. (each_right (lists_in text) (text-fine text g.fine).1 k l).1))

  right-size : length words ≡ words_for degrees
  right-size =
      ap length g.read
      ∙ length-map (joined (lists_in text)) capped
      ∙ joined-size (lists_in text) some_words
      ∙ ap words_for (sym g.told)

  same-loose : has_loose p words ≡ any_of (has_loose p) (lists_in text)
  same-loose = ap (has_loose p) g.read ∙ loose-capped p small (joined (lists_in text)) ∙ sym (joined-loose p (lists_in text))

  same_rows : lowest (write_rows p words degrees out) ≡ lowest (bind_rows p text out)
  same_rows =
      write-judged p words degrees out
      ∙ simp (right-number, low-degrees, eq-eqb (length words) (words_for degrees) right-size, same-loose) (sym (bind-sound p text out g.fine))

  -- where nothing is refused, no number was cut off
  same_lists : lowest (write_rows p words degrees out) ≡ Ok tt → cut_by degrees words ≡ lists_in text
  same_lists e =
      let rows = sym (bind-sound p text out g.fine) ∙ sym same_rows ∙ e in
      let none = (refuse-done (any_of (has_loose p) (lists_in text)) _ _ rows).0 in
      let tight = tight-capped p small (joined (lists_in text)) (sym (joined-loose p (lists_in text)) ∙ none) in
      ap₂ cut_by g.told (g.read ∙ tight) ∙ cut-joined (lists_in text) some_words

  pub bind-answer : reply (lowest (write_rows p words degrees out)) (length (album_of (cut_by degrees words)) ∷ [])
      ≡ reply (lowest (bind_rows p text out)) (length (album_of (lists_in text)) ∷ [])
  bind-answer = replied _ _ same_rows (λ e. ap (λ lists. length (album_of lists) ∷ []) (same_lists e))

  pub bind-writes : written (lowest (write_rows p words degrees out)) (over_front (album_of (cut_by degrees words)) out) out
      ≡ written (lowest (bind_rows p text out)) (over_front (album_of (lists_in text)) out) out
  bind-writes = left _ _ out same_rows (λ e. ap (λ lists. over_front (album_of lists) out) (same_lists e))

pub album-inside : (k : ℕ) (text out : List ℕ) {left : List ℕ} {n : ℕ} {r : Result ℕ Refusal} → r ≡ Ok n
    → written_reply r ≡ bind_answer k text out → left ≡ bind_written k text out → n ≤ length left
album-inside k text out {left} {n} i e w =
    let album = album_of (lists_in text) in
    let found = done-reply (lowest (bind_rows (modulus k) text out)) (n ∷ []) (length album ∷ []) (ap written_reply (sym i) ∙ e) in
    let size : n ≡ length album = ap (λ v. get_or v 0 0) found.1 in
    let whole = ap length (w ∙ ap (λ o. written o (over_front album out) out) found.0) ∙ length-append album (drop (length album) out) in
    omega arith

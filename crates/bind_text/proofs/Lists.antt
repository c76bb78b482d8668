-- The lines of a text and the numbers of a line.
--     lines_at, lines_whole       the first line ends at the first line end; where there is none, it is the whole text
--     lines_none, lines_empty     an empty text has no lines, and as many line ends
--     lines_ended, lines_open     as many lines as line ends, where one comes last; else one more
--     fields_none                 a line of spaces says no number
--     fields_at, fields_whole     the first number begins at the first byte that is no space, and ends at the next space, or with the line
--     fields-short                there are no more numbers than bytes
--     length-lists, length-list   as many lists as lines, and as many words as fields
--     wrong-any                   the search for a list of a wrong length
--     right-length, each_right    lists of no wrong length have words, and no more than the limit
-- Assumes nothing.
use mathlib.Core.Path.{◌≡◌, refl, sym, ◌∙◌, ap}
use mathlib.Core.Bool.{false, ◌||◌}
use mathlib.Core.List.{List, [], ◌∷◌, map}
use Prim.Native.Nat.{ℕ, zero, suc, ◌+◌, ◌-◌, ◌≤◌, ◌<◌}
use native.Mathlib.Omega.{arith}
use lib.Dec.{eqb, ltb}
use lib.ListN.{length, get_or, take, drop, length-map, length-drop}
use borrow.Author.Tests.{eq-eqb, ne_eqb, eqb-false, ltb-false}
use Rattle.std.specs.List.{count_by, list_any}
use Rattle.std.proofs.lemmas.List.{get_or-drop}
use Rattle.refusal.specs.Limits.{max_words}
use Rattle.refusal.proofs.First.{or-false}
use Rattle.lists.specs.Refused.{wrong_length, any_of}
use Rattle.bind_text.specs.Text.{⟨line-end⟩, ⟨space⟩, parts, lines_of, fields_of, list_of, lists_in}
use Rattle.bind_text.proofs.Parts.{parts-short, parts-counted, parts_at, parts_whole, filled_after, filled_none, filled_at, filled_whole, filled-short}

pub lines_at : (text : List ℕ) (i : ℕ) → i < length text → get_or text i 0 ≡ ⟨line-end⟩ → ((k : ℕ) → k < i → get_or text k 0 ≡ ⟨line-end⟩ → ⊥)
    → lines_of text ≡ take i text ∷ lines_of (drop (suc i) text)
unfolding lines_of
lines_at text i l e f = parts_at ⟨line-end⟩ text i l e f

pub lines_whole : (text : List ℕ) → 0 < length text → ((k : ℕ) → k < length text → get_or text k 0 ≡ ⟨line-end⟩ → ⊥) → lines_of text ≡ text ∷ []
unfolding lines_of
lines_whole text l f = parts_whole ⟨line-end⟩ text l f

pub lines_none : (text : List ℕ) → length text ≡ 0 → lines_of text ≡ []
unfolding lines_of parts
lines_none [] e = refl
lines_none (x ∷ text) e = absurd (omega arith)

pub lines_ended : (text : List ℕ) → 0 < length text → get_or text (length text - 1) 0 ≡ ⟨line-end⟩
    → length (lines_of text) ≡ count_by (λ x. eqb x ⟨line-end⟩) text
unfolding lines_of
lines_ended text l e =
    parts-counted ⟨line-end⟩ text (length text - 1) (omega arith) ∙ simp (eq-eqb (get_or text (length text - 1) 0) ⟨line-end⟩ e) (omega arith)

pub lines_open : (text : List ℕ) → 0 < length text → (get_or text (length text - 1) 0 ≡ ⟨line-end⟩ → ⊥)
    → length (lines_of text) ≡ count_by (λ x. eqb x ⟨line-end⟩) text + 1
unfolding lines_of
lines_open text l e =
    parts-counted ⟨line-end⟩ text (length text - 1) (omega arith) ∙ simp (ne_eqb (get_or text (length text - 1) 0) ⟨line-end⟩ e)

pub lines_empty : (text : List ℕ) → length text ≡ 0 → length (lines_of text) ≡ count_by (λ x. eqb x ⟨line-end⟩) text
unfolding lines_of parts
lines_empty [] e = refl
lines_empty (x ∷ text) e = absurd (omega arith)

pub fields_none : (line : List ℕ) → ((k : ℕ) → k < length line → get_or line k 0 ≡ ⟨space⟩) → fields_of line ≡ []
unfolding fields_of
fields_none line f = filled_none ⟨space⟩ line f

-- a line whose first number begins at i; `rest` is what is left from there on
module _ (line rest : List ℕ) (i : ℕ) (e : rest ≡ drop i line) (l : i < length line) (begins : get_or line i 0 ≡ ⟨space⟩ → ⊥)
    (spaces : (k : ℕ) → k < i → get_or line k 0 ≡ ⟨space⟩)
  where
    first : get_or (drop i line) 0 0 ≡ get_or line i 0
    first = let e : i + 0 ≡ i = omega arith in get_or-drop i line 0 0 ∙ ap (λ m. get_or line m 0) e

    same : (k : ℕ) → get_or rest k 0 ≡ get_or (drop i line) k 0
    same k = ap (λ r. get_or r k 0) e

    pub fields_at : (j : ℕ) → j < length rest → get_or rest j 0 ≡ ⟨space⟩ → ((k : ℕ) → k < j → get_or rest k 0 ≡ ⟨space⟩ → ⊥)
        → fields_of line ≡ take j (drop i line) ∷ fields_of (drop (suc j) (drop i line))
    unfolding fields_of
    fields_at j h is f =
        filled_after ⟨space⟩ line i (omega arith) spaces
        ∙ filled_at ⟨space⟩ (drop i line) j (λ o. begins (sym first ∙ o)) (omega (arith, ap length e)) (sym (same j) ∙ is)
        (λ k m o. f k m (same k ∙ o))

    pub fields_whole : ((k : ℕ) → k < length rest → get_or rest k 0 ≡ ⟨space⟩ → ⊥) → fields_of line ≡ drop i line ∷ []
    unfolding fields_of
    fields_whole f =
        filled_after ⟨space⟩ line i (omega arith) spaces
        ∙ filled_whole ⟨space⟩ (drop i line) (omega (arith, length-drop i line)) (λ k m o. f k (omega (arith, ap length e)) (same k ∙ o))

pub fields-short : (line : List ℕ) → length (fields_of line) ≤ length line
unfolding fields_of
fields-short line = omega (arith, filled-short (parts ⟨space⟩ line), parts-short ⟨space⟩ line)

pub length-lists : (text : List ℕ) → length (lists_in text) ≡ length (lines_of text)
unfolding lists_in
length-lists text = length-map (lines_of text) list_of

pub length-list : (line : List ℕ) → length (list_of line) ≡ length (fields_of line)
unfolding list_of
length-list line = length-map (fields_of line) _

pub wrong-any : (text : List ℕ)
    → list_any (λ line. wrong_length max_words (list_of line)) (lines_of text) ≡ any_of (wrong_length max_words) (lists_in text)
unfolding lists_in
wrong-any text = go (lines_of text)
  where
    go : (lines : List (List ℕ)) → list_any (λ line. wrong_length max_words (list_of line)) lines ≡ any_of (wrong_length max_words) (map list_of lines)
    go [] = refl
    go (line ∷ lines) = ap (λ t. wrong_length max_words (list_of line) || t) (go lines)

pub right-length : (c : List ℕ) → wrong_length max_words c ≡ false → (0 < length c) × (length c ≤ max_words)
unfolding wrong_length
right-length c e =
    let tests = or-false (eqb (length c) 0) (ltb max_words (length c)) e in
    let words = eqb-false (length c) 0 tests.0 in
    (omega arith, ltb-false max_words (length c) tests.1)

pub each_right : (lists : List (List ℕ)) → any_of (wrong_length max_words) lists ≡ false
    → (k : ℕ) → k < length lists → (0 < length (get_or lists k [])) × (length (get_or lists k []) ≤ max_words)
each_right [] e k l = absurd (omega arith)
each_right (c ∷ lists) e zero l = right-length c (or-false (wrong_length max_words c) (any_of (wrong_length max_words) lists) e).0
each_right (c ∷ lists) e (suc k) l = each_right lists (or-false (wrong_length max_words c) (any_of (wrong_length max_words) lists) e).1 k (omega arith)

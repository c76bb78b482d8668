-- The loops of the writer, and the parts of the album together.
--     high-any                   the search for a degree above the limit
--     words-sum                  the sum of the degrees, each plus 1
--     entries_next, entries-end  the entries, one turn on and at the end
--     album-parts                the count, the entries and the bodies, one after the other
-- Assumes nothing.
use mathlib.Core.Path.{◌≡◌, refl, sym, ◌∙◌, ap, ap₂}
use mathlib.Core.Bool.{◌||◌}
use mathlib.Core.List.{List, [], ◌∷◌, ◌++◌, append_assoc, append-nil}
use Prim.Native.Nat.{ℕ, suc, ◌+◌, ◌-◌, ◌*◌, ◌/◌, ◌%◌, ◌<◌, ◌≤◌}
use native.Mathlib.Numerals.{add-one}
use native.Mathlib.Omega.{arith}
use lib.Dec.{ltb}
use lib.ListN.{length, get_or, set, take, drop, length-take, length-drop, drop_of_length-le}
use lib.Seq.{drop-cons, drop-length, take_all, take_at, drop-drop}
use borrow.Rule.Slice.PartMut.{put_mid}
use Rattle.std.specs.List.{list_any, sum_by}
use Rattle.std.proofs.lemmas.Slice.{take-put_mid}
use Rattle.std.proofs.lemmas.List.Recursion.{same_from_clauses, is_sum_by}
use Rattle.refusal.specs.Limits.{entry_bytes}
use Rattle.lists.specs.Bytes.{byte_values, bytes_of}
use Rattle.album_layout.specs.Layout.{entry_at}
use Rattle.album_writer.specs.Cut.{words_for}
use Rattle.album_writer.specs.Calls.{has_high}
use Rattle.album_writer.specs.Internal.{entries_by, album_by}
use Rattle.album_writer.proofs.Album.{length-entries_by}

-- ---- the search and the sum
pub high-any : (most : ℕ) (degrees : List ℕ) → list_any (ltb most) degrees ≡ has_high most degrees
unfolding has_high
high-any most = same_from_clauses (list_any (ltb most)) (has_high most) (λ d b. ltb most d || b) refl (λ _ _. refl) (λ _ _. refl)

pub words-sum : (degrees : List ℕ) → words_for degrees ≡ sum_by (λ d. d + 1) degrees
unfolding words_for
words-sum = is_sum_by words_for (λ d. d + 1) refl (λ _ _. refl)

-- ---- the entries
-- the low and the high byte of a word
pub two-bytes : (w : ℕ) {l h : ℕ} → l ≡ w % byte_values → h ≡ w / byte_values → l ∷ h ∷ [] ≡ bytes_of (w ∷ [])
unfolding bytes_of
two-bytes w el eh = ap₂ (λ a b. a ∷ b ∷ []) el eh

-- two halves of two bytes, written one after the other to a part of four bytes
halves : (b c part : List ℕ) → length b ≡ 2 → length part ≡ 4 → put_mid 2 (length (b ++ drop 2 part) - 2) (b ++ drop 2 part) c ≡ b ++ c
halves b c part eb ep =
    ap₂ (λ x y. x ++ (c ++ y)) (take_at b (drop 2 part) 2 eb) (drop_of_length-le (drop 2 (b ++ drop 2 part)) (omega (arith, length-drop 2 (b ++ drop 2 part))))
    ∙ ap (λ y. b ++ y) (append-nil c)

module _ (degrees out : List ℕ) (k place : ℕ) where
  -- the bytes that entry k is written to
  abbrev part : List ℕ
  part = take (entry_bytes * (k + 1) - entry_bytes * k) (drop (entry_bytes * k) out)

  pub entries_next : {next : ℕ} {b c : List ℕ} → k < length degrees → length out ≡ entry_bytes * length degrees → b ≡ bytes_of (get_or degrees k 0 ∷ [])
      → c ≡ bytes_of (place ∷ []) → next ≡ place + 2 * (get_or degrees k 0 + 1)
      → take (entry_bytes * (k + 1)) (put_mid (entry_bytes * k) (entry_bytes * (k + 1) - entry_bytes * k) out (put_mid 2 (length (b ++ drop 2 part) - 2) (b ++ drop 2 part) c))
      ++ bytes_of (entries_by next (drop (k + 1) degrees))
      ≡ take (entry_bytes * k) out ++ bytes_of (entries_by place (drop k degrees))
  unfolding entries_by bytes_of
  entries_next {next} {b} {c} l size eb ec ex =
      ap (λ r. r ++ left) (take-put_mid (entry_bytes * k) (entry_bytes * (k + 1) - entry_bytes * k) out _ (entry_bytes * (k + 1)) (omega (arith, ap length four)) (omega arith))
      ∙ append_assoc (take (entry_bytes * k) out) _ left
      ∙ ap (λ r. take (entry_bytes * k) out ++ r) rest
    where
      left : List ℕ
      left = bytes_of (entries_by next (drop (k + 1) degrees))

      four : put_mid 2 (length (b ++ drop 2 part) - 2) (b ++ drop 2 part) c ≡ bytes_of (get_or degrees k 0 ∷ place ∷ [])
      four =
          halves b c part (ap length eb) (simp (length-take, length-drop) (omega arith))
          ∙ ap₂ ◌++◌ eb ec

      rest : put_mid 2 (length (b ++ drop 2 part) - 2) (b ++ drop 2 part) c ++ left ≡ bytes_of (entries_by place (drop k degrees))
      rest =
          ap (λ r. r ++ left) four
          ∙ ap₂ (λ x t. bytes_of (get_or degrees k 0 ∷ place ∷ entries_by x (drop t degrees))) ex (add-one k)
          ∙ sym (ap (λ x. bytes_of (entries_by place x)) (drop-cons degrees k 0 l))

  pub entries-end : k ≡ length degrees → length out ≤ entry_bytes * k → out ≡ take (entry_bytes * k) out ++ bytes_of (entries_by place (drop k degrees))
  unfolding entries_by bytes_of
  entries-end e l =
      sym (take_all (entry_bytes * k) out l) ∙ sym (append-nil (take (entry_bytes * k) out))
      ∙ ap (λ d. take (entry_bytes * k) out ++ bytes_of (entries_by place d)) (sym (ap (λ i. drop i degrees) e ∙ drop-length degrees))

-- ---- the parts
-- nothing stands after the last part
last-part : (a k : ℕ) (xs ys : List ℕ) → length xs ≤ a + k → take a xs ++ (ys ++ drop k (drop a xs)) ≡ take a xs ++ ys
last-part a k xs ys l = ap (λ r. take a xs ++ r) (ap (λ r. ys ++ r) (drop-drop k a xs ∙ drop_of_length-le xs l) ∙ append-nil ys)

-- the target with the count and the entries in it
abbrev pub headed : (degrees out entries : List ℕ) → List ℕ
headed degrees out entries =
    take 1 (set out 0 (length degrees)) ++ (entries ++ drop (entry_at (length degrees) - 1) (drop 1 (set out 0 (length degrees))))

head-part : (degrees out entries rest : List ℕ) → 0 < length out → entries ≡ bytes_of (entries_by (entry_at (length degrees)) degrees)
    → take (entry_at (length degrees)) (take 1 (set out 0 (length degrees)) ++ (entries ++ rest))
    ≡ length degrees ∷ bytes_of (entries_by (entry_at (length degrees)) degrees)
head-part degrees [] entries rest some e = absurd (omega arith)
head-part degrees (x ∷ out) entries rest some e =
    ap (λ i. take i (length degrees ∷ (entries ++ rest))) next
    ∙ ap (λ l. length degrees ∷ l)
    (take_at entries rest (entry_bytes * length degrees) (ap length e ∙ length-entries_by (entry_at (length degrees)) degrees) ∙ e)
  where
    next : entry_at (length degrees) ≡ suc (entry_bytes * length degrees)
    next = omega arith

pub album-parts : (words degrees out entries body : List ℕ) → 0 < length out → entries ≡ bytes_of (entries_by (entry_at (length degrees)) degrees)
    → body ≡ bytes_of words
    → take (entry_at (length degrees)) (headed degrees out entries)
    ++ (body ++ drop (length (headed degrees out entries) - entry_at (length degrees)) (drop (entry_at (length degrees)) (headed degrees out entries)))
    ≡ album_by words degrees
unfolding album_by
album-parts words degrees out entries body some ee eb =
    last-part (entry_at (length degrees)) (length (headed degrees out entries) - entry_at (length degrees)) (headed degrees out entries) body (omega arith)
    ∙ ap₂ ◌++◌ (head-part degrees out entries _ some ee) eb

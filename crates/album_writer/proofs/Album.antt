-- The album that is written from degrees and words is that of the lists which the degrees cut from the words.
--     length-album_by      its length
-- Theorems:
--     album-is            the two are the same
--     cut-writable        an album can hold these lists
-- Assumes nothing.
use mathlib.Core.Path.{◌≡◌, refl, sym, ◌∙◌, ap, ap₂}
use mathlib.Core.List.{List, [], ◌∷◌, ◌++◌}
use Prim.Native.Nat.{ℕ, zero, suc, ◌+◌, ◌*◌, ◌/◌, ◌%◌, ◌-◌, ◌≤◌, ◌<◌}
use native.Mathlib.Decide.{dec_lt}
use native.Mathlib.Omega.{arith}
use lib.ListN.{length, get_or, take, drop, length-drop, length-append, take-append-drop, get_or-eq_default}
use lib.Seq.{length-take-le, get_or-take, get_or-drop}
use Rattle.refusal.specs.Limits.{max_lists, entry_bytes}
use Rattle.lists.specs.Degrees.{naive_degree}
use Rattle.lists.specs.Bytes.{bytes_of}
use Rattle.lists.proofs.Bytes.{length-bytes_of}
use Rattle.album_layout.specs.Layout.{entry_at}
use Rattle.album_layout.specs.Written.{entries_from, bodies_of, album_of, Fits, Writable}
use Rattle.album_writer.specs.Cut.{words_for, cut_by}
use Rattle.album_writer.specs.Internal.{entries_by, album_by, Low}
use Rattle.album_writer.proofs.Cut.{length_cut, none_left}

-- ---- lengths
pub length-entries_by : (at : ℕ) (degrees : List ℕ) → length (bytes_of (entries_by at degrees)) ≡ entry_bytes * length degrees
unfolding entries_by bytes_of
length-entries_by at [] = refl
length-entries_by at (d ∷ degrees) = omega (arith, length-entries_by (at + 2 * (d + 1)) degrees)

pub length-album_by : (words degrees : List ℕ) → length (album_by words degrees) ≡ entry_at (length degrees) + 2 * length words
unfolding album_by
length-album_by words degrees =
    ap suc (length-append (bytes_of (entries_by (entry_at (length degrees)) degrees)) (bytes_of words))
    ∙ omega (arith, length-entries_by (entry_at (length degrees)) degrees, length-bytes_of words)

-- ---- entries and bodies of the lists
taken : (d : ℕ) (words : List ℕ) → d + 1 ≤ length words → length (take (d + 1) words) ≡ d + 1
taken d words l = length-take-le (d + 1) words l

entries-cut : (degrees words : List ℕ) (at : ℕ) → words_for degrees ≤ length words → entries_from at (cut_by degrees words) ≡ entries_by at degrees
unfolding entries_from cut_by entries_by words_for naive_degree
entries-cut [] words at l = refl
entries-cut (d ∷ degrees) words at l =
    ap₂ (λ e n. e ∷ at ∷ entries_from (at + 2 * n) (cut_by degrees (drop (d + 1) words))) less (taken d words (omega arith))
    ∙ ap (λ r. d ∷ at ∷ r) (entries-cut degrees (drop (d + 1) words) (at + 2 * (d + 1)) (simp length-drop (omega arith)))
  where
    less : length (take (d + 1) words) - 1 ≡ d
    less = omega (arith, taken d words (omega arith))

bytes-append : (a b : List ℕ) → bytes_of (a ++ b) ≡ bytes_of a ++ bytes_of b
unfolding bytes_of
bytes-append [] b = refl
bytes-append (x ∷ a) b = ap (λ r. x % 256 ∷ x / 256 ∷ r) (bytes-append a b)

no_bytes : bytes_of [] ≡ []
unfolding bytes_of
no_bytes = refl

bodies-cut : (degrees words : List ℕ) → length words ≡ words_for degrees → bodies_of (cut_by degrees words) ≡ bytes_of words
unfolding bodies_of cut_by words_for
bodies-cut [] words e = sym (ap bytes_of (none_left words e) ∙ no_bytes)
bodies-cut (d ∷ degrees) words e =
    ap (λ r. bytes_of (take (d + 1) words) ++ r) (bodies-cut degrees (drop (d + 1) words) (simp length-drop (omega arith)))
    ∙ sym (bytes-append (take (d + 1) words) (drop (d + 1) words))
    ∙ ap bytes_of (take-append-drop (d + 1) words)

pub album-is : (degrees words : List ℕ) → length words ≡ words_for degrees → album_by words degrees ≡ album_of (cut_by degrees words)
unfolding album_of album_by
album-is degrees words e =
    sym
    (ap (λ n. n ∷ bytes_of (entries_from (entry_at n) (cut_by degrees words)) ++ bodies_of (cut_by degrees words)) (length_cut degrees words)
    ∙ ap₂ (λ a b. length degrees ∷ bytes_of a ++ b) (entries-cut degrees words (entry_at (length degrees)) (omega arith)) (bodies-cut degrees words e))

-- ---- each list has its degree plus 1 words
fits_each : (degrees words : List ℕ) → words_for degrees ≤ length words → Low degrees → ((k : ℕ) → get_or words k 0 < 65536)
    → (k : ℕ) → k < length (cut_by degrees words) → Fits (get_or (cut_by degrees words) k [])
unfolding cut_by words_for
fits_each [] words l hd hw k i = absurd (omega arith)
fits_each (d ∷ degrees) words l hd hw zero i =
    record {
      some = omega (arith, taken d words (omega arith));
      short = omega (arith, taken d words (omega arith), hd 0);
      words = below;
    }
  where
    below : (j : ℕ) → get_or (take (d + 1) words) j 0 < 65536
    below j = go (dec_lt j (d + 1))
      where
        go : Dec (j < d + 1) → get_or (take (d + 1) words) j 0 < 65536
        go (yes q) = rw (get_or-take (d + 1) words j 0 q) (hw j)
        go (no q) = rw (get_or-eq_default (take (d + 1) words) 0 {n = j} (omega (arith, taken d words (omega arith)))) (omega arith)
fits_each (d ∷ degrees) words l hd hw (suc k) i =
    fits_each degrees (drop (d + 1) words) (simp length-drop (omega arith)) (λ k. hd (suc k)) (λ j. rw get_or-drop (hw (d + 1 + j))) k (omega arith)

pub cut-writable : (degrees words : List ℕ) → 1 ≤ length degrees → length degrees ≤ max_lists → length words ≡ words_for degrees → Low degrees
    → ((k : ℕ) → get_or words k 0 < 65536) → Writable (cut_by degrees words)
cut-writable degrees words some few size low tight =
    record {
      some = omega (arith, length_cut degrees words);
      few = omega (arith, length_cut degrees words);
      each = fits_each degrees words (omega arith) low tight;
    }

-- The line and the album as parts of the input.
--     ends-here, ends_on, ends-none     the search for the line's end, one byte on
--     line-inside                       the line is no longer than the input
--     line-is, album-is                 the line is what stands before its end, the album what stands behind the byte there
--     parts_join                        a line without byte 0A, that byte and an album are read as this line and this album
-- Assumes nothing.
use mathlib.Core.Path.{◌≡◌, refl, sym, ◌∙◌, ap}
use mathlib.Core.Bool.{Bool, true, false, cond}
use mathlib.Core.List.{List, [], ◌∷◌, ◌++◌}
use Prim.Native.Nat.{ℕ, suc, ◌+◌, ◌≤◌, ◌<◌, min}
use native.Mathlib.Decide.{dec_lt}
use native.Mathlib.Numerals.{add-one}
use native.Mathlib.Omega.{arith}
use lib.Dec.{eqb}
use lib.ListN.{length, get_or, take, drop, drop_of_length-le}
use lib.Seq.{drop-cons}
use borrow.Author.Tests.{eq-eqb, ne_eqb}
use Rattle.line_text.specs.Calls.{⟨line-end⟩, line_of, album_in}

module _ (s : List ℕ) (i : ℕ) where
  line-cons : i < length s → line_of (drop i s) ≡ cond (eqb (get_or s i 0) ⟨line-end⟩) [] (get_or s i 0 ∷ line_of (drop (i + 1) s))
  unfolding line_of
  line-cons l =
      ap line_of (drop-cons s i 0 l)
      ∙ ap (λ k. cond (eqb (get_or s i 0) ⟨line-end⟩) [] (get_or s i 0 ∷ line_of (drop k s))) (sym (add-one i))

  pub ends-here : i < length s → get_or s i 0 ≡ ⟨line-end⟩ → length (line_of (drop i s)) ≡ 0
  ends-here l e = ap length (line-cons l) ∙ simp (eq-eqb (get_or s i 0) ⟨line-end⟩ e)

  pub ends_on : i < length s → (get_or s i 0 ≡ ⟨line-end⟩ → ⊥) → length (line_of (drop i s)) ≡ suc (length (line_of (drop (i + 1) s)))
  ends_on l f = ap length (line-cons l) ∙ simp (ne_eqb (get_or s i 0) ⟨line-end⟩ f)

  pub ends-none : length s ≤ i → length (line_of (drop i s)) ≡ 0
  unfolding line_of
  ends-none l = ap (λ t. length (line_of t)) (drop_of_length-le s l)

pub line-inside : (s : List ℕ) → length (line_of s) ≤ length s
unfolding line_of
line-inside [] = omega arith
line-inside (x ∷ s) = go (eqb x ⟨line-end⟩) (line-inside s)
  where
    go : (t : Bool) → length (line_of s) ≤ length s → length (cond t [] (x ∷ line_of s)) ≤ suc (length s)
    go true l = omega arith
    go false l = omega arith

line_taken : (s : List ℕ) → take (length (line_of s)) s ≡ line_of s
unfolding line_of
line_taken [] = refl
line_taken (x ∷ s) = go (eqb x ⟨line-end⟩) (line_taken s)
  where
    go : (t : Bool) → take (length (line_of s)) s ≡ line_of s → take (length (cond t [] (x ∷ line_of s))) (x ∷ s) ≡ cond t [] (x ∷ line_of s)
    go true e = refl
    go false e = ap (λ r. x ∷ r) e

album-dropped : (s : List ℕ) → drop (suc (length (line_of s))) s ≡ album_in s
unfolding line_of album_in
album-dropped [] = refl
album-dropped (x ∷ s) = go (eqb x ⟨line-end⟩) (album-dropped s)
  where
    go : (t : Bool) → drop (suc (length (line_of s))) s ≡ album_in s
        → drop (suc (length (cond t [] (x ∷ line_of s)))) (x ∷ s) ≡ cond t s (album_in s)
    go true e = refl
    go false e = e

-- past the end nothing stands
drop-least : (s : List ℕ) (n : ℕ) → drop (min n (length s)) s ≡ drop n s
drop-least s n = go (dec_lt n (length s))
  where
    go : Dec (n < length s) → drop (min n (length s)) s ≡ drop n s
    go (yes l) = let e : min n (length s) ≡ n = omega arith in ap (λ k. drop k s) e
    go (no f) = drop_of_length-le s {i = min n (length s)} (omega arith) ∙ sym (drop_of_length-le s {i = n} (omega arith))

module _ (s : List ℕ) {end : ℕ} (e : end ≡ length (line_of s)) where
  pub line-is : take end s ≡ line_of s
  line-is = ap (λ k. take k s) e ∙ line_taken s

  pub album-is : {start : ℕ} → start ≡ min (end + 1) (length s) → drop start s ≡ album_in s
  album-is q =
      let n : end + 1 ≡ suc (length (line_of s)) = omega arith in
      ap (λ k. drop k s) q ∙ drop-least s (end + 1) ∙ ap (λ k. drop k s) n ∙ album-dropped s

-- byte 0A in front, and another byte
line-end-first : (s : List ℕ) → (line_of (⟨line-end⟩ ∷ s) ≡ []) × (album_in (⟨line-end⟩ ∷ s) ≡ s)
unfolding line_of album_in
line-end-first s = (refl, refl)

other-first : (x : ℕ) (s : List ℕ) → (x ≡ ⟨line-end⟩ → ⊥) → (line_of (x ∷ s) ≡ x ∷ line_of s) × (album_in (x ∷ s) ≡ album_in s)
unfolding line_of album_in
other-first x s f = (simp (ne_eqb x ⟨line-end⟩ f), simp (ne_eqb x ⟨line-end⟩ f))

pub parts_join : (l s : List ℕ) → ((i : ℕ) → i < length l → get_or l i 0 ≡ ⟨line-end⟩ → ⊥)
    → (line_of (l ++ (⟨line-end⟩ ∷ s)) ≡ l) × (album_in (l ++ (⟨line-end⟩ ∷ s)) ≡ s)
parts_join [] s none = line-end-first s
parts_join (x ∷ l) s none =
    let rest = parts_join l s (λ i k. none (suc i) (omega arith)) in
    let one = other-first x (l ++ (⟨line-end⟩ ∷ s)) (none 0 (omega arith)) in
    (one.0 ∙ ap (λ t. x ∷ t) rest.0, one.1 ∙ rest.1)

-- Which result slices fit: by their bytes, as the rows have it, and by the words that are handed to the engine's function.
-- Assumes nothing.
use mathlib.Core.Path.{◌≡◌, refl, sym, ◌∙◌}
use mathlib.Core.Bool.{Bool, true, false, cond, not, ◌&&◌, ◌||◌}
use mathlib.Core.List.{List}
use Prim.Native.Nat.{ℕ, ◌*◌, ◌/◌, ◌%◌, ◌≤◌, ◌<◌}
use native.Mathlib.Nat.{div-add-mod, mod-lt}
use native.Mathlib.Omega.{arith}
use lib.Dec.{eqb, ltb, lit<}
use lib.ListN.{length}
use borrow.Author.Tests.{eqb-true, eqb-false, ltb-true, ltb-false, not-false, eq-eqb, ne_eqb, le-ltb}
use Rattle.refusal.proofs.First.{or-false}
use Rattle.lists.specs.Refused.{wrong_length}
use Rattle.lists.specs.Bytes.{odd_bytes, word_count, words_of}
use Rattle.lists.proofs.Bytes.{length-words_of}
use Rattle.list_bytes.specs.Calls.{misfit}
use Rattle.list_bytes.specs.Internal.{bad_list, room_of, gcd_room}

-- an even number of bytes
whole : (s : List ℕ) → odd_bytes s ≡ false → length s ≡ 2 * word_count s
unfolding odd_bytes word_count
whole s e =
    let odd = eqb-false (length s % 2) 1 e in
    let small : length s % 2 < 2 = mod-lt (length s) (lit< tt) in
    omega (arith, div-add-mod (length s) 2)

even : (s : List ℕ) (n : ℕ) → length s ≡ 2 * n → (odd_bytes s ≡ false) × (word_count s ≡ n)
unfolding odd_bytes word_count
even s n e =
    let small : length s % 2 < 2 = mod-lt (length s) (lit< tt) in
    (ne_eqb (length s % 2) 1 (λ q. omega (arith, div-add-mod (length s) 2)), omega (arith, div-add-mod (length s) 2))

pub misfit-is : (n : ℕ) (s : List ℕ) → misfit n s ≡ not (eqb (length s) (2 * n))
unfolding misfit
misfit-is n s = rw (length-words_of s) (go (eqb (length s) (2 * n)) refl)
  where
    unequal : ¬ (length s ≡ 2 * n) → (b : Bool) → odd_bytes s ≡ b → (b || not (eqb (word_count s) n)) ≡ true
    unequal h true e = refl
    unequal h false e = let w = whole s e in rw (ne_eqb (word_count s) n (λ q. h (omega arith)))

    go : (b : Bool) → eqb (length s) (2 * n) ≡ b → (odd_bytes s || not (eqb (word_count s) n)) ≡ not b
    go true e = let w = even s n (eqb-true _ _ e) in rw (w.0, eq-eqb (word_count s) n w.1)
    go false e = unequal (eqb-false _ _ e) (odd_bytes s) refl

pub fits : (n : ℕ) (s : List ℕ) → misfit n s ≡ false → length s ≡ 2 * n
fits n s e = eqb-true _ _ (not-false _ (sym (misfit-is n s) ∙ e))

module _ (most : ℕ) where
  -- a list that is not refused for its length
  pub good-list : (s : List ℕ) → bad_list most s ≡ false → (0 < length (words_of s)) × (length (words_of s) ≤ most)
  unfolding bad_list wrong_length
  good-list s e =
      let h = or-false (eqb (length (words_of s)) 0) (ltb most (length (words_of s))) (or-false (odd_bytes s) _ e).1 in
      let some = eqb-false (length (words_of s)) 0 h.0 in
      (omega arith, ltb-false _ _ h.1)

  pub good-half : (s : List ℕ) → bad_list most s ≡ false → length s / 2 ≤ most
  unfolding word_count
  good-half s e = let h = good-list s e in omega (arith, length-words_of s)

  -- the room of a slice that fits
  pub room_whole : (never n : ℕ) (s : List ℕ) → n ≤ most → misfit n s ≡ false → length s ≡ 2 * room_of most never s
  unfolding room_of
  room_whole never n s short e =
      let w = even s n (fits n s e) in
      let l = le-ltb most (word_count s) (omega arith) in
      rw (w.0, l) (whole s w.0)

  pub room_fits : (never n : ℕ) (s : List ℕ) → n ≤ most → ¬ (never ≡ n) → not (eqb (room_of most never s) n) ≡ misfit n s
  unfolding room_of misfit
  room_fits never n s short other = rw (length-words_of s) (go (odd_bytes s) (ltb most (word_count s)) refl)
    where
      go : (odd long : Bool) → ltb most (word_count s) ≡ long
          → not (eqb (cond (odd || long) never (word_count s)) n) ≡ (odd || not (eqb (word_count s) n))
      go true long e = rw (ne_eqb never n other)
      go false true e =
          let l = ltb-true most (word_count s) e in
          rw (ne_eqb never n other, ne_eqb (word_count s) n (λ q. omega arith))
      go false false e = refl

  pub room-short : (never : ℕ) (s : List ℕ) → never ≤ most → {k : ℕ} → k ≡ room_of most never s → k ≤ most
  unfolding room_of
  room-short never s l e = rw e (go (odd_bytes s) (ltb most (word_count s)) refl)
    where
      go : (odd long : Bool) → ltb most (word_count s) ≡ long → cond (odd || long) never (word_count s) ≤ most
      go true long e = l
      go false true e = l
      go false false e = ltb-false _ _ e

  pub gcd-room-fits : 0 < most → (h answer : List ℕ) → not (eqb (gcd_room most h answer) most) ≡ (misfit most h || misfit 3 answer)
  unfolding gcd_room
  gcd-room-fits some h answer = rw (misfit-is most h, misfit-is 3 answer) (go (eqb (length h) (2 * most)) (eqb (length answer) 6))
    where
      go : (a b : Bool) → not (eqb (cond (a && b) most 0) most) ≡ (not a || not b)
      go true true = simp (eq-eqb most most refl)
      go true false = simp (ne_eqb 0 most (λ e. omega arith))
      go false true = simp (ne_eqb 0 most (λ e. omega arith))
      go false false = simp (ne_eqb 0 most (λ e. omega arith))

  pub gcd-room-short : (h answer : List ℕ) {k : ℕ} → k ≡ gcd_room most h answer → k ≤ most
  unfolding gcd_room
  gcd-room-short h answer e = rw e (go (eqb (length h) (2 * most) && eqb (length answer) 6))
    where
      go : (a : Bool) → cond a most 0 ≤ most
      go true = omega arith
      go false = omega arith

  -- the tests that the code makes
  pub bad_is : (s : List ℕ) → bad_list most s ≡ (eqb (length s % 2) 1 || (eqb (length s / 2) 0 || ltb most (length s / 2)))
  unfolding bad_list odd_bytes wrong_length word_count
  bad_is s = simp length-words_of

  pub both : (h answer : List ℕ) → length h ≡ (2 * most) → length answer ≡ 6 → most ≡ gcd_room most h answer
  unfolding gcd_room
  both h answer e l = sym (simp (eq-eqb (length h) (2 * most) e, eq-eqb (length answer) 6 l))

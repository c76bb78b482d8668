-- A round: its guard, the case of no step, and the division of the significant words.
--     zeros-padded                  the zeros after the words of y
--     Answer                        what a round is to hand back: the number of steps, the words left and the words of the quotient
-- Assumes nothing.
use mathlib.Core.Path.{◌≡◌, refl, sym, ◌∙◌, ap}
use mathlib.Core.Bool.{true, false, cond, ◌&&◌}
use mathlib.Core.List.{List, ◌++◌, append_assoc}
use Prim.Native.Nat.{ℕ, ◌+◌, ◌-◌, ◌≤◌, ◌<◌}
use native.Mathlib.Nat.{pos_of_ne-zero}
use native.Mathlib.Decide.{dec_le, dec_lt}
use native.Mathlib.Omega.{arith}
use lib.Dec.{leb, ltb}
use lib.ListN.{length, get_or, take, drop, length-take, take-append-drop, get_or-eq_default}
use lib.Seq.{length-take-le, get_or-take, take-take, drop-append-le}
use borrow.Author.Tests.{le-leb, lt-leb, lt-ltb, le-ltb}
use Rattle.algebra.specs.PrimeField.{PrimeField}
use Rattle.field.specs.Field.{inverse_of, inverse_or_zero}
use Rattle.field_inverse.proofs.OrZero.{inverse-some}
use Rattle.lists.specs.Degrees.{significant, extent}
use Rattle.lists.specs.Words.{ZeroFrom}
use Rattle.lists.proofs.Extents.{significant-le, after-significant, extent-largest}
use Rattle.word_division.specs.Reduction.{reduced, digits}
use Rattle.word_division.proofs.Longer.{reduced-longer, digits-longer}
use Rattle.euclid_round.specs.Round.{last_word, round_steps, round_fits, remaining, quotient_words}
use Rattle.euclid_round.proofs.Rounds.{round-ready}

unfit : (p : ℕ) (x y q : List ℕ) → (0 < significant y → last_word y < p → round_steps x y ≤ length q → ⊥) → round_fits p x y q ≡ false
unfolding round_fits
unfit p x y q h = go (dec_le 1 (significant y)) (dec_lt (last_word y) p) (dec_le (round_steps x y) (length q))
  where
    go : Dec (1 ≤ significant y) → Dec (last_word y < p) → Dec (round_steps x y ≤ length q)
        → (leb 1 (significant y) && (ltb (last_word y) p && leb (round_steps x y) (length q))) ≡ false
    go (no a) b c = rw (lt-leb 1 (significant y) (omega arith))
    go (yes a) (no b) c = rw (le-leb 1 (significant y) a, le-ltb (last_word y) p (omega arith))
    go (yes a) (yes b) (no c) =
        rw (le-leb 1 (significant y) a, lt-ltb (last_word y) p b, lt-leb (round_steps x y) (length q) (omega arith))
    go (yes a) (yes b) (yes c) = absurd (h a b c)

-- zeros that go on, from the last word that is not 0, in a part
module _ {n : ℕ} {y : List ℕ} (z : ZeroFrom n y) where
  pub zeros-padded : (wide : ℕ) {m : ℕ} → m ≡ significant (take n y) → ZeroFrom m (take wide y)
  zeros-padded wide {m} e = record { at = λ k l. go k l (dec_lt k wide) (dec_lt k n) }
    where
      go : (k : ℕ) → m ≤ k → Dec (k < wide) → Dec (k < n) → get_or (take wide y) k 0 ≡ 0
      go k l (no w) h = get_or-eq_default (take wide y) 0 (let s = length-take wide y in omega arith)
      go k l (yes w) (yes h) = get_or-take wide y k 0 w ∙ sym (get_or-take n y k 0 h) ∙ after-significant (take n y) k (omega arith)
      go k l (yes w) (no h) = get_or-take wide y k 0 w ∙ z.at k (omega arith)

-- X and Y being the slices, and x and y the parts of them that the round is on
module _ (F : PrimeField) {p : ℕ} (e : F.p ≡ p) (mx my : ℕ) (X Y q : List ℕ) where
  abbrev x : List ℕ
  x = take mx X

  abbrev y : List ℕ
  y = take my Y

  abbrev pub Answer : ℕ → List ℕ → List ℕ → Type 0
  Answer k left quotient =
      (k ≡ cond (round_fits p (take mx X) (take my Y) q) (round_steps (take mx X) (take my Y)) 0)
      × ((left ≡ cond (round_fits p (take mx X) (take my Y) q) (remaining F (take mx X) (take my Y)) (take mx X) ++ drop mx X)
      × (quotient
      ≡ cond (round_fits p (take mx X) (take my Y) q) (quotient_words F (take mx X) (take my Y) ++ drop (round_steps (take mx X) (take my Y)) q) q))

  nothing : round_fits p x y q ≡ false → Answer 0 X q
  nothing f = (rw f, (rw f (sym (take-append-drop mx X)), rw f))

  answer : round_fits p x y q ≡ true → {k : ℕ} {left quotient : List ℕ} → k ≡ round_steps x y → left ≡ remaining F x y ++ drop mx X
      → quotient ≡ quotient_words F x y ++ drop (round_steps x y) q → Answer k left quotient
  answer f a b c = (rw f a, (rw f b, rw f c))

  module _ {nx ny : ℕ} (ex : nx ≡ significant x) (ey : ny ≡ significant y) where
    within : (nx ≤ mx) × (nx ≤ length X) × (ny ≤ my) × (ny ≤ length Y)
    within =
        let sx = significant-le x in
        let sy = significant-le y in
        let lx = length-take mx X in
        let ly = length-take my Y in (omega arith, omega arith, omega arith, omega arith)

    pub zero-divisor : ny ≡ 0 → Answer 0 X q
    zero-divisor z = nothing (unfit p x y q (λ a b c. omega arith))

    pub no_room : ny ≤ nx → length q < nx - ny + 1 → Answer 0 X q
    no_room l h =
        nothing
        (unfit p x y q
        (λ a b c. let d : significant x - (significant y - 1) ≤ length q = unfold round_steps in c in omega arith))

    module _ (some : ¬ (ny ≡ 0)) where
      at_last : get_or Y (ny - 1) 0 ≡ last_word y
      unfolding last_word
      at_last = sym (get_or-take my Y (ny - 1) 0 (omega (arith, within.2))) ∙ ap (λ n. get_or y (n - 1) 0) ey

      pub loose-last : p ≤ get_or Y (ny - 1) 0 → Answer 0 X q
      loose-last l = nothing (unfit p x y q (λ a b c. omega (arith, at_last)))

      module _ (low : get_or Y (ny - 1) 0 < p) where
        fit : nx < ny + length q → round_fits p x y q ≡ true
        fit room = round-ready p x y q (omega arith) (rw at_last at low) (unfold round_steps in omega arith)

        pub no_step : nx < ny → Answer 0 X q
        no_step short = answer (fit (omega arith)) (sym none) left quotient
          where
            none : round_steps x y ≡ 0
            none = unfold round_steps in omega arith

            left : X ≡ remaining F x y ++ drop mx X
            left =
                unfold remaining reduced in
                rw none (sym (ap (λ l. l ++ drop mx X) (take-append-drop (significant x) x) ∙ take-append-drop mx X))

            quotient : q ≡ quotient_words F x y ++ drop (round_steps x y) q
            quotient = unfold quotient_words digits in rw none refl

        module _ (long : ny ≤ nx) (room : nx - ny + 1 ≤ length q) {inv : ℕ} (ei : inv ≡ inverse_or_zero F (get_or Y (ny - 1) 0)) where
          steps : nx - ny + 1 ≡ round_steps x y
          unfolding round_steps
          steps = omega arith

          is_inverse : inv ≡ inverse_of F (last_word y)
          is_inverse =
              ei ∙ ap (inverse_or_zero F) at_last ∙ inverse-some F (last_word y) (pos_of_ne-zero nonzero) (rw at_last at (rw (sym e) at low))
            where
              nonzero : ¬ (last_word y ≡ 0)
              nonzero z = (extent-largest y (omega arith)).0 (unfold last_word extent in z)

          long-q : length (take (nx - ny + 1) q) ≡ nx - ny + 1
          long-q = length-take-le (nx - ny + 1) q room

          long-y : length (take ny Y) ≡ ny
          long-y = length-take-le ny Y within.3

          long-x : length (take nx X) ≡ nx
          long-x = length-take-le nx X within.1

          part-x : take nx x ≡ take nx X
          part-x = take-take nx mx X within.0

          part-y : take ny y ≡ take ny Y
          part-y = take-take ny my Y within.2

          rest-x : drop nx x ++ drop mx X ≡ drop nx X
          rest-x =
              sym (drop-append-le nx x (drop mx X) (let s = significant-le x in omega arith)) ∙ ap (drop nx) (take-append-drop mx X)

          pub divided : {wide : ℕ} {z w : List ℕ} → ny ≤ wide
              → z ≡ reduced p inv (take ny (take wide Y)) (length (take (nx - ny + 1) q)) X
              → w ≡ digits p inv (take ny (take wide Y)) (length (take (nx - ny + 1) q)) X
              → Answer (nx - ny + 1) z (w ++ drop (nx - ny + 1) q)
          divided {wide} {z} {w} lw hz hw = answer (fit (omega arith)) steps left quotient
            where
              -- the slice x as its significant words and the rest
              words-z : z ≡ reduced p inv (take ny Y) (nx - ny + 1) (take nx X ++ drop nx X)
              words-z = hz ∙ rw (take-take ny wide Y lw, long-q, take-append-drop nx X)

              words-w : w ≡ digits p inv (take ny Y) (nx - ny + 1) (take nx X ++ drop nx X)
              words-w = hw ∙ rw (take-take ny wide Y lw, long-q, take-append-drop nx X)

              short-z : z ≡ reduced p inv (take ny y) (nx - ny + 1) (take nx x) ++ drop nx X
              short-z =
                  words-z
                  ∙ reduced-longer p inv (take ny Y) (drop nx X) (omega (arith, long-y)) (nx - ny + 1) (take nx X) (omega (arith, long-x, long-y))
                  ∙ sym (rw (part-x, part-y))

              short-w : w ≡ digits p inv (take ny y) (nx - ny + 1) (take nx x)
              short-w =
                  words-w
                  ∙ digits-longer p inv (take ny Y) (drop nx X) (omega (arith, long-y)) (nx - ny + 1) (take nx X) (omega (arith, long-x, long-y))
                  ∙ sym (rw (part-x, part-y))

              left : z ≡ remaining F x y ++ drop mx X
              left =
                  short-z ∙ ap (λ l. reduced p inv (take ny y) (nx - ny + 1) (take nx x) ++ l) (sym rest-x)
                  ∙ sym (append_assoc (reduced p inv (take ny y) (nx - ny + 1) (take nx x)) (drop nx x) (drop mx X))
                  ∙ unfold remaining in cc (ex, ey, e, is_inverse, steps)

              quotient : w ++ drop (nx - ny + 1) q ≡ quotient_words F x y ++ drop (round_steps x y) q
              quotient = unfold quotient_words in cc (short-w, ex, ey, e, is_inverse, steps)

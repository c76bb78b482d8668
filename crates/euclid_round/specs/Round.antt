-- One of Euclid's rounds on words, and the writing of a result, for every input.
--     last_word           the last word that is not 0
--     round_steps         the number of steps of a round: as many as bring x below y
--     remaining           the words that are left of x after a round with y
--     quotient_words      the words of the round's quotient
--     round_fits          y is not zero, its last word is a coefficient, and there is room for the quotient; else nothing is done
--     steps_made, words_left, quotient_left     over field k: the number of steps that a round makes, what it leaves of x, and the words of
--                                            q after it
--     multiplied          the words of x times m
--     written_words       the words of form times m, weighed with the tables part and whole, zeros after so many
--     written_list        the list of so many words whose scaled form is m times the words of form, zeros after it: written_words of tables of
--                        factorials
--     write_fits           the lengths fit; else nothing is written
--     form_left, out_left  what the slices form and out hold after a result is written
--     zeroed_from          the words of x, zeros from a word on
-- Assumes nothing.
use Rattle.std.specs.Prelude.{Bool, cond, ◌&&◌, List, ◌++◌, ℕ, ◌-◌, ◌*◌, ◌%◌, leb, ltb, length, get_or, take, drop}
use Rattle.algebra.specs.PrimeField.{PrimeField, residue}
use Rattle.algebra.specs.Series.{C}
use Rattle.field.specs.Field.{inverse_of}
use Rattle.field.specs.Fields.{modulus, field_at}
use Rattle.lists.specs.Tabulate.{tabulate}
use Rattle.lists.specs.Degrees.{significant}
use Rattle.lists.specs.Lists.{unscaled}
use Rattle.lists.specs.Words.{series_of}
use Rattle.word_scaling.specs.Scaling.{weighted}
use Rattle.lists.specs.Padded.{padded}
use Rattle.word_division.specs.Reduction.{reduced, digits}

unfoldable pub last_word : List ℕ → ℕ
last_word y = get_or y (significant y - 1) 0

unfoldable pub round_steps : (x y : List ℕ) → ℕ
round_steps x y = significant x - (significant y - 1)

unfoldable pub round_fits : (p : ℕ) → (x y q : List ℕ) → Bool
round_fits p x y q = leb 1 (significant y) && (ltb (last_word y) p && leb (round_steps x y) (length q))

unfoldable pub multiplied : (p m : ℕ) → List ℕ → List ℕ
multiplied p m x = tabulate (length x) (λ i. (get_or x i 0 * m) % p)

unfoldable pub write_fits : (words : ℕ) → (whole part form out : List ℕ) → Bool
write_fits words whole part form out =
    leb words (length form) && (leb words (length out) && (leb words (length whole) && leb words (length part)))

unfoldable pub written_words : (p : ℕ) → (whole part : List ℕ) → (words m : ℕ) → (form out : List ℕ) → List ℕ
written_words p whole part words m form out = padded (length out) (weighted p part whole words (multiplied p m form))

abbrev pub form_left : (p : ℕ) → (whole part : List ℕ) → (words m : ℕ) → (form out : List ℕ) → List ℕ
form_left p whole part words m form out = cond (write_fits words whole part form out) (multiplied p m form) form

abbrev pub out_left : (p : ℕ) → (whole part : List ℕ) → (words m : ℕ) → (form out : List ℕ) → List ℕ
out_left p whole part words m form out =
    cond (write_fits words whole part form out) (written_words p whole part words m form out) out

unfoldable pub zeroed_from : (from : ℕ) → List ℕ → List ℕ
zeroed_from from x = tabulate (length x) (λ i. cond (ltb i from) (get_or x i 0) 0)

module _ (F : PrimeField) where
  unfoldable pub remaining : (x y : List ℕ) → List ℕ
  remaining x y =
      reduced F.p (inverse_of F (last_word y)) (take (significant y) y) (round_steps x y) (take (significant x) x) ++ drop (significant x) x

  unfoldable pub quotient_words : (x y : List ℕ) → List ℕ
  quotient_words x y = digits F.p (inverse_of F (last_word y)) (take (significant y) y) (round_steps x y) (take (significant x) x)

  unfoldable pub written_list : (words m : ℕ) → (form out : List ℕ) → List ℕ
  written_list words m form out =
      padded (length out) (unscaled F words (F.series.ring.mul (C F.series (residue F m)) (series_of F form)))

abbrev pub steps_made : (k : ℕ) → (x y q : List ℕ) → ℕ
steps_made k x y q = cond (round_fits (modulus k) x y q) (round_steps x y) 0

abbrev pub words_left : (k : ℕ) → (x y q : List ℕ) → List ℕ
words_left k x y q = cond (round_fits (modulus k) x y q) (remaining (field_at k) x y) x

abbrev pub quotient_left : (k : ℕ) → (x y q : List ℕ) → List ℕ
quotient_left k x y q = cond (round_fits (modulus k) x y q) (quotient_words (field_at k) x y ++ drop (round_steps x y) q) q

-- On words below p, one of Euclid's rounds on words is one on series, for every prime field F: what a loop of rounds needs.
-- Theorems:
--     round-ready, round-fits              what the guard asks
--     length-remaining, remaining-low      what a round leaves has as many words, each below p
--     round-remainder, round-quotient      the words of a round stand for the remainder and for the quotient
--     round-euclid, round-smaller          a round goes on with (y, remainder), and y falls
--     end-euclid, rounds-few               where y is zero, no round is left; at most n rounds in buffers of n words
-- Assumes nothing.
use mathlib.Core.Path.{◌≡◌, sym, ◌∙◌, ap, subst}
use mathlib.Core.Bool.{true}
use mathlib.Core.List.{List}
use Prim.Native.Nat.{ℕ, suc, ◌+◌, ◌-◌, ◌≤◌, ◌<◌}
use native.Mathlib.Nat as N
use native.Mathlib.Decide.{dec_le}
use native.Mathlib.Omega.{arith}
use lib.ListN.{length, get_or, take, drop, length-append, length-drop}
use lib.Seq.{get_or-drop}
use borrow.Author.Tests.{le-leb, lt-ltb}
use Rattle.algebra.proofs.Series.{coeff-0}
use Rattle.algebra.specs.Polynomial.{Below}
use Rattle.algebra.specs.Degree.{size}
use Rattle.algebra.proofs.Degree.{size-le, size-least}
use Rattle.algebra.specs.Division.{remainder, quotient}
use Rattle.algebra.proofs.Division.{remainder-zero, quotient-zero}
use Rattle.algebra.specs.Euclid.{quotient_by, remainder_by, done, next, euclid}
use Rattle.algebra.proofs.Euclid.{euclid-end, round-law, remainder-small}
use Rattle.algebra.proofs.EuclidCorrect.{euclid-ok}
use Rattle.algebra.specs.PrimeField.{PrimeField, scalar_field, positive, residue, inverse}
use Rattle.algebra.proofs.PrimeField.{residue-0}
use Rattle.field.specs.Field.{inverse_of}
use Rattle.field.proofs.Field.{residue-inverse}
use Rattle.lists.specs.Degrees.{significant}
use Rattle.lists.proofs.Extents.{significant-le, after-significant}
use Rattle.lists.specs.Words.{series_of}
use Rattle.lists.proofs.Words.{coeff-series_of, Carries, carries-series_of, series_of-carries}
use Rattle.lists.proofs.Parts.{get_or-then-zeros}
use Rattle.word_division.specs.Reduction.{reduced, digits}
use Rattle.word_division.proofs.Steps.{length-reduced, length_digits, reduced-remainder, digits-quotient}
use Rattle.euclid_round.specs.Round.{last_word, round_steps, round_fits, remaining, quotient_words}
use Rattle.euclid_round.proofs.Significant.{get_or-significant, length-significant, below-series_of, significant-size}

pub round_steps-le : (x y : List ℕ) → round_steps x y ≤ length x
unfolding round_steps
round_steps-le x y = let most = significant-le x in omega arith

pub round-ready : (p : ℕ) (x y q : List ℕ) → 0 < significant y → last_word y < p → round_steps x y ≤ length q → round_fits p x y q ≡ true
unfolding round_fits
round-ready p x y q some low room =
    rw (le-leb 1 (significant y) some, lt-ltb (last_word y) p low, le-leb (round_steps x y) (length q) room)

module _ (F : PrimeField) where
  open F.series.ring use {Carrier as S}

  module _ (n : ℕ) (x y : List ℕ) (lx : (k : ℕ) → get_or x k 0 < F.p) (ly : (k : ℕ) → get_or y k 0 < F.p) (ex : length x ≡ n) (ey : length y ≡ n) where
    size_x : significant x ≡ size F.series (scalar_field F) n (series_of F x)
    size_x = significant-size F n (carries-series_of F lx) ex

    size_y : significant y ≡ size F.series (scalar_field F) n (series_of F y)
    size_y = significant-size F n (carries-series_of F ly) ey

    below-x : Below F.series n (series_of F x)
    below-x = subst (λ i. Below F.series i (series_of F x)) ex (below-series_of F x)

    below-y : Below F.series n (series_of F y)
    below-y = subst (λ i. Below F.series i (series_of F y)) ey (below-series_of F y)

    pub end-euclid : significant y ≡ 0
        → euclid F.series (scalar_field F) n n (series_of F x) (series_of F y) ≡ done F.series (scalar_field F) (series_of F x)
    end-euclid e = euclid-end F.series (scalar_field F) n n (series_of F x) (series_of F y) (sym size_y ∙ e)

    pub rounds-few : (euclid F.series (scalar_field F) n n (series_of F x) (series_of F y)).rounds ≤ n
    rounds-few =
        let most = size-le F.series (scalar_field F) n (series_of F y) in
        N.le_trans (euclid-ok F.series (scalar_field F) n n below-x below-y most).few most

    module _ (some : 0 < significant y) where
      pub round-fits : (q : List ℕ) → n ≤ length q → round_fits F.p x y q ≡ true
      round-fits q l =
          round-ready F.p x y q some (unfold last_word in ly (significant y - 1)) (let most = round_steps-le x y in omega arith)

      -- the words that take part stand for the same series
      part-x : Carries F (take (significant x) x) (series_of F x)
      part-x =
          record {
            below = λ k. rw (get_or-significant x k) (lx k);
            at = λ k. ap (residue F) (get_or-significant x k) ∙ sym (coeff-series_of F x k);
          }

      part-y : Carries F (take (significant y) y) (series_of F y)
      part-y =
          record {
            below = λ k. rw (get_or-significant y k) (ly k);
            at = λ k. ap (residue F) (get_or-significant y k) ∙ sym (coeff-series_of F y k);
          }

      last-inverse : residue F (inverse_of F (last_word y)) ≡ (scalar_field F).inv (F.series.coeff (series_of F y) (significant y - 1))
      unfolding last_word inverse
      last-inverse = residue-inverse F (last_word y) ∙ ap (λ a. inverse F a) (sym (coeff-series_of F y (significant y - 1)))

      long-y : length (take (significant y) y) ≡ suc (significant y - 1)
      long-y = length-significant y ∙ omega arith

      steps-is : round_steps x y ≡ size F.series (scalar_field F) n (series_of F x) - (significant y - 1)
      unfolding round_steps
      steps-is = ap (λ i. i - (significant y - 1)) size_x

      pub length-remaining : length (remaining F x y) ≡ n
      unfolding remaining
      length-remaining =
          length-append (reduced F.p (inverse_of F (last_word y)) (take (significant y) y) (round_steps x y) (take (significant x) x))
          (drop (significant x) x)
          ∙ rw (
            length-reduced F.p (inverse_of F (last_word y)) (take (significant y) y) (round_steps x y) (take (significant x) x),
            length-significant x,
            length-drop (significant x) x,
          ) (let most = significant-le x in omega arith)

      pub length-quotient_words : length (quotient_words F x y) ≡ round_steps x y
      unfolding quotient_words
      length-quotient_words =
          length_digits F.p (inverse_of F (last_word y)) (take (significant y) y) (round_steps x y) (take (significant x) x)

      -- the division of the significant words
      left : List ℕ
      left = reduced F.p (inverse_of F (last_word y)) (take (significant y) y) (round_steps x y) (take (significant x) x)

      divided : Carries F left (remainder F.series (scalar_field F) (round_steps x y) (significant y - 1) (series_of F x) (series_of F y))
      unfolding left
      divided = go (dec_le (significant y - 1) (significant x))
        where
          go : Dec (significant y - 1 ≤ significant x) → Carries F left (remainder F.series (scalar_field F) (round_steps x y) (significant y - 1) (series_of F x) (series_of F y))
          go (yes l) =
              reduced-remainder F (inverse_of F (last_word y)) (significant y - 1) part-y long-y last-inverse (round_steps x y) part-x
              (let words = length-significant x in unfold round_steps in omega arith)
          go (no l) =
              let none : round_steps x y ≡ 0 = unfold round_steps in omega arith in
              rw (none, remainder-zero F.series (scalar_field F) (significant y - 1) (series_of F x) (series_of F y)) (unfold reduced in part-x)

      rest : (k : ℕ) → get_or (drop (significant x) x) k 0 ≡ 0
      rest k = get_or-drop (significant x) x k 0 ∙ after-significant x (significant x + k) (omega arith)

      pub round-remainder : Carries F (remaining F x y)
          (remainder_by F.series (scalar_field F) n (significant y - 1) (series_of F x) (series_of F y))
      unfolding remaining left
      round-remainder =
          record {
            below = λ k. rw (get_or-then-zeros left (drop (significant x) x) rest k) (divided.below k);
            at = λ k. ap (residue F) (get_or-then-zeros left (drop (significant x) x) rest k) ∙ divided.at k
                ∙ ap (λ i. F.series.coeff (remainder F.series (scalar_field F) i (significant y - 1) (series_of F x) (series_of F y)) k) steps-is;
          }

      pub round-quotient : Carries F (quotient_words F x y)
          (quotient_by F.series (scalar_field F) n (significant y - 1) (series_of F x) (series_of F y))
      unfolding quotient_words
      round-quotient =
          subst (λ i. Carries F (quotient_words F x y) (quotient F.series (scalar_field F) i (significant y - 1) (series_of F x) (series_of F y))) steps-is
          (go (dec_le (significant y - 1) (significant x)))
        where
          go : Dec (significant y - 1 ≤ significant x)
              → Carries F (quotient_words F x y) (quotient F.series (scalar_field F) (round_steps x y) (significant y - 1) (series_of F x) (series_of F y))
          go (yes l) =
              digits-quotient F (inverse_of F (last_word y)) (significant y - 1) part-y long-y last-inverse (round_steps x y) part-x
              (let words = length-significant x in unfold round_steps in omega arith)
          go (no l) =
              let none : round_steps x y ≡ 0 = unfold round_steps in omega arith in
              rw (none, quotient-zero F.series (scalar_field F) (significant y - 1) (series_of F x) (series_of F y))
              (unfold digits in record { below = λ j. positive F; at = λ j. residue-0 F ∙ sym (coeff-0 F.series j) })

      pub remaining-low : (k : ℕ) → get_or (remaining F x y) k 0 < F.p
      remaining-low = round-remainder.below

      size-suc : size F.series (scalar_field F) n (series_of F y) ≡ suc (significant y - 1)
      size-suc = sym size_y ∙ omega arith

      pub round-euclid : euclid F.series (scalar_field F) n n (series_of F x) (series_of F y)
          ≡ next F.series (scalar_field F) (quotient_by F.series (scalar_field F) n (significant y - 1) (series_of F x) (series_of F y))
          (euclid F.series (scalar_field F) n n (series_of F y) (series_of F (remaining F x y)))
      round-euclid =
          round-law F.series (scalar_field F) n (significant y - 1) below-x below-y size-suc
          ∙ ap (λ s. next F.series (scalar_field F) (quotient_by F.series (scalar_field F) n (significant y - 1) (series_of F x) (series_of F y))
          (euclid F.series (scalar_field F) n n (series_of F y) s)) (sym (series_of-carries F round-remainder))

      pub round-smaller : significant (remaining F x y) < significant y
      round-smaller =
          let count = significant-size F n round-remainder length-remaining in
          let most = size-least F.series (scalar_field F) n (significant y - 1)
          (remainder-small F.series (scalar_field F) n (significant y - 1) below-x below-y size-suc) in
          omega (arith, count, most)

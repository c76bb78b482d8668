-- A list's polynomial in powers of t, on words, for every input.
--     powers_written k       what the slice out holds after `powers_of_t` over field k: the power_words of the list, or of as many of its
--                            first words as out has; where the list has fewer, out's own words, expanded with 1 - t
--     list_written k         what the slice out holds after `list_of_powers`: the list of as many words with the scaled form that the
--                            words stand for; where these are fewer, what it held
--     powers_into            as `powers_written`, with the tables that the words are weighed with, then expanded
--     degree_found k         the degree in t over field k of a list that is not too long; else 0
-- Theorems (proofs/Powers):
--     powers-are             with the tables of factorials, in as many words as the list has: its power_words
--     list-is                with the same tables, `list_of_powers` writes the list that means the polynomial
--     powers-written, list-written      what the tables of field k write is what these definitions say, for slices of any length
--     powers-found, list-found          so these are the power_words, and the list that means the polynomial
-- Assumes nothing.
use Rattle.std.specs.Prelude.{false, cond, List, ℕ, leb, length, take}
use Rattle.field.specs.Fields.{modulus, field_at, longest}
use Rattle.lists.specs.Lists.{unscaled}
use Rattle.lists.specs.Words.{series_of}
use Rattle.word_scaling.specs.Scaling.{weighed_into}
use Rattle.word_expansion.specs.Expansion.{expanded_into}
use Rattle.ordinary_theory.specs.InT.{degree_in_t, power_words}

abbrev pub powers_written : (k : ℕ) → (list out : List ℕ) → List ℕ
powers_written k list out =
    cond (leb (length out) (length list)) (power_words (field_at k) (take (length out) list)) (expanded_into (modulus k) false out)

abbrev pub list_written : (k : ℕ) → (words out : List ℕ) → List ℕ
list_written k words out =
    cond (leb (length out) (length words)) (unscaled (field_at k) (length out) (series_of (field_at k) words)) out

abbrev pub powers_into : (p : ℕ) → (whole part list out : List ℕ) → List ℕ
powers_into p whole part list out = expanded_into p false (weighed_into p list whole part out)

abbrev pub degree_found : (k : ℕ) → List ℕ → ℕ
degree_found k list = cond (leb (length list) (longest k)) (degree_in_t (field_at k) list) 0

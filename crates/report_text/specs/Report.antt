-- The report on an album, byte by byte, as document 01 has it, and order 4 the degree of the GCD; s is the album's bytes.
--     list_line        the line of a list: number, naive degree, extent, power, with `-` for the last two of a zero list
--     list_lines       the lines of some lists, numbered from i
--     gcd_degree       the degree in t of G = (1-t)^c·h, order 4's degree of the GCD: that of h, and c
--     gcd_lines        `gcd`, that degree, and c; then the w + 1 words of h
--     refused_line     `refused` and the number
--     sound_report     of an album that is not refused: `lists` and their number, a line for each list, then the two lines of the GCD, or
--                     `refused 9` where all lists are zero
--     report_of        the whole text: of a refused album only its refused line
-- Theorems, each in the module of proofs/ that is named:
--     album-degree                   of an album that is not refused and has a list that is not zero, the degree printed is that of G as a
--                                    polynomial: G's coefficient there is not 0, and every one above is (Degrees)
--     gcd-degree                     the same of any c and any list h of coefficients that is not zero (Degrees)
--     gcd-degree-most                it is at most w + c (Degrees)
--     of-document-01, of-order-4     the reports on document 01's album and on order 4's, by computation (Examples)
-- Assumes nothing.
use Rattle.std.specs.Prelude.{cond, List, [], ◌∷◌, ◌++◌, map, ℕ, suc, ◌+◌, eqb, length, Ok, Err}
use Rattle.algebra.specs.PrimeField.{PrimeField}
use Rattle.refusal.specs.Refusal.{number, Outcome}
use Rattle.refusal.specs.Lowest.{lowest}
use Rattle.refusal.specs.declared.Refusal.{Refusal}
use Rattle.refusal.specs.declared.Refusal.TheVariants.{AllZero}
use Rattle.lists.specs.Degrees.{naive_degree, significant, extent, power}
use Rattle.euclid_theory.specs.Gcd.{common_power}
use Rattle.ordinary_theory.specs.InT.{degree_in_t}
use Rattle.album_theory.specs.Albums.{album_gcd}
use Rattle.album_layout.specs.Layout.{lists_of}
use Rattle.album_layout.specs.Calls.{album_refusals}
use Rattle.album_gcd.specs.Calls.{all_zero}
use Rattle.report_text.specs.Text.{decimal, line}

-- the words of the lines, in ASCII
abbrev pub ⟨lists⟩ : List ℕ
⟨lists⟩ = 108 ∷ 105 ∷ 115 ∷ 116 ∷ 115 ∷ []

abbrev pub ⟨gcd⟩ : List ℕ
⟨gcd⟩ = 103 ∷ 99 ∷ 100 ∷ []

abbrev pub ⟨refused⟩ : List ℕ
⟨refused⟩ = 114 ∷ 101 ∷ 102 ∷ 117 ∷ 115 ∷ 101 ∷ 100 ∷ []

abbrev pub ⟨-⟩ : List ℕ
⟨-⟩ = 45 ∷ []

unfoldable pub list_line : ℕ → List ℕ → List ℕ
list_line i c =
    line
    (decimal i ∷ decimal (naive_degree c) ∷ cond (eqb (significant c) 0) (⟨-⟩ ∷ ⟨-⟩ ∷ []) (decimal (extent c) ∷ decimal (power c) ∷ []))

unfoldable pub list_lines : ℕ → List (List ℕ) → List ℕ
list_lines i [] = []
list_lines i (c ∷ lists) = list_line i c ++ list_lines (suc i) lists

unfoldable pub gcd_degree : PrimeField → (h : List ℕ) (c : ℕ) → ℕ
gcd_degree F h c = degree_in_t F h + c

unfoldable pub gcd_lines : PrimeField → (h : List ℕ) (c : ℕ) → List ℕ
gcd_lines F h c = line (⟨gcd⟩ ∷ decimal (gcd_degree F h c) ∷ decimal c ∷ []) ++ line (map decimal h)

unfoldable pub refused_line : Refusal → List ℕ
refused_line why = line (⟨refused⟩ ∷ decimal (number why) ∷ [])

unfoldable pub sound_report : PrimeField → List (List ℕ) → List ℕ
sound_report F lists =
    line (⟨lists⟩ ∷ decimal (length lists) ∷ []) ++
    (list_lines 0 lists ++
    cond (all_zero lists) (refused_line AllZero) (gcd_lines F (album_gcd F lists).list (common_power lists)))

-- of what the album is refused with, if it is
abbrev pub report_for : Outcome → PrimeField → List (List ℕ) → List ℕ
report_for (Ok _) F lists = sound_report F lists
report_for (Err why) F lists = refused_line why

unfoldable pub report_of : ℕ → PrimeField → List ℕ → List ℕ
report_of p F s = report_for (lowest (album_refusals p s)) F (lists_of s)

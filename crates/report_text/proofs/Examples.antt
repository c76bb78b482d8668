-- Two reports by computation, over the field of 65,521 elements.
--     ⟨lines-of-lists⟩     the lines `lists 2`, `0 1 1 0` and `1 2 2 0`, which both have
-- Theorems:
--     of-document-01       document 01's album, [0,1] and [0,0,1]: `gcd 1 0`, then `0 1`
--     of-order-4           order 4's, [1,1] and [1,1,1], which holds the constant 1 twice: `gcd 0 0`, then `1 1`
-- Assumes nothing.
use mathlib.Core.Path.{◌≡◌, refl}
use mathlib.Core.Bool.{Bool, true}
use mathlib.Core.List.{List, [], ◌∷◌, ◌++◌}
use Prim.Native.Nat.{ℕ}
use Rattle.field.specs.Fields as A
use Rattle.field.specs.Fields.{F65521}
use Rattle.lists.specs.Tabulate.{tabulate}
use Rattle.lists.specs.Degrees.{naive_degree, significant_in, significant, extent, power}
use Rattle.lists.specs.Lists.{word, binomial, scaled_coefficient, meaning, scaled, unscaled}
use Rattle.euclid_theory.specs.Gcd.{room, powers, least, common_power, euclid_of, gcd_of, rounds_of}
use Rattle.ordinary_theory.specs.InT.{size_in_t, degree_in_t}
use Rattle.album_theory.specs.Albums.{ended, gcd_from, album_gcd}
use Rattle.album_gcd.specs.Calls.{all_zero}
use Rattle.report_text.specs.Text.{decimal_in, decimal, line}
use Rattle.report_text.specs.Report.{list_line, list_lines, gcd_degree, gcd_lines, sound_report}

abbrev ⟨lines-of-lists⟩ : List ℕ
⟨lines-of-lists⟩ =
    (108 ∷ 105 ∷ 115 ∷ 116 ∷ 115 ∷ 32 ∷ 50 ∷ 10 ∷ []) ++
    ((48 ∷ 32 ∷ 49 ∷ 32 ∷ 49 ∷ 32 ∷ 48 ∷ 10 ∷ []) ++
    (49 ∷ 32 ∷ 50 ∷ 32 ∷ 50 ∷ 32 ∷ 48 ∷ 10 ∷ []))

-- the definitions that the computation opens
unfoldable computes : Bool
unfolding A.computes tabulate naive_degree significant_in significant extent power word binomial scaled_coefficient meaning scaled unscaled room
    powers least common_power euclid_of gcd_of rounds_of size_in_t degree_in_t ended gcd_from album_gcd all_zero decimal_in decimal line list_line list_lines
    gcd_degree gcd_lines sound_report
computes = true

pub of-document-01 : sound_report F65521 ((0 ∷ 1 ∷ []) ∷ (0 ∷ 0 ∷ 1 ∷ []) ∷ [])
    ≡ ⟨lines-of-lists⟩ ++ ((103 ∷ 99 ∷ 100 ∷ 32 ∷ 49 ∷ 32 ∷ 48 ∷ 10 ∷ []) ++ (48 ∷ 32 ∷ 49 ∷ 10 ∷ []))
unfolding computes
of-document-01 = refl

pub of-order-4 : sound_report F65521 ((1 ∷ 1 ∷ []) ∷ (1 ∷ 1 ∷ 1 ∷ []) ∷ [])
    ≡ ⟨lines-of-lists⟩ ++ ((103 ∷ 99 ∷ 100 ∷ 32 ∷ 48 ∷ 32 ∷ 48 ∷ 10 ∷ []) ++ (49 ∷ 32 ∷ 49 ∷ 10 ∷ []))
unfolding computes
of-order-4 = refl

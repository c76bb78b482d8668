-- Texts by computation, over the field of 65,521 elements: the formulas and the grammar give them, no code does.
--     ⟨line⟩      (0+1)*D 2-3
--     ⟨album⟩     the album of [1, 2], [3, 4], [0, 1, 4] and [5, 6]
-- Theorems:
--     of-the-line        of the line, byte 0A and the album: `3 32773 30`
--     of-no-line-end     of the line alone, without byte 0A: no album is left, `refused 1`
-- Assumes nothing.
use mathlib.Core.Path.{◌≡◌, refl}
use mathlib.Core.Bool.{Bool, true}
use mathlib.Core.List.{List, [], ◌∷◌, ◌++◌}
use Prim.Native.Nat.{ℕ}
use Rattle.refusal.specs.Lowest.{lower, lowest}
use Rattle.field.specs.Fields as A
use Rattle.field.specs.Fields.{longest}
use Rattle.lists.specs.Bytes.{words_at}
use Rattle.lists.specs.Degrees.{naive_degree}
use Rattle.lists.specs.Lists.{word, binomial}
use Rattle.lists.specs.Operations.{product_at, product, raise_at, raise, larger_degree, sum_of, difference_of, derivative_at, derivative}
use Rattle.lists.specs.Refused.{has_loose}
use Rattle.lists.specs.Tabulate.{tabulate}
use Rattle.album_layout.specs.Layout.{start_at, offsets_agree, degrees_fit, wrong_count, broken_layout, nth_list, lists_from, lists_of}
use Rattle.lines.specs.Grammar.{is_digit, sign_of, lone, tokens, open_behind, deepest}
use Rattle.lines.specs.Reader.{reading_of, want, closed, ended, term_place, term_tree, sum_place, sum_tree}
use Rattle.lines.specs.Lines.{outside_grammar, too_deep}
use Rattle.line_values.specs.Values.{both, one, value_of}
use Rattle.line_values.specs.Calls.{lacks_number, lacks_operand, line_rows, line_value}
use Rattle.report_text.specs.Text.{decimal_in, decimal, line}
use Rattle.report_text.specs.Report.{refused_line}
use Rattle.line_text.specs.Calls.{line_of, album_in, value_text, line_text}

abbrev ⟨line⟩ : List ℕ
⟨line⟩ = 40 ∷ 48 ∷ 43 ∷ 49 ∷ 41 ∷ 42 ∷ 68 ∷ 32 ∷ 50 ∷ 45 ∷ 51 ∷ []

abbrev ⟨album⟩ : List ℕ
⟨album⟩ =
    (4 ∷ []) ++
    ((1 ∷ 0 ∷ 17 ∷ 0 ∷ []) ++ ((1 ∷ 0 ∷ 21 ∷ 0 ∷ []) ++ ((2 ∷ 0 ∷ 25 ∷ 0 ∷ []) ++ ((1 ∷ 0 ∷ 31 ∷ 0 ∷ []) ++
    ((1 ∷ 0 ∷ 2 ∷ 0 ∷ []) ++ ((3 ∷ 0 ∷ 4 ∷ 0 ∷ []) ++ ((0 ∷ 0 ∷ 1 ∷ 0 ∷ 4 ∷ 0 ∷ []) ++ (5 ∷ 0 ∷ 6 ∷ 0 ∷ []))))))))

-- the definitions that the computation opens
unfoldable computes : Bool
unfolding A.computes longest lower lowest words_at naive_degree word binomial product_at product raise_at raise larger_degree sum_of difference_of
    derivative_at derivative has_loose tabulate start_at offsets_agree degrees_fit wrong_count broken_layout nth_list lists_from lists_of is_digit sign_of
    lone tokens open_behind deepest reading_of want closed ended term_place term_tree sum_place sum_tree outside_grammar too_deep both one value_of
    lacks_number lacks_operand line_rows line_value decimal_in decimal line refused_line line_of album_in value_text line_text
computes = true

pub of-the-line : line_text 0 (⟨line⟩ ++ (10 ∷ ⟨album⟩)) ≡ 51 ∷ 32 ∷ 51 ∷ 50 ∷ 55 ∷ 55 ∷ 51 ∷ 32 ∷ 51 ∷ 48 ∷ 10 ∷ []
unfolding computes
of-the-line = refl

pub of-no-line-end : line_text 0 ⟨line⟩ ≡ 114 ∷ 101 ∷ 102 ∷ 117 ∷ 115 ∷ 101 ∷ 100 ∷ 32 ∷ 49 ∷ 10 ∷ []
unfolding computes
of-no-line-end = refl

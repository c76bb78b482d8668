-- Lines over albums, computed: which number goes before which.
--     wide             one list of 513 words, all of them 0: its square would have 1,025
--     small            one list, of one word
-- Assumes nothing.
use mathlib.Core.Path.{◌≡◌, refl}
use mathlib.Core.Bool.{Bool, true}
use mathlib.Core.List.{List, [], ◌∷◌, ◌++◌}
use Prim.Native.Nat.{ℕ}
use lib.ListN.{replicate}
use Rattle.std.specs.Prelude.{Ok, Err}
use Rattle.refusal.specs.Lowest.{lower, lowest}
use Rattle.refusal.specs.declared.Refusal.TheVariants.{Line, Index, Over, Misfit}
use Rattle.field.specs.Fields.{modulus, longest}
use Rattle.lists.specs.Tabulate.{tabulate}
use Rattle.lists.specs.Bytes.{words_at}
use Rattle.lists.specs.Degrees.{naive_degree}
use Rattle.lists.specs.Refused.{has_loose}
use Rattle.album_layout.specs.Layout.{start_at, offsets_agree, degrees_fit, wrong_count, broken_layout, nth_list, lists_from, lists_of}
use Rattle.lines.proofs.Examples as lines
use Rattle.line_values.specs.Values.{both, value_of}
use Rattle.line_values.specs.Calls.{lacks_number, lacks_operand, line_rows, line_value, line_outcome}

abbrev wide : List ℕ
wide = (1 ∷ 0 ∷ 2 ∷ 5 ∷ 0 ∷ []) ++ replicate 1026 0

abbrev small : List ℕ
small = 1 ∷ 0 ∷ 0 ∷ 5 ∷ 0 ∷ 7 ∷ 0 ∷ []

-- the definitions that the computation opens
unfoldable computes : Bool
unfolding lines.computes tabulate words_at start_at offsets_agree degrees_fit wrong_count broken_layout nth_list lists_from lists_of has_loose
    modulus longest naive_degree lower lowest lacks_number lacks_operand line_rows both value_of line_value
computes = true

-- 0*0, whose product is over the limit: 6
over : line_outcome 0 wide (48 ∷ 42 ∷ 48 ∷ []) (replicate 1024 0) ≡ Err Over
unfolding computes
over = refl

-- and 10 goes before 6
over-and-misfit : line_outcome 0 wide (48 ∷ 42 ∷ 48 ∷ []) [] ≡ Err Misfit
unfolding computes
over-and-misfit = refl

-- 0+99: 3
lacking : line_outcome 0 small (48 ∷ 43 ∷ 57 ∷ 57 ∷ []) (replicate 1024 0) ≡ Err Index
unfolding computes
lacking = refl

-- 99 99: 12 goes before 3
outside-and-lacking : line_outcome 0 small (57 ∷ 57 ∷ 32 ∷ 57 ∷ 57 ∷ []) [] ≡ Err Line
unfolding computes
outside-and-lacking = refl

-- 0+0: done
fine : line_outcome 0 small (48 ∷ 43 ∷ 48 ∷ []) (replicate 1024 0) ≡ Ok tt
unfolding computes
fine = refl

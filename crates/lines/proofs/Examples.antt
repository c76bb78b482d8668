-- Lines and their readings, by computation: the line of the document, how operators group, what a number is, and the two limits.
--     reading line     the reading of the line's tokens
--     nested n         0 in n pairs of parentheses
-- Theorems, each under the line that it reads.
-- Assumes nothing.
use mathlib.Core.Path.{◌≡◌, refl}
use mathlib.Core.Bool.{Bool, true}
use mathlib.Core.List.{List, [], ◌∷◌, ◌++◌}
use Prim.Native.Nat.{ℕ}
use lib.ListN.{replicate}
use Rattle.std.specs.Prelude.{Ok, Err}
use Rattle.refusal.specs.Lowest.{lower, lowest}
use Rattle.refusal.specs.declared.Refusal.TheVariants.{Line, Nesting}
use Rattle.lines.specs.Grammar.{is_digit, sign_of, lone, tokens, open_behind, deepest, list, sum, difference, product, derivative}
use Rattle.lines.specs.Reader.{Reading, reads, outside, reading_of, want, closed, ended, term_place, term_tree, sum_place, sum_tree}
use Rattle.lines.specs.Program.{postfix}
use Rattle.lines.specs.Lines.{outside_grammar, too_deep, line_refusals}

abbrev pub reading : List ℕ → Reading
reading line = reading_of (tokens line)

abbrev pub nested : ℕ → List ℕ
nested n = replicate n 40 ++ 48 ∷ replicate n 41

-- the definitions that the computation opens
unfoldable pub computes : Bool
unfolding is_digit sign_of lone tokens open_behind deepest reading_of want closed ended term_place term_tree sum_place sum_tree postfix
    outside_grammar too_deep line_refusals lower lowest
computes = true

-- (0+1)*D 2-3
pub document : reading (40 ∷ 48 ∷ 43 ∷ 49 ∷ 41 ∷ 42 ∷ 68 ∷ 32 ∷ 50 ∷ 45 ∷ 51 ∷ [])
    ≡ reads (difference (product (sum (list 0) (list 1)) (derivative (list 2))) (list 3))
unfolding computes
document = refl

-- its program: 0 1 + 2 D * 3 -
pub document-program : postfix (difference (product (sum (list 0) (list 1)) (derivative (list 2))) (list 3))
    ≡ 0 ∷ 1 ∷ 100 ∷ 2 ∷ 103 ∷ 102 ∷ 3 ∷ 101 ∷ []
unfolding computes
document-program = refl

-- 9-8-7 is (9-8)-7
pub from-left : reading (57 ∷ 45 ∷ 56 ∷ 45 ∷ 55 ∷ []) ≡ reads (difference (difference (list 9) (list 8)) (list 7))
unfolding computes
from-left = refl

-- 0+1*2 is 0+(1*2)
pub product-first : reading (48 ∷ 43 ∷ 49 ∷ 42 ∷ 50 ∷ []) ≡ reads (sum (list 0) (product (list 1) (list 2)))
unfolding computes
product-first = refl

-- D 0*1 is (D 0)*1
pub derivative-first : reading (68 ∷ 32 ∷ 48 ∷ 42 ∷ 49 ∷ []) ≡ reads (product (derivative (list 0)) (list 1))
unfolding computes
derivative-first = refl

-- D D 0
pub twice : reading (68 ∷ 32 ∷ 68 ∷ 32 ∷ 48 ∷ []) ≡ reads (derivative (derivative (list 0)))
unfolding computes
twice = refl

-- 07 is list 7
pub two_digits : reading (48 ∷ 55 ∷ []) ≡ reads (list 7)
unfolding computes
two_digits = refl

-- 000
pub three-digits : reading (48 ∷ 48 ∷ 48 ∷ []) ≡ outside
unfolding computes
three-digits = refl

-- 1 2
pub parted : reading (49 ∷ 32 ∷ 50 ∷ []) ≡ outside
unfolding computes
parted = refl

-- -1
pub signed : reading (45 ∷ 49 ∷ []) ≡ outside
unfolding computes
signed = refl

-- two spaces
pub blank : reading (32 ∷ 32 ∷ []) ≡ outside
unfolding computes
blank = refl

-- 1 and a tab
pub tab : reading (49 ∷ 9 ∷ []) ≡ outside
unfolding computes
tab = refl

-- (((0)))
pub three-open : reading (nested 3) ≡ reads (list 0)
unfolding computes
three-open = refl

-- 32 pairs of parentheses
pub most-open : lowest (line_refusals (nested 32)) ≡ Ok tt
unfolding computes
most-open = refl

-- 33 pairs
pub too-many-open : lowest (line_refusals (nested 33)) ≡ Err Nesting
unfolding computes
too-many-open = refl

-- 33 parentheses that are not closed: the grammar is asked first
pub never-closed : lowest (line_refusals (replicate 33 40)) ≡ Err Line
unfolding computes
never-closed = refl

-- 255 spaces and 0, then 256 spaces and 0
pub longest : lowest (line_refusals (replicate 255 32 ++ 48 ∷ [])) ≡ Ok tt
unfolding computes
longest = refl

pub too_long : lowest (line_refusals (replicate 256 32 ++ 48 ∷ [])) ≡ Err Line
unfolding computes
too_long = refl

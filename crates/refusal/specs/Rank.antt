-- Which refusal goes before which.
--     order         all numbers, each before those that it goes before: document 01's ascend, and where an order states another place, it
--                   stands there. No call gives 14 to 17
--     place_in       the place of a number among several, counted from 0
--     rank why      the place of a refusal's number in the order
-- Theorems (proofs/Rank):
--     order-of-document-01     the numbers of the order up to 11 are 1 to 11, ascending: document 01's order is this part
--     order-of-order-6         order 6 puts 12 and 13 between 2 and 3
--     rank-number              so of two refusals of document 01 the one with the lower number goes first
--     lowest-number            and where a call's rows are of document 01, the refusal of the lowest rank has the lowest number
-- Assumes nothing.
use Rattle.std.specs.Prelude.{cond, List, [], ◌∷◌, ℕ, suc, eqb}
use Rattle.refusal.specs.Refusal.{number}
use Rattle.refusal.specs.declared.Refusal.{Refusal}

abbrev pub order : List ℕ
order = 17 ∷ 1 ∷ 14 ∷ 2 ∷ 12 ∷ 13 ∷ 3 ∷ 4 ∷ 5 ∷ 6 ∷ 7 ∷ 8 ∷ 16 ∷ 9 ∷ 10 ∷ 11 ∷ 15 ∷ []

abbrev pub place_in : List ℕ → ℕ → ℕ
place_in [] n = 0
place_in (m ∷ rest) n = cond (eqb m n) 0 (suc (place_in rest n))

abbrev pub rank : Refusal → ℕ
rank why = place_in order (number why)

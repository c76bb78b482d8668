-- Document 01's order of its refusals, as a part of the whole order.
--     up_to most ns             the numbers among some that are at most so large
--     order-of-document-01     up to 11 they are 1 to 11, ascending
--     order-of-order-6         up to 13, 12 and 13 stand between 2 and 3
--     rank-number              of two refusals of document 01, the one of the lower rank has the lower number
--     lowest-number            the same of the one that is given among such rows
-- Assumes nothing.
use mathlib.Core.Path.{◌≡◌, refl}
use mathlib.Core.Bool.{cond}
use mathlib.Core.List.{List, [], ◌∷◌}
use Prim.Native.Nat.{ℕ, ◌+◌, ◌*◌, ◌-◌, ◌≤◌, min}
use native.Mathlib.Decide.{dec_le}
use native.Mathlib.Omega.{arith}
use lib.Dec.{leb}
use Rattle.std.specs.Prelude.{Err}
use Rattle.refusal.specs.Refusal.{number}
use Rattle.refusal.specs.Rank.{order, rank}
use Rattle.refusal.specs.Lowest.{Condition, Applies, IsLowest}
use Rattle.refusal.specs.declared.Refusal.{Refusal}
use Rattle.refusal.specs.declared.Refusal.TheVariants.{Count, Contents, Index, Length, LooseWord, Over, Backwards, Vanishes, AllZero, Misfit, NoInverse, Line, Nesting}

abbrev pub up_to : ℕ → List ℕ → List ℕ
up_to most [] = []
up_to most (n ∷ rest) = cond (leb n most) (n ∷ up_to most rest) (up_to most rest)

pub order-of-document-01 : up_to 11 order ≡ 1 ∷ 2 ∷ 3 ∷ 4 ∷ 5 ∷ 6 ∷ 7 ∷ 8 ∷ 9 ∷ 10 ∷ 11 ∷ []
order-of-document-01 = refl

pub order-of-order-6 : up_to 13 order ≡ 1 ∷ 2 ∷ 12 ∷ 13 ∷ 3 ∷ 4 ∷ 5 ∷ 6 ∷ 7 ∷ 8 ∷ 9 ∷ 10 ∷ 11 ∷ []
order-of-order-6 = refl

-- 1 above k, else 0
unfoldable above : (k n : ℕ) → ℕ
above k n = min 1 (n - k)

above-grows : (k : ℕ) {m n : ℕ} → m ≤ n → above k m ≤ above k n
unfolding above
above-grows k l = omega arith

-- the place of a number of document 01: 17 goes before 1, 14 before 2, 12 and 13 before 3, 16 before 9
placed : (why : Refusal) → number why ≤ 11 → rank why ≡ number why + above 1 (number why) + 2 * above 2 (number why) + above 8 (number why)
unfolding above
placed Count h = refl
placed Contents h = refl
placed Index h = refl
placed Length h = refl
placed LooseWord h = refl
placed Over h = refl
placed Backwards h = refl
placed Vanishes h = refl
placed AllZero h = refl
placed Misfit h = refl
placed NoInverse h = refl
placed Line h = absurd (omega arith)
placed Nesting h = absurd (omega arith)

pub rank-number : (a b : Refusal) → number a ≤ 11 → number b ≤ 11 → rank a ≤ rank b → number a ≤ number b
rank-number a b h k l = go (dec_le (number a) (number b))
  where
    go : Dec (number a ≤ number b) → number a ≤ number b
    go (yes x) = x
    go (no x) =
        let m : number b ≤ number a = omega arith in
        absurd (omega (arith, placed a h, placed b k, above-grows 1 m, above-grows 2 m, above-grows 8 m))

pub lowest-number : (rows : List Condition) → ((why : Refusal) → Applies why rows → number why ≤ 11)
    → (why : Refusal) → IsLowest rows (Err why) → (other : Refusal) → Applies other rows → number why ≤ number other
lowest-number rows base why is other a = rank-number why other (base why is.0) (base other a) (is.1 other a)

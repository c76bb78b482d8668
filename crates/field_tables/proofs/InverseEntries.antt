-- A table of inverses: one test over its entries, computed, makes it the table of the definition.
--     right_table p l     entry 0 is 0, k times entry k leaves 1 modulo p, and the table ends before p
-- Theorem:
--     table_is     a table that passes is `inverse_table`
-- Assumes nothing.
use mathlib.Core.Path.{◌≡◌, refl, sym, ap, ap₂, ◌∙◌, subst}
use mathlib.Core.Bool.{Bool, true, false, ◌&&◌}
use mathlib.Core.List.{List, [], ◌∷◌}
use Prim.Native.Nat.{ℕ, suc, ◌+◌, ◌*◌, ◌%◌, ◌≤◌, ◌<◌}
use native.Mathlib.Omega.{arith}
use lib.Dec.{T, ltb, eqb, eqb→eq, ltb→lt}
use lib.ListN.{length}
use mir.Facts.{and_yes}
use Rattle.algebra.specs.PrimeField.{PrimeField}
use Rattle.field_tables.specs.Inverses.{inverses_from, inverse_table}
use Rattle.field.proofs.Field.{inverse-only}

-- entry x of the number k: a word below p, and k · x leaves 1 modulo p; k counts on from entry to entry
abbrev right : ℕ → ℕ → List ℕ → Bool
right p k [] = true
right p k (x ∷ xs) = ltb x p && (eqb ((k * x) % p) 1 && right p (suc k) xs)

-- the whole table: its entry 0 is 0, and it ends before p
abbrev pub right_table : ℕ → List ℕ → Bool
right_table p [] = false
right_table p (x ∷ xs) = eqb x 0 && (ltb (length xs) p && right p 1 xs)

entries : (F : PrimeField) (k : ℕ) (xs : List ℕ) → 0 < k → k + length xs ≤ F.p → T (right F.p k xs) → xs ≡ inverses_from k (length xs) F
unfolding inverses_from
entries F k [] h l t = refl
entries F k (x ∷ xs) h l t =
    let at = and_yes (ltb x F.p) _ t in
    let rest = and_yes (eqb ((k * x) % F.p) 1) (right F.p (suc k) xs) at.1 in
    ap₂ (λ (y : ℕ) (ys : List ℕ). y ∷ ys)
    (inverse-only F k h (omega arith) x (ltb→lt x F.p at.0) (eqb→eq ((k * x) % F.p) 1 rest.0))
    (entries F (suc k) xs (omega arith) (omega arith) rest.1)

at_field : (F : PrimeField) (n : ℕ) (l : List ℕ) → length l ≡ suc n → T (right_table F.p l) → l ≡ inverse_table n F
unfolding inverse_table
at_field F n [] s t = absurd t
at_field F n (x ∷ xs) s t =
    let at = and_yes (eqb x 0) _ t in
    let rest = and_yes (ltb (length xs) F.p) (right F.p 1 xs) at.1 in
    let short = ltb→lt (length xs) F.p rest.0 in
    ap₂ (λ (y : ℕ) (ys : List ℕ). y ∷ ys)
    (eqb→eq x 0 at.0)
    (entries F 1 xs (omega arith) (omega arith) rest.1 ∙ ap (λ (m : ℕ). inverses_from 1 m F) (omega arith))

pub table_is : (F : PrimeField) {p : ℕ} → F.p ≡ p → (n : ℕ) (l : List ℕ) → length l ≡ suc n → T (right_table p l) → l ≡ inverse_table n F
table_is F e n l s t = at_field F n l s (subst (λ (q : ℕ). T (right_table q l)) (sym e) t)

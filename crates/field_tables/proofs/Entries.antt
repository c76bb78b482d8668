-- The tables of factorials and of their inverses: one test over each, computed, makes its entries those of the definition.
--     right_factorials p l     entry 0 is 1, and each entry times the number of the next is the next
--     right_inverses p l       the same of inverses, the other way round
-- Theorems:
--     factorials-hold, inverses-hold     a table that passes holds the factorials, or their inverses
--     tables-for                         tables of n entries are tables for lists of n words
--     tables-within                      tables for lists of m words are tables for shorter ones
--     fetched                            what `factorials` and `inverse_factorials` hand out are tables for lists of the field
-- Assumes nothing.
use mathlib.Core.Path.{◌≡◌, sym, ap, ap₂, ◌∙◌, subst}
use mathlib.Core.Bool.{Bool, true, ◌&&◌}
use mathlib.Core.List.{List, [], ◌∷◌}
use Prim.Native.Nat.{ℕ, zero, suc, ◌+◌, ◌*◌, ◌%◌, ◌≤◌, ◌<◌}
use native.Mathlib.Nat.{le_of_suc-le-suc, zero-add, add-zero}
use native.Mathlib.Omega.{arith}
use lib.Dec.{T, eqb, eqb→eq}
use lib.ListN.{length, get_or}
use mir.Facts.{and_yes}
use Rattle.algebra.specs.RingLaws as R
use Rattle.algebra.specs.RingLaws.{Ac}
use Rattle.algebra.specs.PrimeField.{PrimeField, scalars, residue, inverse}
use Rattle.algebra.proofs.PrimeField.{residue-1, residue-mul-mod, inverse-cancel'}
use Rattle.refusal.specs.Limits.{max_words}
use Rattle.field.specs.Fields.{field_at, longest}
use Rattle.field.proofs.Fields.{longest-full}
use Rattle.field_tables.specs.Factorials.{factorial_in, inverse_factorial_in, Holds, Tables, TablesFor}
use Rattle.field_tables.proofs.FactorialLaws.{factorial-start, factorial-next, factorial-nonzero}

-- a rule on each entry and the next; k counts on from entry to entry
abbrev steps : (ℕ → ℕ → ℕ → Bool) → ℕ → List ℕ → Bool
steps rule k [] = true
steps rule k (x ∷ []) = true
steps rule k (x ∷ (y ∷ ys)) = rule k x y && steps rule (suc k) (y ∷ ys)

-- entry 0 is 1, and each entry times the number of the next is the next; of inverses the other way round
abbrev pub right_factorials : ℕ → List ℕ → Bool
right_factorials p l = eqb (get_or l 0 0) 1 && steps (λ k x y. eqb y ((x * suc k) % p)) 0 l

abbrev pub right_inverses : ℕ → List ℕ → Bool
right_inverses p l = eqb (get_or l 0 0) 1 && steps (λ k x y. eqb x ((y * suc k) % p)) 0 l

step-at : (rule : ℕ → ℕ → ℕ → Bool) (k : ℕ) (l : List ℕ) → T (steps rule k l) → (i : ℕ) → suc i < length l
    → T (rule (k + i) (get_or l i 0) (get_or l (suc i) 0))
step-at rule k [] t i l = absurd (omega arith)
step-at rule k (x ∷ []) t i l = absurd (omega arith)
step-at rule k (x ∷ (y ∷ ys)) t zero l = subst (λ n. T (rule n x y)) (sym (add-zero k)) (and_yes (rule k x y) _ t).0
step-at rule k (x ∷ (y ∷ ys)) t (suc i) l =
    let e : suc k + i ≡ k + suc i = omega arith in
    subst (λ n. T (rule n (get_or (y ∷ ys) i 0) (get_or ys i 0))) e (step-at rule (suc k) (y ∷ ys) (and_yes (rule k x y) _ t).1 i (le_of_suc-le-suc l))

module _ (F : PrimeField) (l : List ℕ) where
  open scalars F use {Carrier as K, one as 𝟙, mul as ◌⊗◌}

  infixl 70 ◌⊗◌
  factorial-at : get_or l 0 0 ≡ 1 → ((k : ℕ) → suc k < length l → get_or l (suc k) 0 ≡ (get_or l k 0 * suc k) % F.p)
      → (k : ℕ) → k < length l → residue F (get_or l k 0) ≡ factorial_in F k
  factorial-at s h zero b = ap (residue F) s ∙ residue-1 F ∙ sym (factorial-start F)
  factorial-at s h (suc k) b =
      ap (residue F) (h k b) ∙ residue-mul-mod F (get_or l k 0) (suc k)
      ∙ ap (λ x. x ⊗ residue F (suc k)) (factorial-at s h k (omega arith)) ∙ sym (factorial-next F k)

  inverse-at : get_or l 0 0 ≡ 1 → ((k : ℕ) → suc k < length l → get_or l k 0 ≡ (get_or l (suc k) 0 * suc k) % F.p)
      → (k : ℕ) → k < length l → residue F (get_or l k 0) ⊗ factorial_in F k ≡ 𝟙
  inverse-at s h zero b =
      ap₂ (λ x y. x ⊗ y) (ap (residue F) s ∙ residue-1 F) (factorial-start F) ∙ R.mul-one (scalars F) 𝟙
  inverse-at s h (suc k) b =
      ap (λ x. residue F (get_or l (suc k) 0) ⊗ x) (factorial-next F k)
      ∙ regroup (residue F (get_or l (suc k) 0)) (factorial_in F k) (residue F (suc k))
      ∙ ap (λ x. x ⊗ factorial_in F k) (sym (ap (residue F) (h k b) ∙ residue-mul-mod F (get_or l (suc k) 0) (suc k)))
      ∙ inverse-at s h k (omega arith)
    where
      regroup : (x y z : K) → x ⊗ (y ⊗ z) ≡ x ⊗ z ⊗ y
      regroup x y z = simp Ac

-- with the test at m
module _ (F : PrimeField) {m : ℕ} (e : F.p ≡ m) (n : ℕ) (l : List ℕ) (size : length l ≡ n) where
  open scalars F use {mul as ◌⊗◌}

  infixl 70 ◌⊗◌
  start : (b : Bool) → T (eqb (get_or l 0 0) 1 && b) → get_or l 0 0 ≡ 1
  start b t = eqb→eq (get_or l 0 0) 1 (and_yes (eqb (get_or l 0 0) 1) b t).0

  -- the rule at each entry
  next : (rule : ℕ → ℕ → ℕ → Bool) → T (eqb (get_or l 0 0) 1 && steps rule 0 l) → (k : ℕ) → suc k < length l → T (rule k (get_or l k 0) (get_or l (suc k) 0))
  next rule t k h =
      subst (λ i. T (rule i (get_or l k 0) (get_or l (suc k) 0))) (zero-add k)
      (step-at rule 0 l (and_yes (eqb (get_or l 0 0) 1) (steps rule 0 l) t).1 k h)

  pub factorials-hold : T (right_factorials m l) → Holds F n (factorial_in F) l
  factorials-hold t = record { long = omega arith; at = λ k h. factorial-at F l (start _ t) rises k (omega arith) }
    where
      rises : (k : ℕ) → suc k < length l → get_or l (suc k) 0 ≡ (get_or l k 0 * suc k) % F.p
      rises k h =
          eqb→eq (get_or l (suc k) 0) ((get_or l k 0 * suc k) % m) (next (λ i x y. eqb y ((x * suc i) % m)) t k h)
          ∙ ap (λ p. (get_or l k 0 * suc k) % p) (sym e)

  pub inverses-hold : n ≤ F.p → T (right_inverses m l) → Holds F n (inverse_factorial_in F) l
  unfolding inverse_factorial_in
  inverses-hold low t = record { long = omega arith; at = at }
    where
      falls : (k : ℕ) → suc k < length l → get_or l k 0 ≡ (get_or l (suc k) 0 * suc k) % F.p
      falls k h =
          eqb→eq (get_or l k 0) ((get_or l (suc k) 0 * suc k) % m) (next (λ i x y. eqb x ((y * suc i) % m)) t k h)
          ∙ ap (λ p. (get_or l (suc k) 0 * suc k) % p) (sym e)

      at : (k : ℕ) → k < n → residue F (get_or l k 0) ≡ inverse F (factorial_in F k)
      at k h =
          sym (inverse-cancel' F (residue F (get_or l k 0)) (factorial_in F k) (factorial-nonzero F k (omega arith)))
          ∙ ap (λ x. x ⊗ inverse F (factorial_in F k)) (inverse-at F l (start _ t) falls k (omega arith))
          ∙ R.one-mul (scalars F) _

pub tables-for : (k n : ℕ) {whole part : List ℕ} → length whole ≡ n → n ≤ longest k → Holds (field_at k) n (factorial_in (field_at k)) whole
    → Holds (field_at k) n (inverse_factorial_in (field_at k)) part → TablesFor k whole part
tables-for k n e l h i = record { tables = rw e (record { factorials = h; inverses = i }); few = omega arith }

pub tables-within : (F : PrimeField) {m : ℕ} (n : ℕ) {whole part : List ℕ} → n ≤ m → Tables F m whole part → Tables F n whole part
tables-within F n l t =
    record {
      factorials = record { long = omega (arith, t.factorials.long); at = λ k i. t.factorials.at k (omega arith) };
      inverses = record { long = omega (arith, t.inverses.long); at = λ k i. t.inverses.at k (omega arith) };
    }

-- the contracts of both calls, and the length that the type of a table gives
pub fetched : (k : ℕ) {whole part : List ℕ} → Holds (field_at k) (longest k) (factorial_in (field_at k)) whole
    → Holds (field_at k) (longest k) (inverse_factorial_in (field_at k)) part → length whole ≤ max_words → TablesFor k whole part
fetched k {whole} {part} h i l =
    record {
      tables = tables-within (field_at k) (length whole) few (record { factorials = h; inverses = i });
      few = few;
    }
  where
    few : length whole ≤ longest k
    few = omega (arith, longest-full k)

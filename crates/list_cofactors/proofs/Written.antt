-- How many words of buffers are lent, and a cofactor as it is written.
-- Theorems:
--     part-words       how many words are lent, and that these are enough
--     pair-written     a cofactor
-- Assumes nothing.
use mathlib.Core.Path.{◌≡◌, sym, ◌∙◌, ap, refl}
use mathlib.Core.Bool.{cond}
use mathlib.Core.List.{List}
use Prim.Native.Nat.{ℕ, min, max, ◌+◌, ◌≤◌, ◌<◌}
use native.Mathlib.Omega.{arith}
use lib.ListN.{length}
use Rattle.algebra.specs.PrimeField.{PrimeField, residue}
use Rattle.lists.proofs.Unscaled.{length-unscaled}
use Rattle.lists.specs.Padded.{padded}
use Rattle.lists.proofs.Padded.{padded-is}
use Rattle.field_tables.specs.Factorials.{Tables}
use Rattle.euclid_round.specs.Round.{multiplied, write_fits, written_words, written_list}
use Rattle.euclid_round.proofs.Written.{write-is}
use Rattle.list_gcd.specs.Internal.{Ready}
use Rattle.list_gcd.proofs.Ready.{ready-within}
use Rattle.list_cofactors.specs.Internal.{times_list}

module _ (F : PrimeField) where
  pub part-words : {m : ℕ} (n : ℕ) {f g : List ℕ} → 1 < m → Ready F m f g → n ≡ min m (max (length f) (length g) + 7)
      → (1 < n) × (n ≤ m) × Ready F n f g
  part-words n more r e =
      let short_f = r.short_f in
      let short_g = r.short_g in (
        omega arith,
        omega arith,
        ready-within F n r (omega arith) (omega arith),
      )

  -- a cofactor fills its slice
  pub pair-written : {p : ℕ} → F.p ≡ p → (n : ℕ) → n ≤ F.p → (whole part : List ℕ) → Tables F n whole part → (words m : ℕ) (form out : List ℕ)
      {form' out' : List ℕ} → length form ≡ n → words ≡ length out → length out ≤ n
      → (form' ≡ cond (write_fits words whole part form out) (multiplied p m form) form)
      × (out' ≡ cond (write_fits words whole part form out) (written_words p whole part words m form out) out)
      → out' ≡ times_list F (length out) (residue F m) form
  unfolding times_list written_list
  pair-written at n short whole part t words m form out lf ew few q =
      (write-is F at n short whole part t words m form out (omega arith) (omega arith) (omega arith) q).1
      ∙ ap (λ k. padded (length out) (times_list F k (residue F m) form)) ew
      ∙ sym (padded-is (length out) _ _ (omega (arith, long)) long (λ k l. refl))
    where
      long : length (times_list F (length out) (residue F m) form) ≡ length out
      long = length-unscaled F (length out) _

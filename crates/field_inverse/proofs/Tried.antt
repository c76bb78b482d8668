-- A word that is tried is the inverse where its product with a leaves 1; so is the cofactor of the remainder 1.
-- Assumes nothing.
use mathlib.Core.Path.{◌≡◌, refl, ap, ◌∙◌, subst}
use mathlib.Core.Bool.{Bool, true, false, cond, ◌&&◌}
use Prim.Native.Nat.{ℕ, zero, suc, ◌*◌, ◌%◌, ◌≤◌, ◌<◌}
use native.Mathlib.Nat.{mul-zero, zero-mod}
use native.Mathlib.Omega.{arith}
use lib.Dec.{ltb, eqb}
use borrow.Author.Tests.{ltb-true, eqb-true}
use Rattle.algebra.specs.PrimeField.{PrimeField}
use Rattle.field.specs.Field.{IsInverse, inverse_of}
use Rattle.field.proofs.Field.{inverse-is}
use Rattle.field_inverse.specs.Internal.{Leaves}
use Rattle.field_inverse.proofs.Answers.{Found}

false-true : false ≡ true → ⊥
false-true e = let z : ◌≡◌ {A = ℕ} 0 1 = ap (λ (b : Bool). cond b 1 0) e in omega arith

both : (a b : Bool) → (a && b) ≡ true → (a ≡ true) × (b ≡ true)
both true b e = (refl, e)
both false b e = (e, absurd (false-true e))

module _ (F : PrimeField) {p : ℕ} (at : F.p ≡ p) (a : ℕ) (some : 0 < a) (low : a < p) where
  the_inverse : IsInverse p a (inverse_of F a)
  the_inverse = subst (λ (q : ℕ). a < q → IsInverse q a (inverse_of F a)) at (inverse-is F a some) low

  -- no product with 0 leaves 1
  positive-factor : (b : ℕ) → (a * b) % p ≡ 1 → 1 ≤ b
  positive-factor zero e = absurd (omega (arith, ap (λ (n : ℕ). n % p) (mul-zero a), zero-mod p))
  positive-factor (suc b) e = omega arith

  pub found : (b : ℕ) → b < p → (a * b) % p ≡ 1 → b ≡ inverse_of F a
  found b l e = the_inverse.only b (positive-factor b e) l e

  pub tried : (b : ℕ) → (ltb b p && eqb ((a * b) % p) 1) ≡ true → b ≡ inverse_of F a
  tried b e =
      let t = both (ltb b p) (eqb ((a * b) % p) 1) e in
      found b (ltb-true b p t.0) (eqb-true ((a * b) % p) 1 t.1)

  -- the cofactor of the remainder 1
  pub of_one : (r b : ℕ) → 0 < r → r ≤ 1 → Leaves p a r b → b ≡ inverse_of F a
  of_one r b h l e = found b e.high (e.is ∙ omega arith)

  pub not-zero : {b : ℕ} → b ≡ inverse_of F a → ¬ (b ≡ 0)
  not-zero e z = omega (arith, the_inverse.low)

  pub is_found : (b : ℕ) → b ≡ inverse_of F a → Found p a b
  is_found b e = rw e (record { high = the_inverse.high; one = the_inverse.one })

-- What the inverse's rows give for operands that are loose, zero or neither, and the answer of the inverse.
-- Assumes nothing.
use mathlib.Core.Path.{◌≡◌, sym, ap, ◌∙◌, subst}
use mathlib.Core.List.{[], ◌∷◌}
use Prim.Native.Nat.{ℕ, ◌*◌, ◌%◌, ◌≤◌, ◌<◌}
use native.Mathlib.Omega.{arith}
use borrow.Author.Tests.{le-leb, lt-leb, eq-eqb, ne_eqb}
use Rattle.std.specs.Prelude.{Ok, Err}
use Rattle.algebra.specs.PrimeField.{PrimeField}
use Rattle.refusal.specs.Refusal.{Reply, reply}
use Rattle.refusal.specs.Lowest.{lowest}
use Rattle.refusal.specs.declared.Refusal.TheVariants.{LooseWord, AllZero}
use Rattle.refusal.proofs.First.{first-is}
use Rattle.field.specs.Field.{inverse_refusals, inverse_of, IsInverse}
use Rattle.field.proofs.Field.{inverse-is, inverse-only, has-inverse}

module _ (p a : ℕ) where
  pub inverse-loose : p ≤ a → lowest (inverse_refusals p a) ≡ Err LooseWord
  inverse-loose h = first-is (inverse_refusals p a) tt ∙ simp (le-leb p a h)

  pub inverse-zero : a < p → a ≡ 0 → lowest (inverse_refusals p a) ≡ Err AllZero
  inverse-zero l e = first-is (inverse_refusals p a) tt ∙ simp (lt-leb p a l, eq-eqb a 0 e)

inverse-done : (F : PrimeField) (a : ℕ) → 0 < a → a < F.p → lowest (inverse_refusals F.p a) ≡ Ok tt
inverse-done F a h l =
    first-is (inverse_refusals F.p a) tt
    ∙ simp (lt-leb F.p a l, ne_eqb a 0 (omega arith), has-inverse F a h l)

-- b is a word below p whose product with a leaves 1
pub record Found (p a b : ℕ) : Type 0 where
  pub high : b < p
  pub one : (a * b) % p ≡ 1

pub record Answered (F : PrimeField) (p a b : ℕ) : Type 0 where
  pub answer : ◌≡◌ {A = Reply} (record { number = 0; values = b ∷ [] }) (reply (lowest (inverse_refusals p a)) (inverse_of F a ∷ []))
  pub inverts : IsInverse p a b

pub answered : (F : PrimeField) {p : ℕ} → F.p ≡ p → (a b : ℕ) → 0 < a → a < p → Found p a b → Answered F p a b
answered F e a b h l f = subst (λ (n : ℕ). a < n → Found n a b → Answered F n a b) e at_field l f
  where
    at_field : a < F.p → Found F.p a b → Answered F F.p a b
    at_field l f =
        let same : b ≡ inverse_of F a = inverse-only F a h l b f.high f.one in
        record {
          answer = rw (inverse-done F a h l) (ap (λ (x : ℕ). reply (Ok tt) (x ∷ [])) same);
          inverts = subst (λ (x : ℕ). IsInverse F.p a x) (sym same) (inverse-is F a h l);
        }

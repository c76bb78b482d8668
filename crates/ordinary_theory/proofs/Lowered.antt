-- The degree in t is the naive degree after all raising is undone.
-- Theorems, of a list of coefficients that is not zero:
--     length-lowered      the lowered list has as many words as the size in t
--     meaning-lowered     it means the same
--     raise-lowered       raised again it is the list
--     lowered-least       no list that raises to the list is shorter
-- Assumes nothing.
use mathlib.Core.Path.{◌≡◌, sym, ◌∙◌, ap, subst}
use mathlib.Core.List.{List}
use Prim.Native.Nat.{ℕ, suc, ◌≤◌, ◌<◌}
use native.Mathlib.Omega.{arith}
use lib.ListN.{length}
use Rattle.algebra.specs.Polynomial.{Below}
use Rattle.algebra.specs.PrimeField.{PrimeField}
use Rattle.lists.specs.Degrees.{naive_degree}
use Rattle.lists.specs.Lists.{Coefficients, meaning}
use Rattle.lists.specs.Operations.{raise}
use Rattle.lists.proofs.Scaled.{length-naive, naive-length}
use Rattle.lists.proofs.Unscaled.{meaning-injective}
use Rattle.lists.proofs.Raises.{raise-meaning, length-raise, coefficients-raise}
use Rattle.ordinary_theory.specs.InT.{size_in_t, degree_in_t, list_of, lowered}
use Rattle.ordinary_theory.proofs.InT.{size_in_t-le, size_in_t-below, size_in_t-suc, size_in_t-raise, length-list_of, meaning-list_of}

module _ (F : PrimeField) (c : List ℕ) (g : Coefficients F c) (some : 0 < size_in_t F c) where
  degree : naive_degree (lowered F c) ≡ degree_in_t F c
  unfolding lowered
  degree = naive-length (list_of F (degree_in_t F c) (meaning F c)) (degree_in_t F c) (length-list_of F (degree_in_t F c) (meaning F c))

  pub length-lowered : length (lowered F c) ≡ size_in_t F c
  unfolding lowered
  length-lowered = length-list_of F (degree_in_t F c) (meaning F c) ∙ sym (size_in_t-suc F c some)

  length-c : length c ≡ suc (naive_degree c)
  length-c = length-naive c (let l = size_in_t-le F c in omega arith)

  short : naive_degree c < F.p
  short = let s = g.short in omega (arith, length-c)

  order : naive_degree (lowered F c) ≤ naive_degree c
  order = let l = size_in_t-le F c in omega (arith, degree, size_in_t-suc F c some, length-c)

  pub meaning-lowered : meaning F (lowered F c) ≡ meaning F c
  unfolding lowered
  meaning-lowered =
      meaning-list_of F (degree_in_t F c) (let l = size_in_t-le F c in let s = g.short in omega (arith, size_in_t-suc F c some))
      (subst (λ n. Below F.series n (meaning F c)) (size_in_t-suc F c some) (size_in_t-below F c))

  pub raise-lowered : raise F (naive_degree c) (lowered F c) ≡ c
  raise-lowered =
      meaning-injective F (raise F (naive_degree c) (lowered F c)) c (coefficients-raise F (naive_degree c) (lowered F c) short) g
      (length-raise F (naive_degree c) (lowered F c) ∙ sym length-c) (raise-meaning F (naive_degree c) (lowered F c) order short ∙ meaning-lowered)

  pub lowered-least : (d : List ℕ) → naive_degree d ≤ naive_degree c → raise F (naive_degree c) d ≡ c → length (lowered F c) ≤ length d
  lowered-least d l e =
      let s = size_in_t-le F d in
      omega (arith, length-lowered, ap (size_in_t F) (sym e) ∙ size_in_t-raise F (naive_degree c) d l short)

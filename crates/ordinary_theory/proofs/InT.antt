-- Lists as polynomials in t: their size and degree, the list that means a polynomial, and the words of powers of t.
-- Theorems:
--     below-meaning                            the meaning of a list of n words has degree below n
--     size_in_t-le, size_in_t-below            the size in t is at most the length, and the meaning has no more coefficients
--     size_in_t-least                          no bound on the meaning is below the size
--     size_in_t-suc                            the size is the degree in t and 1, where it is not 0
--     degree_in_t-is                           the degree in t is the degree of the meaning
--     size_in_t-same, size_in_t-raise          lists with one meaning have one size in t, so raising does not change it
--     zero-of-size_in_t, size_in_t-zero        the size in t is 0 just where the meaning is 0
--     significant-none, size_in_t-none         and, of a list of coefficients, just where each word is 0
--     length-list_of, coefficients-list_of     the list of a polynomial at e has e + 1 words, all coefficients
--     meaning-list_of, list_of-meaning         the list of P means P, and no other list of that length does
--     length-power_words                       a list has as many words of powers of t as it has words
--     carries-powers, significant-powers       they stand for the meaning, and the last that is not 0 is at the degree in t
--     degree-raised                            the degree in t of (1-t)^n · c is n more than that of c
-- Assumes nothing.
use mathlib.Core.Path.{◌≡◌, refl, sym, ◌∙◌, ap, subst}
use mathlib.Core.List.{List, [], ◌∷◌}
use Prim.Native.Nat.{ℕ, suc, ◌+◌, ◌≤◌, ◌<◌}
use native.Mathlib.Nat as N
use native.Mathlib.Decide.{dec_lt}
use native.Mathlib.Omega.{arith}
use lib.ListN.{length, get_or, get_or-eq_default}
use Rattle.algebra.specs.Polynomial.{Below}
use Rattle.algebra.proofs.Polynomial.{below-0}
use Rattle.algebra.specs.OneMinusT.{⟨1-t⟩^}
use Rattle.algebra.specs.Homogenise.{hom}
use Rattle.algebra.proofs.Homogenise.{hom-0, hom-inj}
use Rattle.algebra.proofs.Sum.{sum-zero}
use Rattle.algebra.specs.Degree.{Degree, size}
use Rattle.algebra.proofs.Degree.{degree-mul, size-le, size_below, size-extent, size-least, size-zero}
use Rattle.algebra.specs.PrimeField.{PrimeField, scalar_field, positive, residue, value}
use Rattle.algebra.proofs.PrimeField.{residue-value, residue-0, value-lt}
use Rattle.lists.proofs.Tabulate.{length-tabulate, get_or-tabulate}
use Rattle.lists.specs.Degrees.{naive_degree, significant}
use Rattle.lists.specs.Lists.{Coefficients, meaning, scaled}
use Rattle.lists.specs.Operations.{raise}
use Rattle.lists.proofs.Scaled.{naive-length, below-naive, meaning-hom, meaning-hom-at}
use Rattle.lists.proofs.Unscaled.{length-unscaled, coefficients-unscaled, meaning-unscaled, meaning-injective}
use Rattle.lists.proofs.Words.{Carries, carries-zero, carries-nonzero}
use Rattle.lists.proofs.Extents.{significant_in-size, significant-least, significant-zero}
use Rattle.lists.proofs.Raises.{raise-meaning}
use Rattle.ordinary_theory.proofs.Form.{below-hom, below-form, hom-form, degree-⟨1-t⟩^}
use Rattle.ordinary_theory.specs.InT.{size_in_t, degree_in_t, list_of, power_words}

module _ (F : PrimeField) where
  open F.series.ring use {Carrier as S, zero as 0ˢ, mul as ◌*ˢ◌}

  infixl 70 ◌*ˢ◌
  pub length-power_words : (c : List ℕ) → length (power_words F c) ≡ length c
  unfolding power_words
  length-power_words c = length-tabulate (length c) _

  -- a list of n words means a polynomial of degree below n
  pub below-meaning : (c : List ℕ) → Below F.series (length c) (meaning F c)
  below-meaning [] = unfold meaning in rw (sum-zero F.series _) (below-0 F.series 0)
  below-meaning (a ∷ c) =
      rw (meaning-hom-at F (length c) (a ∷ c) (naive-length (a ∷ c) (length c) refl)) (below-hom F.series (length c) (scaled F (a ∷ c)))

  pub size_in_t-le : (c : List ℕ) → size_in_t F c ≤ length c
  unfolding size_in_t
  size_in_t-le c = size-le F.series (scalar_field F) (length c) (meaning F c)

  pub size_in_t-below : (c : List ℕ) → Below F.series (size_in_t F c) (meaning F c)
  unfolding size_in_t
  size_in_t-below c = size_below F.series (scalar_field F) (length c) (below-meaning c)

  -- no bound is below the size
  pub size_in_t-least : (m : ℕ) (c : List ℕ) → Below F.series m (meaning F c) → size_in_t F c ≤ m
  unfolding size_in_t
  size_in_t-least m c h = size-least F.series (scalar_field F) (length c) m h

  pub size_in_t-suc : (c : List ℕ) → 0 < size_in_t F c → size_in_t F c ≡ suc (degree_in_t F c)
  unfolding degree_in_t
  size_in_t-suc c l = omega arith

  -- the degree in t is the degree of the meaning
  pub degree_in_t-is : (c : List ℕ) → 0 < size_in_t F c → Degree F.series (degree_in_t F c) (meaning F c)
  degree_in_t-is c l =
      size-extent F.series (scalar_field F) (length c) (degree_in_t F c) (below-meaning c) (unfold size_in_t in size_in_t-suc c l)

  -- the size and the degree in t are the polynomial's own, whatever list means it
  pub size_in_t-same : (c c' : List ℕ) → meaning F c ≡ meaning F c' → size_in_t F c ≡ size_in_t F c'
  size_in_t-same c c' e =
      N.le_antisymm (size_in_t-least (size_in_t F c') c (rw e (size_in_t-below c'))) (size_in_t-least (size_in_t F c) c' (rw (← e) (size_in_t-below c)))

  -- raising does not change it
  pub size_in_t-raise : (n : ℕ) (c : List ℕ) → naive_degree c ≤ n → n < F.p → size_in_t F (raise F n c) ≡ size_in_t F c
  size_in_t-raise n c l h = size_in_t-same (raise F n c) c (raise-meaning F n c l h)

  -- only a zero list has size 0
  pub zero-of-size_in_t : (c : List ℕ) → size_in_t F c ≡ 0 → meaning F c ≡ 0ˢ
  unfolding size_in_t
  zero-of-size_in_t c e = size-zero F.series (scalar_field F) (length c) (below-meaning c) e

  pub size_in_t-zero : (c : List ℕ) → meaning F c ≡ 0ˢ → size_in_t F c ≡ 0
  size_in_t-zero c e = let l = size_in_t-least 0 c (rw e (below-0 F.series 0)) in omega arith

  pub significant-none : (c : List ℕ) → Coefficients F c → size_in_t F c ≡ 0 → significant c ≡ 0
  significant-none c g e =
      let l = significant-least F 0 c g (rw scaled-0 (below-0 F.series 0)) in omega arith
    where
      scaled-0 : scaled F c ≡ 0ˢ
      scaled-0 = hom-inj F.series (naive_degree c) (below-naive F c) (sym (meaning-hom F c) ∙ zero-of-size_in_t c e)

  pub size_in_t-none : (c : List ℕ) → Coefficients F c → significant c ≡ 0 → size_in_t F c ≡ 0
  size_in_t-none c g e =
      size_in_t-zero c (meaning-hom F c ∙ ap (hom F.series (naive_degree c)) (significant-zero F c g e) ∙ hom-0 F.series (naive_degree c))

  pub length-list_of : (e : ℕ) (P : S) → length (list_of F e P) ≡ suc e
  unfolding list_of
  length-list_of e P = length-unscaled F (suc e) _

  pub coefficients-list_of : (e : ℕ) (P : S) → e < F.p → Coefficients F (list_of F e P)
  unfolding list_of
  coefficients-list_of e P l = coefficients-unscaled F (suc e) _ l

  -- the list of P means P
  pub meaning-list_of : (e : ℕ) {P : S} → e < F.p → Below F.series (suc e) P → meaning F (list_of F e P) ≡ P
  unfolding list_of
  meaning-list_of e {P} l h = meaning-unscaled F e l (below-form F.series e P) ∙ hom-form F.series e h

  -- and no other list of that length does
  pub list_of-meaning : (e : ℕ) (c : List ℕ) → Coefficients F c → length c ≡ suc e → list_of F e (meaning F c) ≡ c
  list_of-meaning e c g n =
      let s = g.short in
      let l : e < F.p = omega (arith, n) in
      meaning-injective F (list_of F e (meaning F c)) c (coefficients-list_of e (meaning F c) l) g (length-list_of e (meaning F c) ∙ sym n)
      (meaning-list_of e l (subst (λ k. Below F.series k (meaning F c)) n (below-meaning c)))

  -- the words of powers of t stand for the meaning
  pub carries-powers : (c : List ℕ) → Carries F (power_words F c) (meaning F c)
  unfolding power_words
  carries-powers c = record { below = λ k. low k (dec_lt k (length c)); at = λ k. same k (dec_lt k (length c)) }
    where
      high : (k : ℕ) → length c ≤ k → get_or (power_words F c) k 0 ≡ 0
      high k l = get_or-eq_default (power_words F c) 0 (let e = length-power_words c in omega arith)

      low : (k : ℕ) → Dec (k < length c) → get_or (power_words F c) k 0 < F.p
      low k (yes l) = rw (get_or-tabulate (length c) (λ k. value F (F.series.coeff (meaning F c) k)) k l) (value-lt F _)
      low k (no l) = rw (high k (omega arith)) (positive F)

      same : (k : ℕ) → Dec (k < length c) → residue F (get_or (power_words F c) k 0) ≡ F.series.coeff (meaning F c) k
      same k (yes l) = ap (residue F) (get_or-tabulate (length c) _ k l) ∙ residue-value F _
      same k (no l) = ap (residue F) (high k (omega arith)) ∙ residue-0 F ∙ sym ((below-meaning c).at k (omega arith))

  pub significant-powers : (c : List ℕ) → significant (power_words F c) ≡ size_in_t F c
  unfolding significant size_in_t
  significant-powers c =
      significant_in-size F (length (power_words F c)) (power_words F c) (meaning F c) (λ k l. carries-zero F (carries-powers c) k)
      (λ k l. carries-nonzero F (carries-powers c) k)
      ∙ ap (λ n. size F.series (scalar_field F) n (meaning F c)) (length-power_words c)

  -- the degree in t of (1-t)^n · c
  pub degree-raised : (n : ℕ) (c : List ℕ) → 0 < size_in_t F c
      → Degree F.series (degree_in_t F c + n) (⟨1-t⟩^ F.series n *ˢ meaning F c)
  degree-raised n c l =
      subst (λ d. Degree F.series d (⟨1-t⟩^ F.series n *ˢ meaning F c)) (N.add_comm n (degree_in_t F c))
      (degree-mul F.series (scalar_field F) (degree-⟨1-t⟩^ F.series (scalar_field F) n) (degree_in_t-is c l))

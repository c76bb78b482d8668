-- The GCD of an album whose lists are not all zero is the greatest common divisor of their polynomials: with c the common power,
-- (1-t)^c·h divides each list, and every polynomial that divides them all divides it.
-- Theorems:
--     album-divides                              (1-t)^c·h divides each list
--     album-greatest                             every polynomial that divides them all divides it
--     album-is-greatest                          both
--     album-length, album-extent, album-ends     h has naive degree w, which is its extent, and ends in 1
-- Assumes nothing.
use mathlib.Core.Path.{◌≡◌, sym, ◌∙◌, subst}
use mathlib.Core.Logic.{◌⊎◌, inl, inr}
use mathlib.Core.List.{List, []}
use Prim.Native.Nat.{ℕ, suc, ◌≤◌, ◌<◌}
use lib.ListN.{get_or, length}
use Rattle.algebra.specs.Polynomial.{Polynomial, Divides}
use Rattle.algebra.specs.OneMinusT.{⟨1-t⟩^}
use Rattle.algebra.proofs.Factors.{Split, split-le, split_off}
use Rattle.algebra.proofs.CommonDivisor.{core-divides, assemble, divisor-nonzero}
use Rattle.algebra.specs.PrimeField.{PrimeField, scalar_field}
use Rattle.lists.specs.Degrees.{naive_degree, significant, extent}
use Rattle.lists.specs.Lists.{Coefficients, meaning}
use Rattle.lists.proofs.Extents.{power-exact}
use Rattle.euclid_theory.specs.Gcd.{common_power}
use Rattle.euclid_theory.proofs.Powers.{common_power-le, common_power-attained}
use Rattle.euclid_theory.proofs.Greatest.{divides-list}
use Rattle.euclid_theory.specs.Defined.{Head}
use Rattle.euclid_theory.proofs.Defined.{head-extent}
use Rattle.album_theory.specs.Albums.{album_gcd}
use Rattle.album_theory.specs.Greatest.{IsGreatestOf}
use Rattle.album_theory.proofs.CommonDivisors.{Whole, whole}

module _ (F : PrimeField) where
  open F.series.ring use {Carrier as S, zero as 0ˢ, mul as ◌*ˢ◌}

  infixl 70 ◌*ˢ◌
  -- an album of coefficients; list i is not zero
  module _ (lists : List (List ℕ)) (each : (i : ℕ) → Coefficients F (get_or lists i [])) (i : ℕ) (some : 0 < significant (get_or lists i [])) where
    album-whole : Whole F lists (album_gcd F lists).list
    album-whole = whole F lists each i some

    pub album-head : Head F (album_gcd F lists).list
    album-head = album-whole.head

    -- of naive degree w
    pub album-length : length (album_gcd F lists).list ≡ suc (naive_degree (album_gcd F lists).list)
    album-length = album-head.words

    -- which is its extent
    pub album-extent : extent (album_gcd F lists).list ≡ naive_degree (album_gcd F lists).list
    album-extent = head-extent F (album_gcd F lists).list album-head

    -- the last word is 1
    pub album-ends : get_or (album_gcd F lists).list (naive_degree (album_gcd F lists).list) 0 ≡ 1
    album-ends = album-head.ends

    pub album-divides : (j : ℕ)
        → Divides F.series (⟨1-t⟩^ F.series (common_power lists) *ˢ meaning F (album_gcd F lists).list) (meaning F (get_or lists j []))
    album-divides j =
        divides-list F (common_power lists) (album_gcd F lists).list (get_or lists j []) album-head.degree (album-whole.over j)
        (each j) (common_power-le lists j)

    pub album-greatest : (K : S) → Polynomial F.series K → ((j : ℕ) → Divides F.series K (meaning F (get_or lists j [])))
        → Divides F.series K (⟨1-t⟩^ F.series (common_power lists) *ˢ meaning F (album_gcd F lists).list)
    album-greatest K pK d = go (split_off F.series (scalar_field F) pK)
      where
        -- K has at most c factors 1-t
        small : (q : Split F.series K) → q.k ≤ common_power lists
        small q =
            let least = common_power-attained lists i some in
            let exact = power-exact F (get_or lists least.index []) (each least.index) least.some in
            subst (λ k. q.k ≤ k) (exact.1 ∙ sym least.is) (split-le F.series q exact.0 (d least.index))

        go : (K ≡ 0ˢ) ⊎ Split F.series K
            → Divides F.series K (⟨1-t⟩^ F.series (common_power lists) *ˢ meaning F (album_gcd F lists).list)
        go (inl z) = absurd (divisor-nonzero F.series (power-exact F (get_or lists i []) (each i) some).0 (d i) z)
        go (inr q) =
            assemble F.series (common_power lists) q (small q) (album-whole.under q (λ j. core-divides F.series q (d j)))

    pub album-is-greatest : IsGreatestOf F lists (⟨1-t⟩^ F.series (common_power lists) *ˢ meaning F (album_gcd F lists).list)
    album-is-greatest = record { each = album-divides; all = album-greatest }

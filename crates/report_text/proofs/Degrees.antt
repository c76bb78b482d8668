-- The degree of the GCD that the report prints is the degree in t of G = (1-t)^c·h.
-- Theorems:
--     gcd-degree          it is the degree of (1-t)^c·h as a polynomial, for any c and any list h of coefficients that is not zero
--     gcd-degree-most     it is at most w + c
--     album-degree        of an album that is not refused and has a list that is not zero, it is the degree of G
-- Assumes nothing.
use mathlib.Core.Path.{◌≡◌, subst}
use mathlib.Core.Bool.{false}
use mathlib.Core.List.{List}
use Prim.Native.Nat.{ℕ, ◌+◌, ◌≤◌, ◌<◌}
use native.Mathlib.Decide.{ℕ_discrete}
use native.Mathlib.Omega.{arith}
use Rattle.algebra.specs.Degree.{Degree}
use Rattle.algebra.specs.OneMinusT.{⟨1-t⟩^}
use Rattle.algebra.specs.PrimeField.{PrimeField}
use Rattle.refusal.specs.Limits.{max_words}
use Rattle.lists.specs.Degrees.{naive_degree, significant}
use Rattle.lists.specs.Lists.{Coefficients, meaning}
use Rattle.lists.proofs.Extents.{after-significant}
use Rattle.euclid_theory.specs.Gcd.{common_power}
use Rattle.euclid_theory.specs.Defined.{Head}
use Rattle.ordinary_theory.specs.InT.{size_in_t, degree_in_t}
use Rattle.ordinary_theory.proofs.InT.{size_in_t-le, significant-none, degree-raised}
use Rattle.album_theory.specs.Albums.{album_gcd}
use Rattle.album_theory.proofs.Greatest.{album-head}
use Rattle.album_layout.specs.Layout.{lists_of}
use Rattle.album_layout.specs.Internal.{Passed}
use Rattle.album_layout.proofs.Passed.{passed-each}
use Rattle.album_gcd.specs.Calls.{all_zero}
use Rattle.album_gcd.proofs.Zeros.{nonzero}
use Rattle.album_gcd.proofs.Finish.{each}
use Rattle.report_text.specs.Report.{gcd_degree}

module _ (F : PrimeField) where
  open F.series.ring use {mul as ◌*ˢ◌}

  infixl 70 ◌*ˢ◌
  pub gcd-degree : (h : List ℕ) (c : ℕ) → Coefficients F h → ¬ (significant h ≡ 0)
      → Degree F.series (gcd_degree F h c) (⟨1-t⟩^ F.series c *ˢ meaning F h)
  gcd-degree h c g f =
      subst (λ d. Degree F.series d (⟨1-t⟩^ F.series c *ˢ meaning F h)) sum (degree-raised F c h (some (ℕ_discrete (size_in_t F h) 0)))
    where
      sum : degree_in_t F h + c ≡ gcd_degree F h c
      sum = unfold gcd_degree in omega arith

      some : Dec (size_in_t F h ≡ 0) → 0 < size_in_t F h
      some (yes z) = absurd (f (significant-none F h g z))
      some (no n) = omega arith

  pub gcd-degree-most : (h : List ℕ) (c : ℕ) → gcd_degree F h c ≤ naive_degree h + c
  unfolding gcd_degree degree_in_t naive_degree
  gcd-degree-most h c = omega (arith, size_in_t-le F h)

  -- h ends in 1
  head-some : (h : List ℕ) → Head F h → ¬ (significant h ≡ 0)
  head-some h hd z = absurd (omega (arith, hd.ends, after-significant h (naive_degree h) (omega arith)))

  pub album-degree : max_words ≤ F.p → (s : List ℕ) → Passed F.p s → all_zero (lists_of s) ≡ false
      → Degree F.series (gcd_degree F (album_gcd F (lists_of s)).list (common_power (lists_of s)))
      (⟨1-t⟩^ F.series (common_power (lists_of s)) *ˢ meaning F (album_gcd F (lists_of s)).list)
  album-degree wide s e z =
      let one = nonzero (lists_of s) z in
      let listed = passed-each F.p s e max_words (omega arith) in
      let head = album-head F (lists_of s) (each F max_words wide (lists_of s) listed one) one.index one.some in
      gcd-degree (album_gcd F (lists_of s)).list (common_power (lists_of s)) head.coefficients (head-some (album_gcd F (lists_of s)).list head)

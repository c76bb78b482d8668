-- The top zeros removed: the same scaled form at the least naive degree, so the meaning loses its factors 1-t.
-- Theorems:
--     trim-scaled      the scaled form is the same
--     trim-meaning     the meaning is (1-t)^power times that of the trimmed list
-- Assumes nothing.
use mathlib.Core.Path.{◌≡◌, sym, ◌∙◌, ap, ap₂}
use mathlib.Core.List.{List}
use Prim.Native.Nat.{ℕ, suc, ◌-◌, ◌≤◌, ◌<◌}
use native.Mathlib.Omega.{arith}
use lib.ListN.{length}
use Rattle.algebra.specs.OneMinusT.{⟨1-t⟩^}
use Rattle.algebra.specs.Homogenise.{hom}
use Rattle.algebra.proofs.Homogenise.{hom-strip}
use Rattle.algebra.specs.PrimeField.{PrimeField}
use Rattle.lists.specs.Degrees.{naive_degree, significant, extent, power}
use Rattle.lists.specs.Lists.{Coefficients, meaning, scaled}
use Rattle.lists.specs.Operations.{trim}
use Rattle.lists.proofs.Scaled.{meaning-hom}
use Rattle.lists.proofs.Unscaled.{length-unscaled, coefficients-unscaled, scaled-unscaled}
use Rattle.lists.proofs.Extents.{significant-le, significant-extent, significant-below, significant-degree}

module _ (F : PrimeField) where
  open F.series.ring use {mul as ◌*ˢ◌}

  infixl 70 ◌*ˢ◌
  significant-trim : (f : List ℕ) → length (trim F f) ≡ significant f
  unfolding trim
  significant-trim f = length-unscaled F (significant f) (scaled F f)

  pub length-trim : (f : List ℕ) → 0 < significant f → length (trim F f) ≡ suc (extent f)
  length-trim f l = significant-trim f ∙ significant-extent f l

  pub naive-trim : (f : List ℕ) → naive_degree (trim F f) ≡ extent f
  unfolding naive_degree extent
  naive-trim f = ap (λ n. n - 1) (significant-trim f)

  few : (f : List ℕ) → Coefficients F f → significant f ≤ F.p
  few f g = let l = significant-le f in let s = g.short in omega arith

  pub coefficients-trim : (f : List ℕ) → Coefficients F f → Coefficients F (trim F f)
  unfolding trim
  coefficients-trim f g = coefficients-unscaled F (significant f) (scaled F f) (few f g)

  pub trim-scaled : (f : List ℕ) → Coefficients F f → scaled F (trim F f) ≡ scaled F f
  unfolding trim
  trim-scaled f g = scaled-unscaled F (significant f) (few f g) (significant-below F f g)

  pub trim-meaning : (f : List ℕ) → Coefficients F f → 0 < significant f → meaning F f ≡ ⟨1-t⟩^ F.series (power f) *ˢ meaning F (trim F f)
  unfolding power
  trim-meaning f g l =
      meaning-hom F f
      ∙ hom-strip F.series (naive_degree f) (extent f) (significant-degree F (extent f) f g (significant-extent f l)).below le
      ∙ ap (λ s. ⟨1-t⟩^ F.series (naive_degree f - extent f) *ˢ s)
      (sym (meaning-hom F (trim F f) ∙ ap₂ (hom F.series) (naive-trim f) (trim-scaled f g)))
    where
      le : extent f ≤ naive_degree f
      le = let h = significant-le f in unfold extent naive_degree in omega arith

-- What `weigh` writes of a scaled form where the lengths fit: the list with its top zeros removed.
-- Assumes nothing.
use mathlib.Core.Path.{◌≡◌, ◌∙◌, ap, ap₂}
use mathlib.Core.Bool.{cond}
use mathlib.Core.List.{List}
use Prim.Native.Nat.{ℕ, ◌≤◌}
use native.Mathlib.Omega.{arith}
use lib.ListN.{length}
use Rattle.algebra.specs.PrimeField.{PrimeField}
use Rattle.lists.specs.Lists.{unscaled}
use Rattle.lists.specs.Operations.{trim}
use Rattle.lists.proofs.Extents.{significant-le}
use Rattle.lists.specs.Words.{series_of}
use Rattle.lists.proofs.Words.{scaled_words, length-scaled_words, series_of-scaled_words}
use Rattle.field_tables.specs.Factorials.{Tables}
use Rattle.word_scaling.specs.Scaling.{weigh_fits, weighted}
use Rattle.word_scaling.proofs.Weights.{unscale-is}
use Rattle.list_extent.specs.Internal.{TrimFits}

module _ (F : PrimeField) {p : ℕ} (is : F.p ≡ p) (most : ℕ) (wide : most ≤ F.p) (whole part : List ℕ) (tables : Tables F most whole part) where
  pub trimmed : (f : List ℕ) {form old new : List ℕ} → TrimFits most f old → form ≡ scaled_words F f
      → new ≡ cond (weigh_fits form part whole old) (weighted p part whole (length old) form) old → new ≡ trim F f
  unfolding trim
  trimmed f {form} {old} {new} fits e h =
      let n = ap length e ∙ length-scaled_words F f in
      let l = significant-le f in
      let q = fits.size in
      let r = fits.short in
      unscale-is F is most wide whole part tables form old (omega arith) (omega arith) h ∙ ap₂ (unscaled F) q (ap (series_of F) e ∙ series_of-scaled_words F f)

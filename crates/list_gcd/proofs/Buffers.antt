-- The words of a scaled form in a buffer of zeros.
-- Assumes nothing.
use mathlib.Core.Path.{◌≡◌, sym, ◌∙◌, ap}
use mathlib.Core.Bool.{cond}
use mathlib.Core.List.{List, ◌++◌}
use Prim.Native.Nat.{ℕ, ◌≤◌}
use native.Mathlib.Omega.{arith}
use lib.ListN.{get_or, length, take, drop, length-append, length-take, length-drop}
use lib.Seq.{get_or-drop}
use Rattle.algebra.proofs.Series.{ext}
use Rattle.algebra.specs.PrimeField.{PrimeField, residue}
use Rattle.lists.specs.Lists.{scaled}
use Rattle.lists.specs.Words.{series_of}
use Rattle.lists.proofs.Words.{coeff-series_of, scaled_words, length-scaled_words, series_of-scaled_words, carries-scaled}
use Rattle.field_tables.specs.Factorials.{Tables}
use Rattle.word_scaling.specs.Scaling.{weigh_fits, weighted}
use Rattle.word_scaling.proofs.Weights.{scale-is}
use Rattle.list_gcd.specs.Internal.{Holds}
use Rattle.lists.proofs.Parts.{get_or-then-zeros}

module _ (F : PrimeField) where
  open F.series.ring use {Carrier as S}

  -- the series of two buffers that agree
  series_of-ext : (x y : List ℕ) → ((k : ℕ) → get_or x k 0 ≡ get_or y k 0) → series_of F x ≡ series_of F y
  series_of-ext x y h =
      ext F.series _ _ (λ k. coeff-series_of F x k ∙ ap (residue F) (h k) ∙ sym (coeff-series_of F y k))

  -- the words of a scaled form, written to the front of a buffer of zeros
  pub holds-scaled : {p : ℕ} → F.p ≡ p → (n : ℕ) → n ≤ F.p → (whole part : List ℕ) → Tables F n whole part → (c z : List ℕ) {out : List ℕ} → length c ≤ n → length z ≡ n → ((k : ℕ) → get_or z k 0 ≡ 0)
      → out ≡ cond (weigh_fits c whole part (take (length c) z)) (weighted p whole part (length (take (length c) z)) c) (take (length c) z)
      → Holds F n (out ++ drop (length c) z) (scaled F c)
  holds-scaled at n short whole part t c z {out} l e h q =
      record {
        buffer = record {
          size = simp (length-append, length-drop, is, length-scaled_words F c) (omega arith);
          below = λ k. rw (same k) ((carries-scaled F c).below k);
        };
        series = series_of-ext _ (scaled_words F c) same ∙ series_of-scaled_words F c;
      }
    where
      front : length (take (length c) z) ≡ length c
      front = simp length-take (omega arith)

      is : out ≡ scaled_words F c
      is = scale-is F at n short whole part t c (take (length c) z) front l q

      same : (k : ℕ) → get_or (out ++ drop (length c) z) k 0 ≡ get_or (scaled_words F c) k 0
      same k = get_or-then-zeros out (drop (length c) z) (λ i. rw get_or-drop (h _)) k ∙ ap (λ a. get_or a k 0) is

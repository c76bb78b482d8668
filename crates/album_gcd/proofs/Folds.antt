-- Laws of a loop over the lists: it ends with the GCD of the album, and each result so far is a list that no call refuses.
-- Assumes nothing.
use mathlib.Core.Path.{◌≡◌, refl, sym, ◌∙◌, ap, ap₂}
use mathlib.Core.List.{List, [], ◌∷◌}
use Prim.Native.Nat.{ℕ, zero, suc, ◌+◌, ◌-◌, ◌≤◌, ◌<◌}
use native.Mathlib.Decide.{ℕ_discrete}
use native.Mathlib.Omega.{arith}
use lib.ListN.{get_or, length, drop}
use lib.Seq.{drop-cons}
use borrow.Author.Tests.{eq-eqb, ne_eqb}
use Rattle.algebra.specs.Series.{C}
use Rattle.algebra.specs.Degree.{size}
use Rattle.algebra.proofs.Degree.{size-le, size_same}
use Rattle.algebra.proofs.Euclid.{done-last}
use Rattle.algebra.specs.Monic.{top_inverse, monic}
use Rattle.algebra.proofs.Monic.{monic-is}
use Rattle.algebra.specs.PrimeField.{PrimeField, scalar_field, positive}
use Rattle.lists.specs.Degrees.{significant_in, significant}
use Rattle.lists.specs.Lists.{Coefficients, scaled, unscaled}
use Rattle.lists.proofs.Scaled.{coefficients-listed, below-scaled}
use Rattle.lists.proofs.Unscaled.{length-unscaled}
use Rattle.lists.proofs.Extents.{significant-at}
use Rattle.lists.specs.Refused.{IsList}
use Rattle.euclid_theory.specs.Gcd.{room, euclid_of, gcd_of, rounds_of}
use Rattle.euclid_theory.proofs.Gcd as Two
use Rattle.euclid_theory.proofs.Gcd.{room-right, fits-right, rounds-of-zero}
use Rattle.euclid_theory.proofs.Powers.{significant-nil}
use Rattle.euclid_theory.proofs.Defined.{head-gcd}
use Rattle.album_theory.specs.Albums.{Result, ended, joined, gcd_from, album_gcd}
use Rattle.album_theory.proofs.Albums.{from-none, from_zero, from-nonzero, album-zero, album-nonzero}
use Rattle.album_gcd.specs.Internal.{zero_start, with_list, fold_gcd}

significant-start : significant (0 ∷ []) ≡ 0
unfolding significant significant_in
significant-start = refl

module _ (F : PrimeField) where
  open F.series.ring use {mul as ◌*ˢ◌}

  infixl 70 ◌*ˢ◌
  pub with-zero : (result : Result) (c : List ℕ) → significant c ≡ 0 → with_list F result c ≡ result
  unfolding with_list
  with-zero result c e = rw (eq-eqb (significant c) 0 e)

  pub with-nonzero : (result : Result) (c : List ℕ) → ¬ (significant c ≡ 0) → with_list F result c ≡ joined F result c
  unfolding with_list
  with-nonzero result c h = rw (ne_eqb (significant c) 0 h)

  pub fold-none : (result : Result) → fold_gcd F result [] ≡ result
  unfolding fold_gcd
  fold-none result = refl

  pub fold_more : (result : Result) (c : List ℕ) (lists : List (List ℕ)) → fold_gcd F result (c ∷ lists) ≡ fold_gcd F (with_list F result c) lists
  unfolding fold_gcd
  fold_more result c lists = refl

  -- a loop at list i
  pub fold-drop : (result : Result) (lists : List (List ℕ)) (i : ℕ) → i < length lists
      → fold_gcd F result (drop i lists) ≡ fold_gcd F (with_list F result (get_or lists i [])) (drop (suc i) lists)
  fold-drop result lists i l = ap (fold_gcd F result) (drop-cons lists i [] l) ∙ fold_more result _ _

  -- the definition's fold
  pub fold-from : (result : Result) (lists : List (List ℕ)) → gcd_from F result lists ≡ fold_gcd F result lists
  fold-from result [] = from-none F result ∙ sym (fold-none result)
  fold-from result (c ∷ lists) =
      go (fold-from result lists) (fold-from (joined F result c) lists) (ℕ_discrete (significant c) 0)
    where
      go : gcd_from F result lists ≡ fold_gcd F result lists → gcd_from F (joined F result c) lists ≡ fold_gcd F (joined F result c) lists
          → Dec (significant c ≡ 0) → gcd_from F result (c ∷ lists) ≡ fold_gcd F result (c ∷ lists)
      go ih ih' (yes e) =
          from_zero F result c lists e ∙ ih
          ∙ sym (fold_more result c lists ∙ ap (λ r. fold_gcd F r lists) (with-zero result c e))
      go ih ih' (no e) =
          from-nonzero F result c lists e ∙ ih'
          ∙ sym (fold_more result c lists ∙ ap (λ r. fold_gcd F r lists) (with-nonzero result c e))

  coefficients-start : Coefficients F (0 ∷ [])
  coefficients-start = record { short = let l = positive F in omega arith; below = below }
    where
      below : (k : ℕ) → get_or (0 ∷ []) k 0 < F.p
      below zero = positive F
      below (suc k) = positive F

  -- from [0], a list that is not zero is ended, in no round
  pub start-zero : (c : List ℕ) → Coefficients F c → gcd_of F (0 ∷ []) c ≡ ended F c
  unfolding gcd_of ended
  start-zero c hc = ap₂ (unscaled F) (ap (size F.series (scalar_field F) (room (0 ∷ []) c)) last ∙ sym size-c) form
    where
      last : (euclid_of F (0 ∷ []) c).last ≡ scaled F c
      last =
          ap (λ z. z.last) (Two.ended F (0 ∷ []) c coefficients-start significant-start)
          ∙ done-last F.series (scalar_field F) (scaled F c)

      size-c : significant c ≡ size F.series (scalar_field F) (room (0 ∷ []) c) (scaled F c)
      size-c = significant-at F (room (0 ∷ []) c) c hc (room-right (0 ∷ []) c)

      unit : top_inverse F.series (scalar_field F) (room (0 ∷ []) c) (scaled F c)
          ≡ top_inverse F.series (scalar_field F) (length c) (scaled F c)
      unit =
          unfold top_inverse in
          ap (λ k. (scalar_field F).inv (F.series.coeff (scaled F c) (k - 1)))
          (size_same F.series (scalar_field F) (room (0 ∷ []) c) (length c) (fits-right F (0 ∷ []) c) (below-scaled F c))

      form : monic F.series (scalar_field F) (room (0 ∷ []) c) (euclid_of F (0 ∷ []) c).last
          ≡ monic F.series (scalar_field F) (length c) (scaled F c)
      form =
          ap (monic F.series (scalar_field F) (room (0 ∷ []) c)) last
          ∙ monic-is F.series (scalar_field F) (room (0 ∷ []) c) (scaled F c)
          ∙ ap (λ a. C F.series a *ˢ scaled F c) unit ∙ sym (monic-is F.series (scalar_field F) (length c) (scaled F c))

  pub start-rounds : (c : List ℕ) → rounds_of F (0 ∷ []) c ≡ 0
  start-rounds c = rounds-of-zero F (0 ∷ []) c coefficients-start significant-start

  -- the GCD of an album whose lists are not all zero is the fold from [0]; list i is not zero
  pub fold-album : (lists : List (List ℕ)) → ((i : ℕ) → Coefficients F (get_or lists i [])) → (i : ℕ)
      → 0 < significant (get_or lists i []) → album_gcd F lists ≡ fold_gcd F zero_start lists
  fold-album [] each i some = absurd (let z = significant-nil in omega arith)
  fold-album (c ∷ lists) each i some =
      go (λ j l. fold-album lists (λ i. each (suc i)) j l) (ℕ_discrete (significant c) 0) i some
    where
      go : ((j : ℕ) → 0 < significant (get_or lists j []) → album_gcd F lists ≡ fold_gcd F zero_start lists) → Dec (significant c ≡ 0)
          → (i : ℕ) → 0 < significant (get_or (c ∷ lists) i []) → album_gcd F (c ∷ lists) ≡ fold_gcd F zero_start (c ∷ lists)
      go ih (yes e) zero l = absurd (omega arith)
      go ih (yes e) (suc i) l =
          album-zero F c lists e ∙ ih i l
          ∙ sym (fold_more zero_start c lists ∙ ap (λ r. fold_gcd F r lists) (with-zero zero_start c e))
      go ih (no e) i l =
          album-nonzero F c lists e ∙ fold-from (record { list = ended F c; rounds = 0 }) lists
          ∙ sym (fold_more zero_start c lists ∙ ap (λ r. fold_gcd F r lists) (with-nonzero zero_start c e ∙ first))
        where
          none : 0 + rounds_of F (0 ∷ []) c ≡ 0
          none = let z = start-rounds c in omega arith

          first : joined F zero_start c ≡ record { list = ended F c; rounds = 0 }
          first = ap₂ (λ h n. record { list = h; rounds = n }) (start-zero c (each 0)) none

  -- each result so far is a list that no call refuses
  pub start-listed : (most : ℕ) → 0 < most → IsList F.p most (0 ∷ [])
  start-listed most l = record { some = omega arith; short = omega arith; words = coefficients-start.below }

  pub with-listed : (most : ℕ) (result : Result) (c : List ℕ) → most ≤ F.p → IsList F.p most result.list → IsList F.p most c
      → IsList F.p most (with_list F result c).list
  with-listed most result c l hr hc = go (ℕ_discrete (significant c) 0)
    where
      short : length (gcd_of F result.list c) ≤ most
      short =
          let s = size-le F.series (scalar_field F) (room result.list c) (euclid_of F result.list c).last in
          let a = hr.short in
          let b = hc.short in
          unfold gcd_of room in rw (length-unscaled F _ _) (omega arith)

      go : Dec (significant c ≡ 0) → IsList F.p most (with_list F result c).list
      go (yes e) = rw (with-zero result c e) hr
      go (no e) =
          let h = head-gcd F result.list c (coefficients-listed F l hr) (coefficients-listed F l hc) (omega arith) in
          let w = h.words in
          rw (with-nonzero result c e) (record { some = omega arith; short = short; words = h.coefficients.below })

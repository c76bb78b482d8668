-- What is written is what the definitions name, and what a call answers.
-- Theorems:
--     results                what is written from the quotients is a and b
--     slices-short           the result slices of the cofactors fit in the buffers
--     cofactors-answered     what a call answers and writes that refuses nothing
-- Assumes nothing.
use mathlib.Core.Path.{◌≡◌, sym, ◌∙◌, ap, ap₂}
use mathlib.Core.List.{List}
use Prim.Native.Nat.{ℕ, ◌-◌, ◌≤◌, ◌<◌}
use native.Mathlib.Omega.{arith}
use lib.ListN.{length}
use Rattle.std.specs.Prelude.{Ok}
use Rattle.algebra.specs.Series.{C}
use Rattle.algebra.proofs.Series.{coeff-C-mul}
use Rattle.algebra.specs.PrimeField.{PrimeField, scalars, value, residue, inverse}
use Rattle.lists.specs.Lists.{binomial, unscaled}
use Rattle.lists.specs.Words.{series_of, Low}
use Rattle.lists.proofs.Words.{coeff-series_of}
use Rattle.refusal.specs.Refusal.{reply, written, Outcome}
use Rattle.refusal.proofs.Answers.{result}
use Rattle.lists.proofs.Tabulate.{tabulate-ext}
use Rattle.euclid_theory.specs.Gcd.{euclid_of, gcd_of, cofactor_a, cofactor_b}
use Rattle.lists.specs.Padded.{padded}
use Rattle.euclid_theory.proofs.Cofactors.{cofactors-are, cofactors-only}
use Rattle.list_gcd.specs.declared.Gcd.{Gcd}
use Rattle.list_gcd.specs.Calls.{gcd_reply, gcd_values, Greatest}
use Rattle.list_gcd.specs.Internal.{Ready, TrailOf, Numbers, gcd_done}
use Rattle.list_gcd.proofs.Finish.{gcd-done, answered}
use Rattle.list_cofactors.specs.Calls.{CofactorsSo, Cofactors}
use Rattle.list_cofactors.specs.Internal.{Slices, Substituted, times_list, Results}
use Rattle.list_cofactors.proofs.Slices.{few-a, few-b}

module _ (F : PrimeField) where
  open scalars F use {Carrier as K, mul as ◌⊗◌}
  open F.series.ring use {Carrier as S, mul as ◌*ˢ◌}

  infixl 70 ◌⊗◌
  infixl 70 ◌*ˢ◌
  -- a list depends on so many coefficients
  unscaled-low : (words : ℕ) (a b : S) → ((k : ℕ) → k < words → F.series.coeff a k ≡ F.series.coeff b k)
      → unscaled F words a ≡ unscaled F words b
  unfolding unscaled
  unscaled-low words a b h =
      tabulate-ext words _ _ (λ k l. ap (λ c. value F (c ⊗ inverse F (binomial F (words - 1) k))) (h k l))

  -- a cofactor from the words of its first coefficients
  cofactor-is : (n words : ℕ) {form : List ℕ} (m : K) {s : S} → words ≤ n → Low F n form s
      → times_list F words m form ≡ unscaled F words (C F.series m *ˢ s)
  unfolding times_list
  cofactor-is n words {form} m {s} few low =
      unscaled-low words _ _ λ k l.
      coeff-C-mul F.series m (series_of F form) k
      ∙ ap (λ c. m ⊗ c) (coeff-series_of F form k ∙ low.at k (omega arith)) ∙ sym (coeff-C-mul F.series m s k)

  pub results : (n most : ℕ) → 1 < n → {f g h a b words s t : List ℕ} {gcd : Gcd} {m : ℕ} {h' a' b' : List ℕ}
      → Ready F n f g → Slices most f g h a b → Numbers F f g gcd.degree.0 gcd.power.0 gcd.rounds.0 m → h' ≡ padded most (gcd_of F f g) → TrailOf F n f g words
      → Substituted F n words s t → a' ≡ times_list F (length a) (residue F m) t → b' ≡ times_list F (length b) (residue F m) s
      → Results F most f g gcd h' a' b'
  results n most more {f} {g} {s = s} {t = t} ready sl found eh trail back oa ob =
      record {
        answer = gcd-done F found;
        gcd = eh;
        cofactor-a =
            oa ∙ ap₂ (λ k i. times_list F k i t) sl.size_a found.inverse-is
            ∙ (unfold cofactor_a in cofactor-is n _ _ (few-a f g n ready.short_g more) both.1);
        cofactor-b =
            ob ∙ ap₂ (λ k i. times_list F k i s) sl.size_b found.inverse-is
            ∙ (unfold cofactor_b in cofactor-is n _ _ (few-b f g n ready.short_f more) both.0);
      }
    where
      both : Low F n s (euclid_of F f g).by_x × Low F n t (euclid_of F f g).by_y
      both = back.cofactors (euclid_of F f g) trail.last trail.trail

  pub slices-short : (n most : ℕ) → 1 < n → {f g h a b : List ℕ} → Ready F n f g → Slices most f g h a b → (length a ≤ n) × (length b ≤ n)
  slices-short n most more {f} {g} r sl =
      let most-a = few-a f g n r.short_g more in
      let most-b = few-b f g n r.short_f more in
      (omega (arith, sl.size_a), omega (arith, sl.size_b))

  -- what a call answers, and what it leaves in the slices
  pub cofactors-answered : (n : ℕ) (f g h a b : List ℕ) {found : Outcome} {gcd : Gcd} {h' a' b' : List ℕ} → found ≡ Ok tt → Ready F n f g
      → Results F n f g gcd h' a' b'
      → (gcd_reply (Ok gcd) ≡ reply found (gcd_values F f g)) × (h' ≡ written found (padded n (gcd_of F f g)) h)
      × (a' ≡ written found (cofactor_a F f g) a) × (b' ≡ written found (cofactor_b F f g) b) × Greatest F f g h' (Ok gcd) × Cofactors F f g a' b' (Ok gcd)
  unfolding gcd_done
  cofactors-answered n f g h a b e y o =
      let of-gcd = answered F n f g h e y o.answer o.gcd in (
        of-gcd.0,
        of-gcd.1,
        result (cofactor_a F f g) a e o.cofactor-a,
        result (cofactor_b F f g) b e o.cofactor-b,
        of-gcd.2,
        rw (o.cofactor-a, o.cofactor-b) so,
      )
    where
      so : CofactorsSo F f g (cofactor_a F f g) (cofactor_b F f g)
      so =
          record {
            meet = cofactors-are F f g y.coefficients_f y.coefficients_g y.some;
            only = cofactors-only F f g y.coefficients_f y.coefficients_g y.some;
          }

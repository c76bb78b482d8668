-- The scaled forms of the cofactors a and b of two lists f and g, not both zero: a constant times the factors that Euclid's rounds carry.
--     A, B                                the scaled forms
-- Theorems:
--     identity-left, -right, -within      the differences m - d, m - e and m - w are exact
--     length-cofactor_a, -B               the numbers of words of a and b
--     coefficients-cofactor_a, -B         their words are coefficients
--     scaled-cofactor_a, -B               their scaled forms
--     form_a-zero, form_b-below           that of a is 0 where f is zero; that of b is otherwise below f's
--     identity-in-u                       a·f + b·g = h, in the scaled forms
-- Assumes nothing.
use mathlib.Core.Path.{◌≡◌, refl, sym, ◌∙◌, ap, ap₂, subst}
use mathlib.Core.List.{List}
use Prim.Native.Nat.{ℕ, zero, suc, ◌+◌, ◌-◌, ◌≤◌, ◌<◌, max}
use native.Mathlib.Omega.{arith}
use lib.ListN.{length}
use Rattle.algebra.specs.RingLaws as R
use Rattle.algebra.specs.RingLaws.{RING}
use Rattle.algebra.specs.Series.{C}
use Rattle.algebra.specs.Polynomial.{Below}
use Rattle.algebra.proofs.Polynomial.{below-mono, below-0, below-1, below-C-mul}
use Rattle.algebra.specs.Degree.{size}
use Rattle.algebra.proofs.Euclid.{done-last, done-by_x, done-by_y}
use Rattle.algebra.specs.Monic.{top_inverse}
use Rattle.algebra.proofs.Monic.{monic-is}
use Rattle.algebra.specs.PrimeField.{PrimeField, scalar_field}
use Rattle.lists.specs.Degrees.{naive_degree, significant}
use Rattle.lists.specs.Lists.{Coefficients, scaled}
use Rattle.lists.proofs.Unscaled.{length-unscaled, coefficients-unscaled, scaled-unscaled}
use Rattle.lists.proofs.Extents.{significant-le, significant-at}
use Rattle.euclid_theory.specs.Gcd.{room, identity_degree, euclid_of, gcd_of, cofactor_a, cofactor_b}
use Rattle.euclid_theory.proofs.Gcd.{room-left, room-right, rounds-ok, ended, size-last, scaled-gcd}

fit-a : (s w d e : ℕ) → s ≤ suc e → max 1 (s - suc w) ≤ suc (max d 1 + max e 1 - 1 - d)
fit-a s w d e l = omega arith

fit-b : (s w d e : ℕ) → s ≤ suc d → s - suc w ≤ suc (max d 1 + max e 1 - 1 - e)
fit-b s w d e l = omega arith

-- the differences m - d and m - e are exact
pub identity-left : (f g : List ℕ) → naive_degree f ≤ identity_degree f g
unfolding identity_degree
identity-left f g = omega arith

pub identity-right : (f g : List ℕ) → naive_degree g ≤ identity_degree f g
unfolding identity_degree
identity-right f g = omega arith

significant-naive : (c : List ℕ) → significant c ≤ suc (naive_degree c)
unfolding naive_degree
significant-naive c = let most = significant-le c in omega arith

module _ (F : PrimeField) where
  open F.series.ring use {Carrier as S, zero as 0ˢ, add as ◌+ˢ◌, mul as ◌*ˢ◌}

  infixl 65 ◌+ˢ◌
  infixl 70 ◌*ˢ◌
  pub length-cofactor_a : (f g : List ℕ) → length (cofactor_a F f g) ≡ suc (identity_degree f g - naive_degree f)
  unfolding cofactor_a
  length-cofactor_a f g = length-unscaled F _ _

  pub length-cofactor_b : (f g : List ℕ) → length (cofactor_b F f g) ≡ suc (identity_degree f g - naive_degree g)
  unfolding cofactor_b
  length-cofactor_b f g = length-unscaled F _ _

  few-a : (f g : List ℕ) → Coefficients F f → Coefficients F g → suc (identity_degree f g - naive_degree f) ≤ F.p
  unfolding identity_degree naive_degree
  few-a f g cf cg = let short_f = cf.short in let short_g = cg.short in let above-1 = F.prime.big in omega arith

  few-b : (f g : List ℕ) → Coefficients F f → Coefficients F g → suc (identity_degree f g - naive_degree g) ≤ F.p
  unfolding identity_degree naive_degree
  few-b f g cf cg = let short_f = cf.short in let short_g = cg.short in let above-1 = F.prime.big in omega arith

  pub coefficients-cofactor_a : (f g : List ℕ) → Coefficients F f → Coefficients F g → Coefficients F (cofactor_a F f g)
  unfolding cofactor_a
  coefficients-cofactor_a f g cf cg = coefficients-unscaled F _ _ (few-a f g cf cg)

  pub coefficients-cofactor_b : (f g : List ℕ) → Coefficients F f → Coefficients F g → Coefficients F (cofactor_b F f g)
  unfolding cofactor_b
  coefficients-cofactor_b f g cf cg = coefficients-unscaled F _ _ (few-b f g cf cg)

  pull : (c a f b g : S) → c *ˢ a *ˢ f +ˢ c *ˢ b *ˢ g ≡ c *ˢ (b *ˢ g +ˢ a *ˢ f)
  pull c a f b g = simp RING

  module _ (f g : List ℕ) (cf : Coefficients F f) (cg : Coefficients F g) (some : 0 < significant f + significant g) where
    abbrev w : ℕ
    w = naive_degree (gcd_of F f g)

    -- 1 over the last coefficient of the last x
    abbrev unit : S
    unit = C F.series (top_inverse F.series (scalar_field F) (room f g) (euclid_of F f g).last)

    A : S
    A = unit *ˢ (euclid_of F f g).by_y

    B : S
    B = unit *ˢ (euclid_of F f g).by_x

    size-f : size F.series (scalar_field F) (room f g) (scaled F f) ≡ significant f
    size-f = sym (significant-at F (room f g) f cf (room-left f g))

    size-g : size F.series (scalar_field F) (room f g) (scaled F g) ≡ significant g
    size-g = sym (significant-at F (room f g) g cg (room-right f g))

    by_y-below : 0 < significant f → Below F.series (max 1 (significant g - suc w)) (euclid_of F f g).by_y
    by_y-below l = rw (← size-g, ← size-last F f g cf cg some) ((rounds-ok F f g).by_y-below (rw size-f l))

    by_x-below : 0 < significant f → Below F.series (significant f - suc w) (euclid_of F f g).by_x
    by_x-below l = rw (← size-f, ← size-last F f g cf cg some) ((rounds-ok F f g).by_x-below (rw size-f l))

    A-zero : significant f ≡ 0 → A ≡ 0ˢ
    unfolding A
    A-zero e =
        ap (λ s. unit *ˢ s)
        (ap (λ z. z.by_y) (ended F f g cf e) ∙ done-by_y F.series (scalar_field F) (scaled F g))
        ∙ R.mul-zero F.series.ring _

    A-below : Below F.series (suc (identity_degree f g - naive_degree f)) A
    A-below = go (significant f) refl
      where
        go : (k : ℕ) → significant f ≡ k → Below F.series (suc (identity_degree f g - naive_degree f)) A
        go zero e = subst (λ s. Below F.series (suc (identity_degree f g - naive_degree f)) s) (sym (A-zero e)) (below-0 F.series _)
        go (suc k) e =
            unfold A identity_degree in below-C-mul F.series _
            (below-mono F.series (fit-a (significant g) w (naive_degree f) (naive_degree g) (significant-naive g)) (by_y-below (omega arith)))

    B-below : Below F.series (suc (identity_degree f g - naive_degree g)) B
    unfolding B
    B-below = below-C-mul F.series _ (go (significant f) refl)
      where
        go : (k : ℕ) → significant f ≡ k → Below F.series (suc (identity_degree f g - naive_degree g)) (euclid_of F f g).by_x
        go zero e =
            subst (λ s. Below F.series (suc (identity_degree f g - naive_degree g)) s)
            (sym (ap (λ z. z.by_x) (ended F f g cf e) ∙ done-by_x F.series (scalar_field F) (scaled F g)))
            (below-mono F.series (omega arith) (below-1 F.series))
        go (suc k) e =
            unfold identity_degree in below-mono F.series
            (fit-b (significant f) w (naive_degree f) (naive_degree g) (significant-naive f)) (by_x-below (omega arith))

    pub scaled-cofactor_a : scaled F (cofactor_a F f g) ≡ unit *ˢ (euclid_of F f g).by_y
    unfolding cofactor_a A
    scaled-cofactor_a = scaled-unscaled F _ (few-a f g cf cg) A-below

    pub scaled-cofactor_b : scaled F (cofactor_b F f g) ≡ unit *ˢ (euclid_of F f g).by_x
    unfolding cofactor_b B
    scaled-cofactor_b = scaled-unscaled F _ (few-b f g cf cg) B-below

    -- if f is zero, that of a is; otherwise that of b is below f's
    pub form_a-zero : significant f ≡ 0 → scaled F (cofactor_a F f g) ≡ 0ˢ
    unfolding A
    form_a-zero e = scaled-cofactor_a ∙ A-zero e

    pub form_b-below : 0 < significant f → Below F.series (significant f - suc w) (scaled F (cofactor_b F f g))
    form_b-below l = rw scaled-cofactor_b (below-C-mul F.series _ (by_x-below l))

    -- the identity of the scaled forms
    pub identity-in-u : scaled F (cofactor_a F f g) *ˢ scaled F f +ˢ scaled F (cofactor_b F f g) *ˢ scaled F g ≡ scaled F (gcd_of F f g)
    identity-in-u =
        ap₂ (λ x y. x *ˢ scaled F f +ˢ y *ˢ scaled F g) scaled-cofactor_a scaled-cofactor_b
        ∙ pull unit (euclid_of F f g).by_y (scaled F f) (euclid_of F f g).by_x (scaled F g)
        ∙ ap (λ x. unit *ˢ x) (rounds-ok F f g).bezout
        ∙ sym (scaled-gcd F f g cf cg some ∙ monic-is F.series (scalar_field F) _ _)

    -- the difference m - w is exact
    pub identity-within : naive_degree (gcd_of F f g) ≤ identity_degree f g
    identity-within = go (significant f) refl
      where
        only-g : significant f ≡ 0 → (euclid_of F f g).last ≡ scaled F g
        only-g e = ap (λ z. z.last) (ended F f g cf e) ∙ done-last F.series (scalar_field F) (scaled F g)

        go : (k : ℕ) → significant f ≡ k → naive_degree (gcd_of F f g) ≤ identity_degree f g
        go zero e =
            let size_is = ap (size F.series (scalar_field F) (room f g)) (only-g e) in
            omega (arith, size-g, size-last F f g cf cg some, significant-naive g, identity-right f g)
        go (suc k) e =
            let smaller = (rounds-ok F f g).small (rw size-f (omega arith)) in
            omega (arith, size-f, size-last F f g cf cg some, significant-naive f, identity-left f g)

-- The GCD of two lists f and g, not both zero: h has naive degree w, which is its extent, ends in 1, and its scaled form divides both.
-- The number of rounds is the one that document 01 defines.
-- Assumes nothing.
use mathlib.Core.Path.{◌≡◌, sym, ◌∙◌, ap, ap₂, subst}
use mathlib.Core.List.{List}
use Prim.Native.Nat.{ℕ, suc, ◌+◌, ◌-◌, ◌≤◌, ◌<◌, max}
use native.Mathlib.Omega.{arith}
use lib.ListN.{get_or, length}
use Rattle.algebra.specs.RingLaws as R
use Rattle.algebra.specs.Polynomial.{Below, Divides}
use Rattle.algebra.proofs.Polynomial.{below-mono}
use Rattle.algebra.specs.Degree.{Degree, size}
use Rattle.algebra.proofs.Degree.{size-le, size-zero, size_of, size-of-0}
use Rattle.algebra.specs.Euclid.{done}
use Rattle.algebra.proofs.Euclid.{euclid-end}
use Rattle.algebra.proofs.EuclidCorrect.{EuclidOk, euclid-ok}
use Rattle.algebra.specs.Rounds.{Rounds}
use Rattle.algebra.proofs.Rounds.{euclid-rounds}
use Rattle.algebra.specs.Monic.{monic}
use Rattle.algebra.proofs.Monic.{monic-top, monic-degree, monic-divides}
use Rattle.algebra.specs.PrimeField.{PrimeField, scalar_field}
use Rattle.lists.specs.Degrees.{naive_degree, significant, extent}
use Rattle.lists.specs.Lists.{Coefficients, scaled}
use Rattle.lists.proofs.Scaled.{naive-length, below-scaled, last_one}
use Rattle.lists.proofs.Unscaled.{length-unscaled, coefficients-unscaled, scaled-unscaled}
use Rattle.lists.proofs.Extents.{significant-at}
use Rattle.euclid_theory.specs.Gcd.{room, euclid_of, gcd_of, rounds_of}

pub room-left : (f g : List ℕ) → length f ≤ room f g
unfolding room
room-left f g = omega arith

pub room-right : (f g : List ℕ) → length g ≤ room f g
unfolding room
room-right f g = omega arith

module _ (F : PrimeField) where
  open F.series.ring use {Carrier as S, mul as ◌*ˢ◌}

  infixl 70 ◌*ˢ◌
  -- both scaled forms in the common room
  pub fits-left : (f g : List ℕ) → Below F.series (room f g) (scaled F f)
  fits-left f g = below-mono F.series (room-left f g) (below-scaled F f)

  pub fits-right : (f g : List ℕ) → Below F.series (room f g) (scaled F g)
  fits-right f g = below-mono F.series (room-right f g) (below-scaled F g)

  -- the identity, the common divisor and the bounds of the rounds
  pub rounds-ok : (f g : List ℕ) → EuclidOk F.series (scalar_field F) (room f g) (scaled F g) (scaled F f) (euclid_of F f g)
  unfolding euclid_of
  rounds-ok f g =
      euclid-ok F.series (scalar_field F) (room f g) (room f g) (fits-right f g) (fits-left f g)
      (size-le F.series (scalar_field F) (room f g) (scaled F f))

  -- rounds and the last x are document 01's: its rounds as a relation
  pub rounds_are : (f g : List ℕ) → Rounds F.series (scaled F g) (scaled F f) (rounds_of F f g) (euclid_of F f g).last
  unfolding rounds_of euclid_of
  rounds_are f g =
      euclid-rounds F.series (scalar_field F) (room f g) (room f g) (fits-right f g) (fits-left f g)
      (size-le F.series (scalar_field F) (room f g) (scaled F f))

  -- at most the extent of f plus 1
  pub gcd-rounds : (f g : List ℕ) → Coefficients F f → rounds_of F f g ≤ significant f
  unfolding rounds_of
  gcd-rounds f g cf = rw (significant-at F (room f g) f cf (room-left f g)) (rounds-ok f g).few

  pub rounds-of-zero : (f g : List ℕ) → Coefficients F f → significant f ≡ 0 → rounds_of F f g ≡ 0
  rounds-of-zero f g cf e = let l = gcd-rounds f g cf in omega arith

  -- no round where f is zero
  pub ended : (f g : List ℕ) → Coefficients F f → significant f ≡ 0 → euclid_of F f g ≡ done F.series (scalar_field F) (scaled F g)
  unfolding euclid_of
  ended f g cf e =
      euclid-end F.series (scalar_field F) (room f g) (room f g) (scaled F g) (scaled F f)
      (sym (significant-at F (room f g) f cf (room-left f g)) ∙ e)

  module _ (f g : List ℕ) (cf : Coefficients F f) (cg : Coefficients F g) (some : 0 < significant f + significant g) where
    last : S
    last = (euclid_of F f g).last

    last-below : Below F.series (room f g) last
    unfolding last
    last-below = (rounds-ok f g).below

    last-nonzero : ¬ (size F.series (scalar_field F) (room f g) last ≡ 0)
    last-nonzero e =
        let a : significant f ≡ 0 = significant-at F (room f g) f cf (room-left f g) ∙ gone (scaled F f) (unfold last in (rounds-ok f g).right) in
        let b : significant g ≡ 0 = significant-at F (room f g) g cg (room-right f g) ∙ gone (scaled F g) (unfold last in (rounds-ok f g).left) in
        omega arith
      where
        gone : (s : S) → Divides F.series last s → size F.series (scalar_field F) (room f g) s ≡ 0
        gone s q =
            ap (size F.series (scalar_field F) (room f g))
            (q.equation ∙ ap (λ x. x *ˢ q.cofactor) (size-zero F.series (scalar_field F) (room f g) last-below e)
            ∙ R.zero-mul F.series.ring _)
            ∙ size-of-0 F.series (scalar_field F) (room f g)

    w : ℕ
    w = size F.series (scalar_field F) (room f g) last - 1

    size-w : size F.series (scalar_field F) (room f g) last ≡ suc w
    unfolding w
    size-w = let x = last-nonzero in omega arith

    length-w : length (gcd_of F f g) ≡ suc w
    unfolding gcd_of last
    length-w = length-unscaled F _ _ ∙ size-w

    naive-w : naive_degree (gcd_of F f g) ≡ w
    naive-w = naive-length (gcd_of F f g) w length-w

    degree-w : Degree F.series w (monic F.series (scalar_field F) (room f g) last)
    degree-w = monic-degree F.series (scalar_field F) (room f g) w last-below size-w

    few : size F.series (scalar_field F) (room f g) last ≤ F.p
    unfolding room
    few =
        let a = cf.short in
        let b = cg.short in
        let l = size-le F.series (scalar_field F) (max (length f) (length g)) last in
        omega arith

    -- of naive degree w
    pub length-gcd : length (gcd_of F f g) ≡ suc (naive_degree (gcd_of F f g))
    length-gcd = rw naive-w length-w

    -- the number of coefficients of the last x
    pub size-last : size F.series (scalar_field F) (room f g) (euclid_of F f g).last ≡ suc (naive_degree (gcd_of F f g))
    unfolding last
    size-last = rw naive-w size-w

    pub coefficients-gcd : Coefficients F (gcd_of F f g)
    unfolding gcd_of last
    coefficients-gcd = coefficients-unscaled F _ _ few

    pub scaled-gcd : scaled F (gcd_of F f g) ≡ monic F.series (scalar_field F) (room f g) (euclid_of F f g).last
    unfolding gcd_of last
    scaled-gcd =
        scaled-unscaled F _ few
        (subst (λ k. Below F.series k (monic F.series (scalar_field F) (room f g) last)) (sym size-w) degree-w.below)

    -- the degree of the scaled form is the naive degree
    pub degree-gcd : Degree F.series (naive_degree (gcd_of F f g)) (scaled F (gcd_of F f g))
    unfolding last
    degree-gcd = rw (naive-w, scaled-gcd) degree-w

    -- so the extent is the naive degree
    pub significant-gcd : significant (gcd_of F f g) ≡ length (gcd_of F f g)
    significant-gcd =
        significant-at F (length (gcd_of F f g)) (gcd_of F f g) coefficients-gcd (omega arith)
        ∙ size_of F.series (scalar_field F) (length (gcd_of F f g)) (naive_degree (gcd_of F f g)) degree-gcd (omega (arith, length-gcd))
        ∙ sym length-gcd

    pub extent-gcd : extent (gcd_of F f g) ≡ naive_degree (gcd_of F f g)
    unfolding extent naive_degree
    extent-gcd = ap (λ k. k - 1) significant-gcd

    -- the last word is 1
    pub gcd-ends : get_or (gcd_of F f g) (naive_degree (gcd_of F f g)) 0 ≡ 1
    unfolding last
    gcd-ends =
        last_one F (gcd_of F f g) coefficients-gcd
        (ap₂ F.series.coeff scaled-gcd naive-w ∙ monic-top F.series (scalar_field F) (room f g) w last-below size-w)

    -- a common divisor, in u
    pub gcd-left : Divides F.series (scaled F (gcd_of F f g)) (scaled F f)
    unfolding last
    gcd-left = rw scaled-gcd (monic-divides F.series (scalar_field F) (room f g) w last-below size-w (rounds-ok f g).right)

    pub gcd-right : Divides F.series (scaled F (gcd_of F f g)) (scaled F g)
    unfolding last
    gcd-right = rw scaled-gcd (monic-divides F.series (scalar_field F) (room f g) w last-below size-w (rounds-ok f g).left)

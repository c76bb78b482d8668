-- The rounds of Euclid's algorithm.
-- Theorems:
--     rounds-unique     from a pair there is one number of rounds, and one last x
--     euclid-rounds     they are those that the function euclid counts
-- Assumes nothing.
use mathlib.Core.Path.{◌≡◌, ◌∙◌, refl, sym, ap, subst}
use Prim.Native.Nat.{ℕ, zero, suc, ◌-◌, ◌≤◌}
use native.Mathlib.Omega.{arith}
use Rattle.algebra.specs.Ring.{CommRing, IsField}
use Rattle.algebra.specs.Series.{SeriesRing}
use Rattle.algebra.proofs.Series.{coeff-0}
use Rattle.algebra.specs.Polynomial.{Below}
use Rattle.algebra.proofs.Polynomial.{below-mono, polynomial}
use Rattle.algebra.specs.Degree.{Degree, size}
use Rattle.algebra.proofs.Degree.{degree-unique, size-le, size-extent, size-least, size-zero}
use Rattle.algebra.proofs.Division.{division, quotient-below, division-unique}
use Rattle.algebra.specs.Euclid.{Euclid, remainder_by, done, next, euclid}
use Rattle.algebra.proofs.Euclid.{euclid-end, euclid-round, remainder-small}
use Rattle.algebra.specs.Rounds.{Rounds, stop, round}

module _ {Rg : CommRing} (X : SeriesRing Rg) where
  open X.ring use {Carrier as S, zero as 0ˢ}

  degree-nonzero : {d : ℕ} {y : S} → Degree X d y → y ≡ 0ˢ → ⊥
  degree-nonzero {d} {y} xy e = xy.top (ap (λ s. X.coeff s d) e ∙ coeff-0 X d)

  module _ (K : IsField Rg) where
    -- one number of rounds and one last x
    pub rounds-unique : {x y l l' : S} {k k' : ℕ} → Rounds X x y k l → Rounds X x y k' l' → (k ≡ k') × (l ≡ l')
    rounds-unique (stop e) (stop e') = (refl, refl)
    rounds-unique (stop e) (round xy pq hr q z) = absurd (degree-nonzero xy e)
    rounds-unique (round xy pq hr q z) (stop e) = absurd (degree-nonzero xy e)
    rounds-unique (round {y = y} {r = r} {d = d} xy pq hr e z) (round {r = r'} {l = l} {k = k} xy' pq' hr' e' z') =
        let same : r ≡ r' = (division-unique X K d xy pq pq' hr (subst (λ i. Below X i r') (degree-unique X xy' xy) hr') (sym e ∙ e')).1 in
        let rest = rounds-unique z (subst (λ s. Rounds X y s k l) (sym same) z') in
        (ap suc rest.0, rest.1)

    abbrev Counts : S → S → Euclid X K → Type 0
    Counts x y z = Rounds X x y z.rounds z.last

    -- those that euclid counts
    pub euclid-rounds : (fuel n : ℕ) {x y : S} → Below X n x → Below X n y → size X K n y ≤ fuel
        → Rounds X x y (euclid X K fuel n x y).rounds (euclid X K fuel n x y).last
    unfolding done next
    euclid-rounds zero n {x} {y} hx hy l =
        let e : size X K n y ≡ 0 = omega arith in rw (euclid-end X K 0 n x y e) (stop (size-zero X K n hy e))
    euclid-rounds (suc fuel) n {x} {y} hx hy l =
        go
        (λ d e. let small = remainder-small X K n d hx hy e in
        euclid-rounds fuel n hy (below-mono X (let room = size-le X K n y in omega arith) small)
        (let shorter = size-least X K n d small in omega arith))
        (size X K n y) refl
      where
        go : ((d : ℕ) → size X K n y ≡ suc d → Counts y (remainder_by X K n d x y) (euclid X K fuel n y (remainder_by X K n d x y)))
            → (j : ℕ) → size X K n y ≡ j → Counts x y (euclid X K (suc fuel) n x y)
        go ih zero e = rw (euclid-end X K (suc fuel) n x y e) (stop (size-zero X K n hy e))
        go ih (suc d) e =
            rw (euclid-round X K fuel n d x y e)
            (round (size-extent X K n d hy e) (polynomial X (quotient-below X K (size X K n x - d) d x y))
            (remainder-small X K n d hx hy e) (division X K (size X K n x - d) d x y) (ih d e))

-- Values of polynomials.
--     eval x n s        s_0 + s_1 · x + … + s_(n-1) · x^(n-1), by Horner's rule
--     ValueAt x s v     s is a polynomial, and s(x) = v
--     ValueAt1 s v      s is a polynomial, and s(1) = v
-- Theorems (proofs/Evaluation):
--     value_at-add, value_at-mul, value_at-neg, value_at-pow     the value of a sum, a product, a negative and a power
--     value-at-1, value_at1-unique                               every polynomial has one value at 1
-- Assumes nothing.
use Rattle.std.specs.Prelude.{◌≡◌, ℕ, zero, suc}
use Rattle.algebra.specs.Ring.{CommRing}
use Rattle.algebra.specs.Series.{SeriesRing, tail}
use Rattle.algebra.specs.Polynomial.{Below}

module _ {Rg : CommRing} (X : SeriesRing Rg) where
  open Rg use {Carrier, zero as 𝟘, add as ◌⊕◌, mul as ◌⊗◌}

  infixl 65 ◌⊕◌
  infixl 70 ◌⊗◌
  open X.ring use {Carrier as S}

  unfoldable pub eval : Carrier → ℕ → S → Carrier
  eval x zero s = 𝟘
  eval x (suc n) s = X.coeff s zero ⊕ x ⊗ eval x n (tail X s)

module _ {Rg : CommRing} (X : SeriesRing Rg) (x : Rg.Carrier) where
  open Rg use {Carrier}
  open X.ring use {Carrier as S}

  pub record ValueAt (s : S) (v : Carrier) : Type 0 where
    pub bound : ℕ
    pub below : Below X bound s
    pub is : eval X x bound s ≡ v

module _ {Rg : CommRing} (X : SeriesRing Rg) where
  open Rg use {Carrier, one as 𝟙}
  open X.ring use {Carrier as S}

  abbrev pub ValueAt1 : S → Carrier → Type 0
  ValueAt1 s v = ValueAt X 𝟙 s v

-- Division with remainder, as functions that compute: k steps, each of which clears one coefficient.
--     digit k d x y         x_(d+k) / y_d, for y of degree d: the term digit · u^k of the quotient clears x_(d+k)
--     step k d x y          x - digit · u^k · y
--     remainder k d x y     what k steps leave of x, the first at coefficient d+k-1, the last at coefficient d
--     quotient k d x y      the sum of the terms digit · u^k of these steps
-- Theorems (proofs/Division):
--     division            x = quotient · y + remainder
--     remainder-below     with k steps for x of d + k coefficients, y of degree d, the remainder is below d
--     division-unique     no other quotient and remainder below d have this
-- Assumes nothing.
use Rattle.std.specs.Prelude.{ℕ, zero, suc, ◌+◌}
use Rattle.algebra.specs.Ring.{CommRing, IsField}
use Rattle.algebra.specs.Series.{SeriesRing}
use Rattle.algebra.specs.Polynomial.{monomial}

module _ {Rg : CommRing} (X : SeriesRing Rg) (K : IsField Rg) where
  open Rg use {Carrier, mul as ◌⊗◌}

  infixl 70 ◌⊗◌
  open X.ring use {Carrier as S, zero as 0ˢ, neg as -ˢ◌, add as ◌+ˢ◌, mul as ◌*ˢ◌}

  infixl 65 ◌+ˢ◌
  infixl 70 ◌*ˢ◌
  infix 80 -ˢ◌
  unfoldable pub digit : (k d : ℕ) → S → S → Carrier
  digit k d x y = X.coeff x (d + k) ⊗ K.inv (X.coeff y d)

  unfoldable pub step : (k d : ℕ) → S → S → S
  step k d x y = x +ˢ -ˢ (monomial X (digit k d x y) k *ˢ y)

  unfoldable pub remainder : (k d : ℕ) → S → S → S
  remainder zero d x y = x
  remainder (suc k) d x y = remainder k d (step k d x y) y

  unfoldable pub quotient : (k d : ℕ) → S → S → S
  quotient zero d x y = 0ˢ
  quotient (suc k) d x y = quotient k d (step k d x y) y +ˢ monomial X (digit k d x y) k

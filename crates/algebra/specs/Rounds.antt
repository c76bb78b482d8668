-- The rounds of Euclid's algorithm as a relation.
--     Rounds x y k l     from the pair (x, y), k rounds lead to (l, 0). A round replaces (x, y) by (y, r), where x = q · y + r for
--                        a polynomial q, and r is 0 or of lower degree than y.
-- Theorems (proofs/Rounds):
--     rounds-unique     from a pair there is one number of rounds, and one last l
--     euclid-rounds     they are those of the function euclid
-- Assumes nothing.
use Rattle.std.specs.Prelude.{◌≡◌, ℕ, suc}
use Rattle.algebra.specs.Ring.{CommRing}
use Rattle.algebra.specs.Series.{SeriesRing}
use Rattle.algebra.specs.Polynomial.{Below, Polynomial}
use Rattle.algebra.specs.Degree.{Degree}

module _ {Rg : CommRing} (X : SeriesRing Rg) where
  open X.ring use {Carrier as S, zero as 0ˢ, add as ◌+ˢ◌, mul as ◌*ˢ◌}

  infixl 65 ◌+ˢ◌
  infixl 70 ◌*ˢ◌
  pub data Rounds : S → S → ℕ → S → Type 0 where
    stop : {x y : S} → y ≡ 0ˢ → Rounds x y 0 x
    round : {x y q r l : S} {d k : ℕ} → Degree X d y → Polynomial X q → Below X d r → x ≡ q *ˢ y +ˢ r → Rounds y r k l
        → Rounds x y (suc k) l

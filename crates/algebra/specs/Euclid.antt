-- Euclid's algorithm as a function that computes, with its cofactors and its count of rounds.
--     Euclid                   the answer on a pair (x, y): the last x, the number of rounds, and cofactors with by_x · x + by_y · y = last
--     quotient_by n d x y      the quotient of x by y, y of degree d, x of at most n coefficients
--     remainder_by n d x y     the remainder; x itself where y is the longer
--     done x                   the answer where y is 0: no round
--     next q z                 the answer on (x, y), from the answer z on (y, x - q · y)
--     euclid fuel n x y        the answer on (x, y), polynomials of at most n coefficients: a round replaces (x, y) by (y, remainder
--                             of x by y), until y is 0; fuel bounds the rounds, and size n y is enough
-- Theorems, each in the module of proofs/ that is named:
--     euclid-ok                    the last x divides both, the cofactors' identity holds, and the cofactors have few coefficients
--                                  (EuclidCorrect)
--     euclid-fuel, euclid-room     more fuel, or more room, changes nothing (Euclid)
--     euclid-rounds                the rounds are those of the relation Rounds (Rounds)
-- Assumes nothing.
use Rattle.std.specs.Prelude.{ℕ, zero, suc, ◌-◌}
use Rattle.algebra.specs.Ring.{CommRing, IsField}
use Rattle.algebra.specs.Series.{SeriesRing}
use Rattle.algebra.specs.Degree.{size}
use Rattle.algebra.specs.Division.{remainder, quotient}

module _ {Rg : CommRing} (X : SeriesRing Rg) (K : IsField Rg) where
  open X.ring use {Carrier as S, zero as 0ˢ, one as 1ˢ, neg as -ˢ◌, add as ◌+ˢ◌, mul as ◌*ˢ◌}

  infixl 65 ◌+ˢ◌
  infixl 70 ◌*ˢ◌
  infix 80 -ˢ◌
  pub record Euclid : Type 0 where
    pub last : S
    pub rounds : ℕ
    pub by_x : S
    pub by_y : S

  -- of x by y, where x has at most n coefficients and y has degree d
  abbrev pub quotient_by : (n d : ℕ) → S → S → S
  quotient_by n d x y = quotient X K (size X K n x - d) d x y

  abbrev pub remainder_by : (n d : ℕ) → S → S → S
  remainder_by n d x y = remainder X K (size X K n x - d) d x y

  unfoldable pub done : S → Euclid
  done x = record { last = x; rounds = 0; by_x = 1ˢ; by_y = 0ˢ }

  unfoldable pub next : S → Euclid → Euclid
  next q z = record { last = z.last; rounds = suc z.rounds; by_x = z.by_y; by_y = z.by_x +ˢ -ˢ (z.by_y *ˢ q) }

  unfoldable pub euclid : (fuel n : ℕ) → S → S → Euclid
  euclid zero n x y = done x
  euclid (suc fuel) n x y =
      elim (size X K n y) [ zero ↦ done x | suc d ↦ next (quotient_by n d x y) (euclid fuel n y (remainder_by n d x y)) ]

-- Division in blocks of the quotient's words, on words that stand for series.
--     block_words              the most words of a block
--     Inverts p inv y          no word of y is loose, and inv is the inverse of its last word
--     Suits p inv x y k        a division of x by y that has k steps and no loose word, y being short enough for a product
--     power k                  u^k
--     Reciprocal top s         s is the quotient of u^(2 e - 2) by the divisor's top, both of e words: what s · top leaves of that is
--                              below e - 1
--     Divided y x q r          x = q · y + r; no word of q and r is loose, and r is 0 from y's last word on
--     Begun y x₀ k x q         the same where the words of q below k are still to come, and x is what is left: x₀ is u^k times the words
--                              of q from k on times y, and x
-- Theorems, each in the module of proofs/ that is named:
--     block-rest          a block's words clear as many words of x (Reciprocals)
--     divided-reduced, divided-digits      q and r are those of the division row by row (Whole)
-- Assumes nothing.
use Rattle.std.specs.Prelude.{◌≡◌, List, ℕ, ◌+◌, ◌-◌, ◌*◌, ◌%◌, ◌≤◌, length, get_or, drop}
use Rattle.algebra.specs.Polynomial.{Below, monomial}
use Rattle.algebra.specs.PrimeField.{PrimeField, scalars}
use Rattle.refusal.specs.Limits.{max_words}
use Rattle.lists.specs.Words.{ZeroFrom, series_of, Tight}

abbrev pub block_words : ℕ
block_words = 64

pub record Inverts (p inv : ℕ) (y : List ℕ) : Type 0 where
  pub some : 1 ≤ length y
  pub tight : Tight p y
  pub inverse : (inv * get_or y (length y - 1) 0) % p ≡ 1

pub record Suits (p inv : ℕ) (x y : List ℕ) (k : ℕ) : Type 0 where
  pub inverts : Inverts p inv y
  pub short : length y ≤ max_words
  pub steps : length x + 1 ≡ length y + k
  pub tight : Tight p x

module _ (F : PrimeField) where
  open scalars F use {one as 𝟙}
  open F.series.ring use {Carrier as S, neg as -ˢ◌, add as ◌+ˢ◌, mul as ◌*ˢ◌}

  infixl 65 ◌+ˢ◌
  infixl 70 ◌*ˢ◌
  infix 80 -ˢ◌
  abbrev pub power : ℕ → S
  power k = monomial F.series 𝟙 k

  pub record Reciprocal (top s : List ℕ) : Type 0 where
    pub some : 1 ≤ length s
    pub size : length s ≡ length top
    pub rest : Below F.series (length s - 1) (power (2 * (length s - 1)) +ˢ -ˢ (series_of F s *ˢ series_of F top))

  pub record Divided (y x q r : List ℕ) : Type 0 where
    pub tight-quotient : Tight F.p q
    pub tight-rest : Tight F.p r
    pub rest : ZeroFrom (length y - 1) r
    pub whole : series_of F x ≡ series_of F q *ˢ series_of F y +ˢ series_of F r

  pub record Begun (y x₀ : List ℕ) (k : ℕ) (x q : List ℕ) : Type 0 where
    pub tight-quotient : Tight F.p (drop k q)
    pub tight-rest : Tight F.p x
    pub rest : ZeroFrom (length y - 1 + k) x
    pub whole : series_of F x₀ ≡ power k *ˢ series_of F (drop k q) *ˢ series_of F y +ˢ series_of F x

-- What the functions behind the cofactors need and do.
--     Slices n f g h a b          each result slice has the length of its result, h having n words
--     ZeroPair n s t              two slices of n zeros
--     last_count, last_quotient   the quotient that is laid last in the first `at` words: the number of its words, which stands at the end, and these
--     Substituted n words s t     s and t hold the first n words of the cofactors of whatever pair the quotients that are laid in the words have
--                               led from, where the pair after them has the cofactors 1 and 0
--     times_list                the list of so many words whose scaled form is m times the words of a buffer
--     Results n f g             what is answered and written, h having n words
-- Assumes nothing.
use Rattle.std.specs.Prelude.{◌≡◌, List, ℕ, suc, ◌-◌, get_or, length, take, drop}
use Rattle.algebra.specs.Series.{C}
use Rattle.algebra.specs.Euclid.{Euclid, done}
use Rattle.algebra.specs.PrimeField.{PrimeField, scalar_field, scalars}
use Rattle.lists.specs.Degrees.{naive_degree}
use Rattle.lists.specs.Lists.{unscaled}
use Rattle.lists.specs.Words.{series_of, Low}
use Rattle.lists.specs.Padded.{padded}
use Rattle.euclid_theory.specs.Gcd.{identity_degree, gcd_of, cofactor_a, cofactor_b}
use Rattle.list_gcd.specs.declared.Gcd.{Gcd}
use Rattle.list_gcd.specs.Quotients.{Trail}
use Rattle.list_gcd.specs.Internal.{gcd_done}

pub record Slices (n : ℕ) (f g h a b : List ℕ) : Type 0 where
  pub size_h : length h ≡ n
  pub size_a : length a ≡ suc (identity_degree f g - naive_degree f)
  pub size_b : length b ≡ suc (identity_degree f g - naive_degree g)

pub record ZeroPair (n : ℕ) (s t : List ℕ) : Type 0 where
  pub size_s : length s ≡ n
  pub size_t : length t ≡ n
  pub zeros_s : (k : ℕ) → get_or s k 0 ≡ 0
  pub zeros_t : (k : ℕ) → get_or t k 0 ≡ 0

unfoldable pub last_count : (at : ℕ) → List ℕ → ℕ
last_count at words = get_or words (at - 1) 0

unfoldable pub last_quotient : (at : ℕ) → List ℕ → List ℕ
last_quotient at words = take (last_count at words) (drop (at - 1 - last_count at words) words)

module _ (F : PrimeField) where
  open scalars F use {Carrier as K}
  open F.series.ring use {Carrier as S, mul as ◌*ˢ◌}

  infixl 70 ◌*ˢ◌
  pub record Substituted (n : ℕ) (words s t : List ℕ) : Type 0 where
    pub size_s : length s ≡ n
    pub size_t : length t ≡ n
    pub cofactors : (z₀ : Euclid F.series (scalar_field F)) (x : S) → Trail F n z₀ (done F.series (scalar_field F) x) words
        → Low F n s z₀.by_x × Low F n t z₀.by_y

  unfoldable pub times_list : (words : ℕ) (m : K) → List ℕ → List ℕ
  times_list words m form = unscaled F words (C F.series m *ˢ series_of F form)

  pub record Results (n : ℕ) (f g : List ℕ) (r : Gcd) (h a b : List ℕ) : Type 0 where
    pub answer : r ≡ gcd_done F f g
    pub gcd : h ≡ padded n (gcd_of F f g)
    pub cofactor-a : a ≡ cofactor_a F f g
    pub cofactor-b : b ≡ cofactor_b F f g

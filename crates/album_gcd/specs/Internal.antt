-- What the functions behind the GCD of an album find and answer; s is the album's bytes, and no list has more than `most` words. A loop
-- that starts from the zero list [0] at 0 rounds, and takes the GCD of two with each list that is not zero, ends with the GCD of the album.
--     zero_start     the zero list [0] at 0 rounds
--     with_list      the result so far after one more list: the same where that is zero, else the GCD with it, its rounds added
--     fold_gcd       the result after all lists
--     least_of       the lesser of a power and the least power so far; there may be none yet
--     least_with     the least power so far after one more list: a zero list has none
--     IsLeast        the least power of the lists that are not zero, or none where all are zero
--     Joined         x holds the result so far, f at k rounds, after one more list c, at k' rounds; a and a' are the least powers
--     Folded         x holds the result after all lists, at k rounds; a is their least power
--     Answered       what the call answers, leaves in the slice of h and promises
-- Theorem: fold-album, where not every list is zero, fold_gcd from zero_start is the GCD of the album.
-- Assumes nothing.
use Rattle.refusal.specs.declared.Refusal.{Refusal}
use Rattle.std.specs.Prelude.{◌≡◌, true, false, cond, List, [], ◌∷◌, ℕ, min, ◌+◌, ◌≤◌, eqb, Option, Some, None, Result}
use Rattle.algebra.specs.PrimeField.{PrimeField}
use Rattle.refusal.specs.Refusal.{reply, written}
use Rattle.refusal.specs.Lowest.{lowest}
use Rattle.lists.specs.Degrees.{significant, power}
use Rattle.lists.specs.Padded.{padded}
use Rattle.euclid_theory.specs.Gcd.{common_power}
use Rattle.album_theory.specs.Albums.{Result as Joint, joined, album_gcd}
use Rattle.album_layout.specs.Layout.{lists_of}
use Rattle.album_reader.specs.Internal.{Held}
use Rattle.list_gcd.specs.declared.Gcd.{Gcd}
use Rattle.list_gcd.specs.Calls.{gcd_reply}
use Rattle.album_gcd.specs.Calls.{all_zero, album_gcd_rows, album_gcd_values, AlbumGreatest}

abbrev pub zero_start : Joint
zero_start = record { list = 0 ∷ []; rounds = 0 }

abbrev pub least_of : Option ℕ → ℕ → ℕ
least_of None b = b
least_of (Some a) b = min a b

unfoldable pub least_with : Option ℕ → List ℕ → Option ℕ
least_with a c = cond (eqb (significant c) 0) a (Some (least_of a (power c)))

abbrev pub IsLeast : List (List ℕ) → Option ℕ → Type 0
IsLeast lists None = all_zero lists ≡ true
IsLeast lists (Some a) = (all_zero lists ≡ false) × (a ≡ common_power lists)

module _ (F : PrimeField) where
  unfoldable pub with_list : Joint → List ℕ → Joint
  with_list result c = cond (eqb (significant c) 0) result (joined F result c)

  unfoldable pub fold_gcd : Joint → List (List ℕ) → Joint
  fold_gcd result [] = result
  fold_gcd result (c ∷ lists) = fold_gcd (with_list result c) lists

module _ (F : PrimeField) (most : ℕ) where
  pub record Joined (f : List ℕ) (k : ℕ) (a : Option ℕ) (c x : List ℕ) (n k' : ℕ) (a' : Option ℕ) : Type 0 where
    pub list : List ℕ
    pub held : Held F.p most x n list
    pub is : with_list F (record { list = f; rounds = k }) c ≡ record { list = list; rounds = k' }
    pub few : k' ≤ k + most
    pub least : a' ≡ least_with a c

  pub record Folded (lists : List (List ℕ)) (x : List ℕ) (n k : ℕ) (a : Option ℕ) : Type 0 where
    pub held : Held F.p most x n (fold_gcd F zero_start lists).list
    pub rounds : k ≡ (fold_gcd F zero_start lists).rounds
    pub least : IsLeast lists a

  pub record Answered (s h h' : List ℕ) (r : Result Gcd Refusal) : Type 0 where
    pub answer : gcd_reply r ≡ reply (lowest (album_gcd_rows F.p most s h)) (album_gcd_values F (lists_of s))
    pub writes : h' ≡ written (lowest (album_gcd_rows F.p most s h)) (padded most (album_gcd F (lists_of s)).list) h
    pub greatest : AlbumGreatest F (lists_of s) h' r

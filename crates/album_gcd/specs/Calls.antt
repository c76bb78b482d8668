-- What the GCD of an album answers, refuses and promises; s is the album's bytes.
--     all_zero                every list of the album is zero
--     album_gcd_rows          those of every call on an album, all zero (9), and a slice of another number of words than the longest list
--                           has (10)
--     album_gcd_values        w, the naive degree of h; c, the least power of the lists that are not zero; the sum of all rounds
--     album_gcd_answer k      these values; k is the number of a field
--     album_gcd_written k     h, zeros after it
--     AlbumGreatestSo         (1-t)^c·h divides the polynomial of each list, and every polynomial over the field, of any degree, that divides
--                           them all divides it, h being the first w + 1 words of the slice; the slice holds 1 at w and 0 after it
-- Assumes nothing.
use Rattle.refusal.specs.declared.Refusal.{Refusal}
use Rattle.std.specs.Prelude.{◌≡◌, Bool, true, not, ◌&&◌, List, [], ◌∷◌, ◌++◌, ℕ, suc, ◌<◌, eqb, get_or, length, take, Ok, Err, Result}
use Rattle.algebra.specs.OneMinusT.{⟨1-t⟩^}
use Rattle.algebra.specs.PrimeField.{PrimeField}
use Rattle.refusal.specs.Refusal.{Reply, reply, written}
use Rattle.refusal.specs.Lowest.{Condition, ◌given-when◌, lowest}
use Rattle.refusal.specs.declared.Refusal.TheVariants.{AllZero, Misfit}
use Rattle.field.specs.Fields.{modulus, field_at, longest}
use Rattle.lists.specs.Degrees.{naive_degree, significant}
use Rattle.lists.specs.Lists.{meaning}
use Rattle.lists.specs.Padded.{padded}
use Rattle.euclid_theory.specs.Gcd.{common_power}
use Rattle.album_theory.specs.Albums.{album_gcd}
use Rattle.album_theory.specs.Greatest.{IsGreatestOf}
use Rattle.album_layout.specs.Layout.{lists_of}
use Rattle.album_layout.specs.Calls.{album_refusals}
use Rattle.list_gcd.specs.declared.Gcd.{Gcd}

unfoldable pub all_zero : List (List ℕ) → Bool
all_zero [] = true
all_zero (c ∷ lists) = eqb (significant c) 0 && all_zero lists

unfoldable pub album_gcd_rows : (p most : ℕ) → (s h : List ℕ) → List Condition
album_gcd_rows p most s h =
    album_refusals p s ++
    (AllZero given-when all_zero (lists_of s) ∷
    Misfit given-when not (eqb (length h) most) ∷
    [])

unfoldable pub album_gcd_values : PrimeField → List (List ℕ) → List ℕ
album_gcd_values F lists = naive_degree (album_gcd F lists).list ∷ common_power lists ∷ (album_gcd F lists).rounds ∷ []

abbrev pub album_gcd_answer : (k : ℕ) → (s h : List ℕ) → Reply
album_gcd_answer k s h = reply (lowest (album_gcd_rows (modulus k) (longest k) s h)) (album_gcd_values (field_at k) (lists_of s))

abbrev pub album_gcd_written : (k : ℕ) → (s h : List ℕ) → List ℕ
album_gcd_written k s h =
    written (lowest (album_gcd_rows (modulus k) (longest k) s h)) (padded (longest k) (album_gcd (field_at k) (lists_of s)).list) h

pub record AlbumGreatestSo (F : PrimeField) (lists : List (List ℕ)) (slice : List ℕ) (w c : ℕ) : Type 0 where
  pub ends : get_or slice w 0 ≡ 1
  pub zeros : (k : ℕ) → w < k → get_or slice k 0 ≡ 0
  pub greatest : IsGreatestOf F lists (F.series.ring.mul (⟨1-t⟩^ F.series c) (meaning F (take (suc w) slice)))

-- of an answer that is no refusal
abbrev pub AlbumGreatest : PrimeField → List (List ℕ) → List ℕ → Result Gcd Refusal → Type 0
AlbumGreatest F lists slice (Ok gcd) = AlbumGreatestSo F lists slice gcd.degree.0 gcd.power.0
AlbumGreatest F lists slice (Err why) = Unit {0}

-- What the functions need and find that work on an album; s is its bytes.
--     layout_refusals     the rows of document 01's table for the album's layout
--     Obeys               the album obeys its layout
--     Passed              none of the refusals of every call on an album applies
--     named               there is an entry i, and the bytes that it names lie inside the album
--     body_at             the bytes that entry i names; none where they do not lie inside the album
--     place_at            the place that entry i names; 0 there
-- Theorems, of an album of bytes that obeys its layout and has a list i:
--     body-start         body_at is the bytes from where body i has to start
--     body_bytes         they are the bytes of list i
-- Assumes nothing.
use Rattle.std.specs.Prelude.{◌≡◌, Bool, cond, ◌&&◌, List, [], ◌∷◌, ℕ, ◌+◌, ◌*◌, ◌≤◌, ◌<◌, leb, ltb, length, take, drop, Ok}
use Rattle.refusal.specs.Limits.{max_degree, max_lists}
use Rattle.refusal.specs.Lowest.{Condition, ◌given-when◌, lowest}
use Rattle.refusal.specs.declared.Refusal.TheVariants.{Count, Contents}
use Rattle.album_layout.specs.Layout.{count, degree_at, offset_at, start_at, wrong_count, broken_layout}
use Rattle.album_layout.specs.Calls.{album_refusals}

unfoldable pub layout_refusals : List ℕ → List Condition
layout_refusals s =
    Count given-when wrong_count max_lists s ∷
    Contents given-when broken_layout s ∷
    []

pub record Obeys (s : List ℕ) : Type 0 where
  pub some : 0 < length s
  pub low : 0 < count s
  pub few : count s ≤ max_lists
  pub whole : length s ≡ start_at s (count s)
  pub placed : (i : ℕ) → i < count s → offset_at s i ≡ start_at s i
  pub short : (i : ℕ) → i < count s → degree_at s i ≤ max_degree

abbrev pub Passed : ℕ → List ℕ → Type 0
Passed p s = lowest (album_refusals p s) ≡ Ok tt

unfoldable pub named : List ℕ → ℕ → Bool
named s i = ltb i (count s) && leb (offset_at s i + 2 * (degree_at s i + 1)) (length s)

unfoldable pub body_at : List ℕ → ℕ → List ℕ
body_at s i = cond (named s i) (take (2 * (degree_at s i + 1)) (drop (offset_at s i) s)) []

unfoldable pub place_at : List ℕ → ℕ → ℕ
place_at s i = cond (named s i) (offset_at s i) 0

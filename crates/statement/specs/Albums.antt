-- Albums worked by hand: one table, and one theorem that each row is what the definitions give that the calls' contracts cite.
--     AlbumRow         an album's bytes, and of it: its lists; the h of its GCD; w, c and the sum of all rounds
--     given            the row that the definitions give for an album
--     albums           document 01's example album; three lists, whose two turns take 2 rounds and 1; a lone list that is not zero, of power
--                      1, between zero lists: its top zero is removed and it is made to end in 1, in 0 rounds
--     worked-albums    every row of the table is the one given for its album: by computation
-- Assumes nothing.
use Rattle.std.specs.Prelude.{◌≡◌, refl, List, [], ◌∷◌, map, ℕ}
use Rattle.field.specs.Fields.{F65521}
use Rattle.lists.specs.Bytes.{words_at}
use Rattle.album_layout.specs.Layout.{start_at, nth_list, lists_from, lists_of}
use Rattle.album_theory.specs.Albums.{ended, gcd_from, album_gcd}
use Rattle.album_gcd.specs.Calls.{album_gcd_values}
use Rattle.statement.specs.Sums.{computes}

pub record AlbumRow : Type 0 where
  pub album : List ℕ
  pub lists : List (List ℕ)
  pub h : List ℕ
  pub values : List ℕ

abbrev pub given : List ℕ → AlbumRow
given s =
    record {
      album = s;
      lists = lists_of s;
      h = (album_gcd F65521 (lists_of s)).list;
      values = album_gcd_values F65521 (lists_of s);
    }

abbrev pub albums : List AlbumRow
albums =
    record {
      album = 2 ∷ 1 ∷ 0 ∷ 9 ∷ 0 ∷ 2 ∷ 0 ∷ 13 ∷ 0 ∷ 0 ∷ 0 ∷ 1 ∷ 0 ∷ 0 ∷ 0 ∷ 0 ∷ 0 ∷ 1 ∷ 0 ∷ [];
      lists = (0 ∷ 1 ∷ []) ∷ (0 ∷ 0 ∷ 1 ∷ []) ∷ [];
      h = 0 ∷ 1 ∷ [];
      values = 1 ∷ 0 ∷ 1 ∷ [];
    } ∷
    record {
      album = 3 ∷ 1 ∷ 0 ∷ 13 ∷ 0 ∷ 1 ∷ 0 ∷ 17 ∷ 0 ∷ 1 ∷ 0 ∷ 21 ∷ 0 ∷ 0 ∷ 0 ∷ 1 ∷ 0 ∷ 1 ∷ 0 ∷ 0 ∷ 0 ∷ 0 ∷ 0 ∷ 1 ∷ 0 ∷ [];
      lists = (0 ∷ 1 ∷ []) ∷ (1 ∷ 0 ∷ []) ∷ (0 ∷ 1 ∷ []) ∷ [];
      h = 1 ∷ [];
      values = 0 ∷ 0 ∷ 3 ∷ [];
    } ∷
    record {
      album = 3 ∷ 1 ∷ 0 ∷ 13 ∷ 0 ∷ 2 ∷ 0 ∷ 17 ∷ 0 ∷ 0 ∷ 0 ∷ 23 ∷ 0 ∷ 0 ∷ 0 ∷ 0 ∷ 0 ∷ 0 ∷ 0 ∷ 2 ∷ 0 ∷ 0 ∷ 0 ∷ 0 ∷ 0 ∷ [];
      lists = (0 ∷ 0 ∷ []) ∷ (0 ∷ 2 ∷ 0 ∷ []) ∷ (0 ∷ []) ∷ [];
      h = 0 ∷ 1 ∷ [];
      values = 1 ∷ 1 ∷ 0 ∷ [];
    } ∷
    []

pub worked-albums : map (λ row. given row.album) albums ≡ albums
unfolding computes words_at start_at nth_list lists_from lists_of ended gcd_from album_gcd album_gcd_values
worked-albums = refl

-- What the calls on an album hand out, where it holds some lists.
--     none         a record of zeros
--     entry_of      record i of those that contents writes
--     Contained    check on list i is done, read_list gives its words and naive degree, body its bytes, contents the place of its bytes and
--                  its naive degree
-- Assumes nothing.
use Rattle.std.specs.Prelude.{◌≡◌, List, [], ℕ, ◌+◌, ◌*◌, ◌≤◌, ◌<◌, length, get_or, take, drop, Ok}
use Rattle.algebra.specs.PrimeField.{PrimeField}
use Rattle.refusal.specs.Limits.{max_lists}
use Rattle.refusal.specs.Lowest.{lowest}
use Rattle.lists.specs.Bytes.{bytes_of}
use Rattle.lists.specs.Degrees.{naive_degree}
use Rattle.album_layout.specs.Layout.{count, degree_at, start_at, nth_list}
use Rattle.album_layout.specs.Calls.{check_refusals}
use Rattle.album_contents.specs.Calls.{records_from}
use Rattle.album_contents.specs.declared.Entry.{Entry}

abbrev pub none : Entry
none = record { offset = 0; degree = 0 }

abbrev pub entry_of : List ℕ → ℕ → Entry
entry_of s i = get_or (records_from s 0 max_lists) i none

module _ (F : PrimeField) where
  pub record Contained (s : List ℕ) (lists : List (List ℕ)) : Type 0 where
    pub number : length lists ≡ count s
    pub passes : (i : ℕ) → i < count s → lowest (check_refusals F.p s i) ≡ Ok tt
    pub words : (i : ℕ) → i < count s → nth_list s i ≡ get_or lists i []
    pub degree : (i : ℕ) → i < count s → degree_at s i ≡ naive_degree (get_or lists i [])
    -- the bytes that body hands back, from the place where it does
    pub bytes : (i : ℕ) → i < count s → take (2 * (degree_at s i + 1)) (drop (start_at s i) s) ≡ bytes_of (get_or lists i [])
    -- record i names the place of these bytes; the records after the last list are zeros
    pub records : (i : ℕ) → i < count s → ((entry_of s i).degree ≡ naive_degree (get_or lists i []))
        × (take (length (bytes_of (get_or lists i []))) (drop (entry_of s i).offset s) ≡ bytes_of (get_or lists i []))
    pub zeros : (i : ℕ) → count s ≤ i → i < max_lists → entry_of s i ≡ none

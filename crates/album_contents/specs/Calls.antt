-- The contents of an album as records for a host.
--     record_at             the record of list k: its offset and its naive degree; zeros after the last list
--     records_from          n records, from number k on
--     contents_rows         of contents, when it is lent n records: those of every call on an album, and another number of records than the
--                          limit of lists (10)
--     contents_answer k     what it answers: no value; k is the number of a field
--     contents_written k    the records of the album's lists
--     filled                what the lent slice holds afterwards: the records, or, refused, what it held before
-- Assumes nothing.
use Rattle.std.specs.Prelude.{cond, not, List, [], ◌∷◌, ◌++◌, ℕ, zero, suc, ltb, eqb, length, Ok, Err}
use Rattle.refusal.specs.Limits.{max_lists}
use Rattle.refusal.specs.Refusal.{Reply, reply, Outcome}
use Rattle.refusal.specs.Lowest.{Condition, ◌given-when◌, lowest}
use Rattle.refusal.specs.declared.Refusal.TheVariants.{Misfit}
use Rattle.field.specs.Fields.{modulus}
use Rattle.album_layout.specs.Layout.{count, degree_at, offset_at}
use Rattle.album_layout.specs.Calls.{album_refusals}
use Rattle.album_contents.specs.declared.Entry.{Entry}

unfoldable pub record_at : List ℕ → ℕ → Entry
record_at s k = cond (ltb k (count s)) (record { offset = offset_at s k; degree = degree_at s k }) (record { offset = 0; degree = 0 })

unfoldable pub records_from : List ℕ → (k n : ℕ) → List Entry
records_from s k zero = []
records_from s k (suc n) = record_at s k ∷ records_from s (suc k) n

unfoldable pub contents_rows : (p : ℕ) → List ℕ → (n : ℕ) → List Condition
contents_rows p s n = album_refusals p s ++ (Misfit given-when not (eqb n max_lists) ∷ [])

abbrev pub filled : Outcome → (new old : List Entry) → List Entry
filled (Ok _) new old = new
filled (Err why) new old = old

abbrev pub contents_answer : (k : ℕ) → List ℕ → List Entry → Reply
contents_answer k s out = reply (lowest (contents_rows (modulus k) s (length out))) []

abbrev pub contents_written : (k : ℕ) → List ℕ → List Entry → List Entry
contents_written k s out = filled (lowest (contents_rows (modulus k) s (length out))) (records_from s 0 max_lists) out

-- What the contracts say implies demand 1.
--     demand1-after       a call that answers the number of `lowest`, or else of a late refusal, and, refused, leaves its slices unchanged
--                         meets the demand
--     demand1             the same of a call that is never refused late
--     replies-after, replies     the same of a call whose answer is given as a reply
--     no-slice, and-slice what the contracts say of the slices: none, and one more, which holds a result or, refused, what it held
--     empty-refused       a part that is a result or, refused, empty
--     of-contents         demand 1 of `album_contents::contents`, whose slice is of structs: the two clauses of its contract imply it, where s is
--                         the album, and the slice held `old` and holds `after`
-- Assumes nothing.
use mathlib.Core.Path.{◌≡◌, refl, sym, ◌∙◌, ap}
use mathlib.Core.List.{List, [], ◌∷◌}
use Prim.Native.Nat.{ℕ}
use lib.ListN.{length}
use Rattle.std.specs.Prelude.{Ok, Err}
use Rattle.refusal.specs.Limits.{max_lists}
use Rattle.refusal.specs.Refusal.{outcome_number, Reply, reply, outcome_reply, written, Outcome}
use Rattle.refusal.specs.Lowest.{Condition, IsLowest, lowest, or_else}
use Rattle.refusal.proofs.Lowest.{lowest-is}
use Rattle.refusal.proofs.Answers.{number_is}
use Rattle.field.specs.Fields.{p}
use Rattle.album_contents.specs.Calls.{contents_rows, records_from, filled, contents_answer, contents_written}
use Rattle.album_contents.specs.declared.Entry.{Entry}
use Rattle.statement.specs.Demand1.{Slice, slice_of, Demand1After, Demand1, EmptyRefused, Left}

-- by cases on what `lowest` is, and on the late refusal
by-outcome : (rows : List Condition) (o late : Outcome) → IsLowest rows o
    → (answer : ℕ) (slices : List Slice) → answer ≡ outcome_number (or_else o late) → Left (or_else o late) slices → Demand1After rows late answer slices
by-outcome rows (Ok _) late none answer slices e l =
    record {
      refused = λ some a. absurd (none some a);
      refused_late = λ _ why q. (e ∙ ap outcome_number q, l.unchanged why q);
      completes = λ _ q. e ∙ ap outcome_number q;
    }
by-outcome rows (Err low) late is answer slices e l =
    record {
      refused = λ some a. (low, is, e, l.unchanged low refl);
      refused_late = λ none. absurd (none low is.0);
      completes = λ none. absurd (none low is.0);
    }

pub demand1-after : (rows : List Condition) (late : Outcome) (answer : ℕ) (slices : List Slice) → answer ≡ outcome_number (or_else (lowest rows) late)
    → Left (or_else (lowest rows) late) slices → Demand1After rows late answer slices
demand1-after rows late answer slices e l = by-outcome rows (lowest rows) late (lowest-is rows) answer slices e l

pub replies-after : {rows : List Condition} (late : Outcome) (values : List ℕ) {r : Reply} {slices : List Slice} → r ≡ reply (or_else (lowest rows) late) values
    → Left (or_else (lowest rows) late) slices → Demand1After rows late r.number slices
replies-after {rows} late values {r} {slices} e l =
    demand1-after rows late r.number slices (number_is (or_else (lowest rows) late) values e) l

-- nothing comes late
or-done : (o : Outcome) → or_else o (Ok tt) ≡ o
or-done (Ok _) = refl
or-done (Err why) = refl

pub demand1 : (rows : List Condition) (answer : ℕ) (slices : List Slice) → answer ≡ outcome_number (lowest rows) → Left (lowest rows) slices
    → Demand1 rows answer slices
demand1 rows answer slices e l =
    demand1-after rows (Ok tt) answer slices (e ∙ ap outcome_number (sym (or-done (lowest rows)))) (rw (or-done (lowest rows)) l)

pub replies : {rows : List Condition} (values : List ℕ) {r : Reply} {slices : List Slice} → r ≡ reply (lowest rows) values
    → Left (lowest rows) slices → Demand1 rows r.number slices
replies {rows} values {r} {slices} e l = demand1 rows r.number slices (number_is (lowest rows) values e) l

pub no-slice : {o : Outcome} → Left o []
no-slice = record { unchanged = λ why r. tt }

pub and-slice : {o : Outcome} (new : List ℕ) {old after : List ℕ} {slices : List Slice} → after ≡ written o new old → Left o slices
    → Left o (slice_of old after ∷ slices)
and-slice new {old} e l = record { unchanged = λ why r. (e ∙ ap (λ a. written a new old) r, l.unchanged why r) }

empty-by-outcome : (rows : List Condition) (o : Outcome) → IsLowest rows o
    → (new part : List ℕ) → part ≡ written o new [] → EmptyRefused rows part
empty-by-outcome rows (Ok _) none new part e = λ why a. absurd (none why a)
empty-by-outcome rows (Err low) is new part e = λ why a. e

pub empty-refused : (rows : List Condition) (new part : List ℕ) → part ≡ written (lowest rows) new [] → EmptyRefused rows part
empty-refused rows new part e = empty-by-outcome rows (lowest rows) (lowest-is rows) new part e

pub of-contents : (s : List ℕ) (old after : List Entry) (answer : Outcome) → outcome_reply answer ≡ contents_answer 0 s old → after ≡ contents_written 0 s old
    → Demand1 (contents_rows p s (length old)) (outcome_reply answer).number (slice_of old after ∷ [])
of-contents s old after answer e f =
    replies [] e (record { unchanged = λ why r. (f ∙ ap (λ o. filled o (records_from s 0 max_lists) old) r, tt) })

-- What the calls on an album refuse and answer.
--     album_refusals      of every call on an album: a loose word in any list counts
--     check_refusals      of a call on list i
--     check_answer k      what a call on list i answers that only asks; k is the number of a field
--     body_of k           the bytes of list i; none when refused
--     body_place k        where they start in the album; 0 when refused
--     PartFrom            a part of lent bytes that starts at a place of these bytes: of the same block of memory, so far from their start
-- Assumes nothing.
use Rattle.std.specs.Prelude.{◌≡◌, List, [], ◌∷◌, ℕ, ◌+◌, ◌*◌, leb, take, drop, Ok, Err}
use Rattle.std.specs.Borrow.{Bor}
use Rattle.refusal.specs.Limits.{max_lists}
use Rattle.refusal.specs.Refusal.{Reply, reply, written, Outcome}
use Rattle.refusal.specs.Lowest.{Condition, ◌given-when◌, lowest}
use Rattle.refusal.specs.declared.Refusal.TheVariants.{Count, Contents, Index, LooseWord}
use Rattle.field.specs.Fields.{modulus}
use Rattle.lists.specs.Refused.{has_loose, any_of}
use Rattle.album_layout.specs.Layout.{count, degree_at, start_at, wrong_count, broken_layout, lists_of}

unfoldable pub album_refusals : ℕ → List ℕ → List Condition
album_refusals p s =
    Count given-when wrong_count max_lists s ∷
    Contents given-when broken_layout s ∷
    LooseWord given-when any_of (has_loose p) (lists_of s) ∷
    []

unfoldable pub check_refusals : ℕ → List ℕ → ℕ → List Condition
check_refusals p s i =
    Count given-when wrong_count max_lists s ∷
    Contents given-when broken_layout s ∷
    Index given-when leb (count s) i ∷
    LooseWord given-when (any_of (has_loose p) (lists_of s)) ∷
    []

abbrev pub check_answer : (k : ℕ) → List ℕ → ℕ → Reply
check_answer k s i = reply (lowest (check_refusals (modulus k) s i)) []

unfoldable pub body_of : (k : ℕ) → List ℕ → ℕ → List ℕ
body_of k s i = written (lowest (check_refusals (modulus k) s i)) (take (2 * (degree_at s i + 1)) (drop (start_at s i) s)) []

-- of an outcome
abbrev pub placed : Outcome → ℕ → ℕ
placed (Ok _) at = at
placed (Err why) at = 0

unfoldable pub body_place : (k : ℕ) → List ℕ → ℕ → ℕ
body_place k s i = placed (lowest (check_refusals (modulus k) s i)) (start_at s i)

abbrev pub PartFrom : Bor (List ℕ) → ℕ → Bor (List ℕ) → Type 0
PartFrom whole at part = (part.ref_ptr.0 ≡ whole.ref_ptr.0) × (part.ref_ptr.1 ≡ whole.ref_ptr.1 + at)

-- What reading a list of an album refuses, answers and writes; s is the album's bytes.
--     read_rows         of reading list i: those of every call on list i, and a slice of another number of words than the longest list has (10)
--     read_answer k     the list's naive degree
--     read_written k    its words, zeros after them
--     listed_reply      what the answer says: the list's naive degree
-- Assumes nothing.
use Rattle.refusal.specs.declared.Refusal.{Refusal}
use Rattle.std.specs.Prelude.{not, List, [], ◌∷◌, ◌++◌, ℕ, eqb, length, Result}
use Rattle.refusal.specs.Refusal.{Reply, reply, written, value_reply}
use Rattle.refusal.specs.Lowest.{Condition, ◌given-when◌, lowest}
use Rattle.refusal.specs.declared.Refusal.TheVariants.{Misfit}
use Rattle.field.specs.Fields.{modulus, longest}
use Rattle.lists.specs.Padded.{padded}
use Rattle.lists.specs.declared.NaiveDegree.{NaiveDegree}
use Rattle.album_layout.specs.Layout.{degree_at, nth_list}
use Rattle.album_layout.specs.Calls.{check_refusals}

unfoldable pub read_rows : (p most : ℕ) → List ℕ → ℕ → List ℕ → List Condition
read_rows p most s i out = check_refusals p s i ++ (Misfit given-when not (eqb (length out) most) ∷ [])

abbrev pub read_answer : (k : ℕ) → List ℕ → ℕ → List ℕ → Reply
read_answer k s i out = reply (lowest (read_rows (modulus k) (longest k) s i out)) (degree_at s i ∷ [])

abbrev pub read_written : (k : ℕ) → List ℕ → ℕ → List ℕ → List ℕ
read_written k s i out = written (lowest (read_rows (modulus k) (longest k) s i out)) (padded (longest k) (nth_list s i)) out

abbrev pub listed_reply : Result NaiveDegree Refusal → Reply
listed_reply = value_reply (λ degree. degree.0)

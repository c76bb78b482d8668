-- Demand 1, in one form for every public call: a call with some rows answers a number and leaves some lent slices. A refusal goes before
-- another by their ranks (crates/refusal/specs/Rank.antt), among document 01's by their numbers.
--     Slice          a lent slice: the type of its elements, what it held on entry, and what it holds at exit
--     slice_of       a slice by what it held and holds: of a lent slice s, slice_of s.old s.new
--     Unchanged      every slice holds what it held
--     NoneApplies    no row applies
--     Demand1After   of a call that may be refused late, by an operation that it does: `refused`, where some row applies, the answer is the
--                    number of the first that applies and every slice is unchanged; `refused_late`, where none applies and an operation
--                    is refused, the answer is the number of that and every slice is unchanged; `completes`, where neither is so the
--                    answer is 0, the call completes
--     Demand1        the same of a call that is never refused late
--     EmptyRefused   of a call that hands back a part and no number: where a refusal applies, the part is empty
--     Left           what the contracts say of the slices: refused, every slice is unchanged
-- Assumes nothing.
use Rattle.std.specs.Prelude.{◌≡◌, List, [], ◌∷◌, ℕ, Ok, Err}
use Rattle.refusal.specs.Refusal.{number, Outcome}
use Rattle.refusal.specs.Lowest.{Condition, Applies, IsLowest}
use Rattle.refusal.specs.declared.Refusal.{Refusal}

pub record Slice : Type 1 where
  pub Element : Type 0
  pub entry : List Element
  pub exit : List Element

abbrev pub slice_of : {A : Type 0} → List A → List A → Slice
slice_of {A} entry exit = record { Element = A; entry = entry; exit = exit }

abbrev pub Unchanged : List Slice → Type 0
Unchanged [] = Unit {0}
Unchanged (s ∷ slices) = (s.exit ≡ s.entry) × Unchanged slices

abbrev pub NoneApplies : List Condition → Type 0
NoneApplies rows = (why : Refusal) → Applies why rows → ⊥

pub record Demand1After (rows : List Condition) (late : Outcome) (answer : ℕ) (slices : List Slice) : Type 0 where
  pub refused : (some : Refusal) → Applies some rows → (why : Refusal) × IsLowest rows (Err why) × (answer ≡ number why) × Unchanged slices
  pub refused_late : NoneApplies rows → (why : Refusal) → late ≡ Err why → (answer ≡ number why) × Unchanged slices
  pub completes : NoneApplies rows → late ≡ Ok tt → answer ≡ 0

abbrev pub Demand1 : List Condition → ℕ → List Slice → Type 0
Demand1 rows answer slices = Demand1After rows (Ok tt) answer slices

abbrev pub EmptyRefused : List Condition → List ℕ → Type 0
EmptyRefused rows part = (why : Refusal) → Applies why rows → part ≡ []

pub record Left (outcome : Outcome) (slices : List Slice) : Type 0 where
  pub unchanged : (why : Refusal) → outcome ≡ Err why → Unchanged slices

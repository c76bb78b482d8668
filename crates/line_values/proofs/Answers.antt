-- What a run that has ended leaves: the value of the program's tree.
--     Ended, ended     a list that stands alone on the stack
--     value-done, value-refused     what is then answered and written
-- Assumes nothing.
use mathlib.Core.Path.{◌≡◌, refl, sym, ◌∙◌, ap, ap₂, subst}
use mathlib.Core.Bool.{Bool, true, false}
use mathlib.Core.List.{List, [], ◌∷◌}
use Prim.Native.Nat.{ℕ, ◌-◌, ◌≤◌}
use native.Mathlib.Omega.{arith}
use lib.ListN.{length, take, length-take}
use Rattle.refusal.specs.Refusal.{number}
use Rattle.refusal.specs.declared.Refusal.{Refusal}
use Rattle.field.specs.Fields.{modulus, field_at, longest}
use Rattle.lists.specs.Degrees.{naive_degree}
use Rattle.lists.specs.Padded.{padded}
use Rattle.lists.specs.Refused.{IsList}
use Rattle.lists.proofs.Scaled.{length-naive}
use Rattle.album_layout.specs.Layout.{lists_of}
use Rattle.lines.specs.Grammar.{Tree}
use Rattle.lines.specs.Program.{postfix, Small}
use Rattle.line_values.specs.Values.{Valued, value, refused, value_of}
use Rattle.line_values.specs.Internal.{Stack, State, stack, halted, stuck, onto, run, packed, Lists, Left, ValueSo}
use Rattle.line_values.proofs.Machine.{run-program}

-- of a state: its stack, or that it has none
abbrev stack_in : State → Stack
stack_in (stack s) = s
stack_in (halted why) = []
stack_in stuck = []

abbrev is_halted : State → Bool
is_halted (stack s) = false
is_halted (halted why) = true
is_halted stuck = false

clash : false ≡ true → ⊥
clash e = let z : ◌≡◌ {A = ℕ} 0 1 = cc in omega arith

abbrev refusal_in : Refusal → State → Refusal
refusal_in default (stack s) = default
refusal_in default (halted why) = why
refusal_in default stuck = default

-- a value alone on the stack
alone : (v : Valued) (st : Stack) → onto v [] ≡ stack st → (c : List ℕ) × (v ≡ value c) × (st ≡ c ∷ [])
unfolding onto
alone (value c) st e = (c, refl, sym (ap stack_in e))
alone (refused why) st e = absurd (clash (sym (ap is_halted e)))

halts : (v : Valued) {why : Refusal} → onto v [] ≡ halted why → v ≡ refused why
unfolding onto
halts (value c) e = absurd (clash (ap is_halted e))
halts (refused other) {why} e = ap refused (ap (refusal_in other) e)

pub record Ended (k : ℕ) (s : List ℕ) (e : Tree) (words : List ℕ) (n : ℕ) : Type 0 where
  pub list : List ℕ
  pub value-is : value_of (field_at k) (longest k) (lists_of s) e ≡ value list
  pub size : n ≡ length list
  pub front : take n words ≡ list
  pub listed : IsList (modulus k) (longest k) list

module _ (k : ℕ) (s code : List ℕ) (e : Tree) (is : code ≡ postfix e) (small : Small e) where
  value-onto : run (field_at k) (longest k) (lists_of s) code [] ≡ onto (value_of (field_at k) (longest k) (lists_of s) e) []
  value-onto = ap (λ c. run (field_at k) (longest k) (lists_of s) c []) is ∙ run-program (field_at k) (longest k) (lists_of s) e small

  pub ended : (words : List ℕ) (n : ℕ) → Left (run (field_at k) (longest k) (lists_of s) code []) k n words → Ended k s e words n
  ended words n r =
      let one = alone (value_of (field_at k) (longest k) (lists_of s) e) r.st (sym value-onto ∙ r.is) in
      let listed = subst (Lists (modulus k) (longest k)) one.2 r.lists in
      record {
        list = one.0;
        value-is = one.1;
        size = r.size ∙ ap (λ st. length (packed st)) one.2;
        front = r.held ∙ ap packed one.2;
        listed = listed.0;
      }

  pub ended-refused : {why : Refusal} → run (field_at k) (longest k) (lists_of s) code [] ≡ halted why
      → value_of (field_at k) (longest k) (lists_of s) e ≡ refused why
  ended-refused r = halts (value_of (field_at k) (longest k) (lists_of s) e) (sym value-onto ∙ r)

-- the numbers of a run that has ended
pub ended-numbers : (k : ℕ) (s : List ℕ) (e : Tree) (words : List ℕ) (n : ℕ) → Ended k s e words n → (1 ≤ n) × (n ≤ longest k) × (n ≤ length words)
ended-numbers k s e words n d =
    let some = d.listed.some in
    let short = d.listed.short in
    let size = d.size in
    let whole = ap length d.front in
    let taken = length-take n words in
    (omega arith, omega arith, omega arith)

module _ (k : ℕ) (s code old : List ℕ) (fits : length old ≡ longest k) where
  pub value-done : (words : List ℕ) (n : ℕ) {out : List ℕ}
      → Left (run (field_at k) (longest k) (lists_of s) code []) k n words
      → out ≡ padded (length old) (take n words) → ValueSo k s code old out (record { number = 0; values = (n - 1) ∷ [] })
  value-done words n r q e is small =
      let d = ended k s code e is small words n r in
      let degree : n - 1 ≡ naive_degree d.list = omega (arith, d.size, length-naive d.list d.listed.some) in
      rw d.value-is (ap (λ m. record { number = 0; values = m ∷ [] }) degree, q ∙ ap₂ padded fits d.front)

  pub value-refused : {why : Refusal} → run (field_at k) (longest k) (lists_of s) code [] ≡ halted why
      → ValueSo k s code old old (record { number = number why; values = [] })
  value-refused r e is small = rw (ended-refused k s code e is small r) (refl, refl)

-- The run of a line's program on a stack of lists, and what the functions of the run find.
--     max_height                 the most lists on the stack: three, and two for each parenthesis that is open
--     Stack, State               lists, the top first; a stack, or that the run has halted with a refusal, or is stuck: an operator found too few lists
--     onto, binary, unary        a value goes on the stack; an operation takes its operands off
--     operation, operate         the operation that a byte of the program stands for
--     step, run                  one byte of the program: an operand's list goes on the stack, or an operator is done; all of them in turn
--     packed, sizes_of           the words of the lists, the lowest list first, and their numbers of words
--     Stacked                    the stack as it lies in two slices: `top` lists, whose `filled` words stand one behind the other
--     operands_needed            how many lists a byte of the program takes off the stack
--     StackedIn                  the same of the slices of a stack of the program
--     Lying, Empty, Ready        what the methods need that work on a stack, what the run needs, and a step
--     Came                       what an operation comes to, in a slice
--     popped, Pushed             the stack without the list on top, and with one more
--     Same, Stepped, Left, Ran   what a step leaves, and the run
--     lacks_one, lacks_byte      a byte of a program is an operand that an album of so many lists lacks; the program has one
--     ValueSo                    what the program's tree comes to, in a slice of as many words as the longest list has
--     Runs                       a program that can be run: that of a tree whose lists the album has, and for which the stack is high enough
-- Theorems (proofs/Machine, proofs/Programs):
--     run-program              the program of a tree leaves the tree's value
--     lacks-program            a tree lacks a list exactly where its program does
-- Assumes nothing.
use Rattle.std.specs.Prelude.{◌≡◌, Bool, false, cond, ◌&&◌, ◌||◌, List, [], ◌∷◌, ◌++◌, ℕ, ◌+◌, ◌*◌, ◌≤◌, ◌<◌, eqb, leb, ltb, length, get_or, take, drop, set, ◌-◌, Result, Ok, Err}
use Rattle.algebra.specs.PrimeField.{PrimeField}
use Rattle.refusal.specs.Limits.{max_open, max_words}
use Rattle.refusal.specs.Refusal.{Reply, reply, written}
use Rattle.refusal.specs.declared.Refusal.{Refusal}
use Rattle.field.specs.Fields.{modulus, field_at, longest}
use Rattle.lists.specs.Degrees.{naive_degree}
use Rattle.lists.specs.Padded.{padded}
use Rattle.lists.specs.Refused.{IsList}
use Rattle.album_layout.specs.Layout.{count, lists_of}
use Rattle.album_layout.specs.Internal.{Passed}
use Rattle.lines.specs.Grammar.{Tree}
use Rattle.lines.specs.Program.{add_byte, subtract_byte, derive_byte, first_operator, postfix, Small}
use Rattle.lines.specs.Height.{needed, height_behind}
use Rattle.line_values.specs.Values.{Valued, value, refused, added, subtracted, multiplied, derived, value_of}
use Rattle.line_values.specs.Calls.{late_of, list_in}
use Rattle.line_values.specs.declared.Stack as held

abbrev pub max_height : ℕ
max_height = 2 * max_open + 3

abbrev pub Stack : Type 0
Stack = List (List ℕ)

pub data State : Type 0 where
  stack : Stack → State
  halted : Refusal → State
  stuck : State

unfoldable pub onto : Valued → Stack → State
onto (value c) s = stack (c ∷ s)
onto (refused why) s = halted why

unfoldable pub binary : (List ℕ → List ℕ → Valued) → Stack → State
binary f [] = stuck
binary f (b ∷ []) = stuck
binary f (b ∷ (a ∷ s)) = onto (f a b) s

unfoldable pub unary : (List ℕ → Valued) → Stack → State
unary f [] = stuck
unary f (a ∷ s) = onto (f a) s

unfoldable pub then : State → (Stack → State) → State
then (stack s) next = next s
then (halted why) next = halted why
then stuck next = stuck

module _ (F : PrimeField) (most : ℕ) where
  unfoldable pub operation : ℕ → List ℕ → List ℕ → Valued
  operation x a b = cond (eqb x add_byte) (added F most a b) (cond (eqb x subtract_byte) (subtracted F most a b) (multiplied F most a b))

  unfoldable pub operate : ℕ → Stack → State
  operate x s = cond (eqb x derive_byte) (unary (derived F most) s) (binary (operation x) s)

  module _ (lists : List (List ℕ)) where
    unfoldable pub step : ℕ → Stack → State
    step x s = cond (ltb x first_operator) (stack (get_or lists x [] ∷ s)) (operate x s)

    unfoldable pub run : List ℕ → Stack → State
    run [] s = stack s
    run (x ∷ code) s = then (step x s) (λ t. run code t)

abbrev pub packed : Stack → List ℕ
packed [] = []
packed (c ∷ s) = packed s ++ c

abbrev pub sizes_of : Stack → List ℕ
sizes_of [] = []
sizes_of (c ∷ s) = sizes_of s ++ (length c ∷ [])

-- no call refuses a list of the stack
abbrev pub Lists : (p most : ℕ) → Stack → Type 0
Lists p most [] = Unit {0}
Lists p most (c ∷ s) = IsList p most c × Lists p most s

pub record Stacked (p most : ℕ) (words sizes : List ℕ) (top filled : ℕ) (s : Stack) : Type 0 where
  pub height : top ≡ length s
  pub size : filled ≡ length (packed s)
  pub held : take filled words ≡ packed s
  pub lengths : take top sizes ≡ sizes_of s
  pub lists : Lists p most s

unfoldable pub operands_needed : ℕ → ℕ
operands_needed x = cond (ltb x first_operator) 0 (cond (eqb x derive_byte) 1 2)

-- the same of the slices of a stack of the program
abbrev pub StackedIn : held.Stack → Stack → Type 0
StackedIn m s = Stacked (modulus m.field) (longest m.field) m.words.now m.sizes.now m.top m.filled s

-- some stack lies in the slices
pub record Lying (m : held.Stack) : Type 0 where
  pub st : Stack
  pub stacked : StackedIn m st
  pub low : m.top ≤ max_height
  pub words-room : length m.words.now ≡ max_height * max_words
  pub sizes_room : length m.sizes.now ≡ max_height

pub record Empty (m : held.Stack) : Type 0 where
  pub no-list : m.top ≡ 0
  pub no-word : m.filled ≡ 0
  pub words-room : length m.words.now ≡ max_height * max_words
  pub sizes_room : length m.sizes.now ≡ max_height

pub record Ready (s : List ℕ) (x : ℕ) (m : held.Stack) : Type 0 where
  pub passed : Passed (modulus m.field) s
  pub there : x < first_operator → x < count s
  pub known : x ≤ derive_byte
  pub lying : Lying m
  pub enough : operands_needed x ≤ m.top
  pub high : height_behind m.top x ≤ max_height

-- v is what an operation comes to, and the slice holds its list in front
abbrev pub Came : (p most : ℕ) → Valued → (out : List ℕ) → Result ℕ Refusal → Type 0
Came p most v out (Ok n) = (c : List ℕ) × (v ≡ value c) × (n ≡ length c) × (take n out ≡ c) × IsList p most c
Came p most v out (Err why) = v ≡ refused why

-- the field, and the room there is
pub record Same (old new : held.Stack) : Type 0 where
  pub field : new.field ≡ old.field
  pub words : length new.words.now ≡ length old.words.now
  pub sizes : length new.sizes.now ≡ length old.sizes.now

-- without the list on top
abbrev pub popped : held.Stack → held.Stack
popped m = record m { top = m.top - 1; filled = m.filled - get_or m.sizes.now (m.top - 1) 0 }

pub record Pushed (list : List ℕ) (old new : held.Stack) : Type 0 where
  pub same : Same old new
  pub words : new.words.now ≡ take old.filled old.words.now ++ (list ++ drop (old.filled + length list) old.words.now)
  pub sizes : new.sizes.now ≡ set old.sizes.now old.top (length list)
  pub top : new.top ≡ old.top + 1
  pub filled : new.filled ≡ old.filled + length list

-- what is made of the stack, whichever it is
abbrev pub Stepped : (Stack → State) → (old new : held.Stack) → Result (Unit {0}) Refusal → Type 0
Stepped does old new (Ok done) =
    Same old new × ((st : Stack) → StackedIn old st → (st' : Stack) × (does st ≡ stack st') × StackedIn new st')
Stepped does old new (Err why) = (st : Stack) → StackedIn old st → does st ≡ halted why

-- what the whole run leaves
pub record Left (end : State) (k n : ℕ) (words : List ℕ) : Type 0 where
  pub st : Stack
  pub is : end ≡ stack st
  pub size : n ≡ length (packed st)
  pub held : take n words ≡ packed st
  pub lists : Lists (modulus k) (longest k) st

abbrev pub Ran : (s code : List ℕ) → (old new : held.Stack) → Result (Unit {0}) Refusal → Type 0
Ran s code old new (Ok done) =
    Left (run (field_at old.field) (longest old.field) (lists_of s) code []) old.field new.filled new.words.now
Ran s code old new (Err why) = run (field_at old.field) (longest old.field) (lists_of s) code [] ≡ halted why

unfoldable pub lacks_one : ℕ → ℕ → Bool
lacks_one lists x = ltb x first_operator && leb lists x

unfoldable pub lacks_byte : ℕ → List ℕ → Bool
lacks_byte lists [] = false
lacks_byte lists (x ∷ code) = lacks_one lists x || lacks_byte lists code

pub record Runs (s code : List ℕ) : Type 0 where
  pub tree : Tree
  pub is : code ≡ postfix tree
  pub small : Small tree
  pub low : needed tree ≤ max_height
  pub has : lacks_byte (count s) code ≡ false

abbrev pub Valuing : (k : ℕ) (old out : List ℕ) → Reply → Valued → Type 0
Valuing k old out r v = (r ≡ reply (late_of v) (naive_degree (list_in v) ∷ [])) × (out ≡ written (late_of v) (padded (longest k) (list_in v)) old)

abbrev pub ValueSo : (k : ℕ) → (s code old out : List ℕ) → Reply → Type 0
ValueSo k s code old out r =
    (e : Tree) → code ≡ postfix e → Small e → Valuing k old out r (value_of (field_at k) (longest k) (lists_of s) e)

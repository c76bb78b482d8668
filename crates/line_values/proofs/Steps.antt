-- One byte of a program, done on the stack as it lies in two slices.
--     push-few, push-so     an operand's list is put on
--     below, room-above, on_top     the stack without the list on top, and with another one
--     derive-so, one-fits     the derivative of the list on top takes its place
--     join-so, two-fit, join-refused     an operation on the two lists on top: its result takes their place, or it is refused
--     joins, join-lists     the two lists on top, in the words
--     step_push, step-derive, step-join     which of these a byte is
--     stepped-as     what is made, by another name
--     high-push, some-derive, some-join     what a byte finds that is Ready
-- Assumes nothing.
use mathlib.Core.Path.{◌≡◌, refl, sym, ◌∙◌, ap, subst}
use mathlib.Core.List.{List, [], ◌∷◌, ◌++◌, append_assoc}
use Prim.Native.Nat.{ℕ, ◌+◌, ◌-◌, ◌≤◌, ◌<◌}
use native.Mathlib.Omega.{arith}
use lib.ListN.{length, get_or, set, take, drop, replicate, length-take, length-drop}
use borrow.Author.Tests.{lt-ltb, le-ltb, ne_eqb}
use Rattle.algebra.specs.PrimeField.{PrimeField}
use Rattle.refusal.specs.Limits.{max_words}
use Rattle.refusal.specs.declared.Refusal.{Refusal}
use Rattle.field.specs.Fields.{modulus, field_at, longest}
use Rattle.field.proofs.Fields.{longest-room, longest-full}
use Rattle.lists.specs.Bytes.{Bytes}
use Rattle.lists.specs.Padded.{padded}
use Rattle.lists.specs.Refused.{IsList}
use Rattle.album_layout.specs.Layout.{count, nth_list, lists_of}
use Rattle.album_layout.specs.Internal.{Passed}
use Rattle.album_layout.proofs.Places.{list_at}
use Rattle.album_reader.specs.Internal.{words_read, left_at, Held}
use Rattle.album_reader.proofs.Held.{read_held}
use Rattle.lines.specs.Program.{derive_byte, first_operator}
use Rattle.lines.specs.Height.{height_behind}
use Rattle.std.specs.Prelude.{Result, Ok, Err}
use Rattle.line_values.specs.declared.Stack as held
use Rattle.line_values.specs.Values.{Valued, value, refused, derived}
use Rattle.line_values.specs.Internal.{max_height, Stack, stack, halted, onto, unary, binary, operation, operate, step, State, Stacked, StackedIn, operands_needed, Lying, popped, Pushed, Stepped, Came}
use Rattle.line_values.proofs.Stacks.{filled-low, top-words, taken, lower, put_on, reword}

-- what a byte is
module _ (F : PrimeField) (most : ℕ) (lists : List (List ℕ)) (x : ℕ) (st : Stack) where
  pub step_push : x < first_operator → step F most lists x st ≡ stack (get_or lists x [] ∷ st)
  unfolding step
  step_push l = rw (lt-ltb x first_operator l)

  pub step-derive : x ≡ derive_byte → step F most lists x st ≡ unary (derived F most) st
  unfolding step operate
  step-derive e = rw e

  pub step-join : first_operator ≤ x → (x ≡ derive_byte → ⊥) → step F most lists x st ≡ binary (operation F most x) st
  unfolding step operate
  step-join l f = rw (le-ltb x first_operator l, ne_eqb x derive_byte f)

onto-value : {v : Valued} {c : List ℕ} (s : Stack) → v ≡ value c → onto v s ≡ stack (c ∷ s)
unfolding onto
onto-value s e = rw e

onto-refused : {v : Valued} {why : Refusal} (s : Stack) → v ≡ refused why → onto v s ≡ halted why
unfolding onto
onto-refused s e = rw e

-- a part of n words
part_length : (l : List ℕ) (from n : ℕ) → from + n ≤ length l → length (take (from + n - from) (drop from l)) ≡ n
part_length l from n h = simp (length-take, length-drop) (omega arith)

-- the stack without the list on top
pub below : {m : held.Stack} → Lying m → 1 ≤ m.top → Lying (popped m)
below {m} y some =
    let under = lower (longest-room m.field) y.st y.stacked some in
    let low = y.low in
    record { st = under.0; stacked = under.1; low = omega arith; words-room = y.words-room; sizes_room = y.sizes_room }

-- there is room for another list
pub room-above : {m : held.Stack} → Lying m → m.top < max_height → (n : ℕ) → n ≤ max_words → m.filled + n ≤ length m.words.now
room-above {m} y h n l =
    let low = filled-low (longest-room m.field) y.stacked in
    omega (arith, y.words-room)

-- a list that was put on
on_top : {m new : held.Stack} {list : List ℕ} → Pushed list m new → Lying m → m.top < max_height → (st : Stack) → StackedIn m st
    → IsList (modulus m.field) (longest m.field) list → StackedIn new (list ∷ st)
on_top {m} {new} {list} p y t st h l =
    let low = filled-low (longest-room m.field) h in
    let on = put_on h list (drop (m.filled + length list) m.words.now) l refl (omega (arith, y.words-room)) (omega (arith, y.sizes_room)) in
    rw (p.same.field, p.words, p.sizes, p.top, p.filled) on

module _ (m : held.Stack) (y : Lying m) {n : ℕ} (room : List ℕ) where
  pub derive-so : {new : held.Stack} → 1 ≤ m.top
      → ((a : List ℕ) (s : Stack) → StackedIn m (a ∷ s) → Came (modulus m.field) (longest m.field) (derived (field_at m.field) (longest m.field) a) room (Ok n))
      → Pushed (take n room) (popped m) new → Stepped (unary (derived (field_at m.field) (longest m.field))) m new (Ok tt)
  unfolding unary
  derive-so {new} some f p = (record { field = p.same.field; words = p.same.words; sizes = p.same.sizes }, go)
    where
      go : (st : Stack) → StackedIn m st → (st' : Stack) × (unary (derived (field_at m.field) (longest m.field)) st ≡ stack st') × StackedIn new st'
      go [] h = absurd (let t = h.height in omega arith)
      go (a ∷ s) h =
          let came = f a s h in
          let low = y.low in
          let list = subst (IsList (modulus m.field) (longest m.field)) (sym came.3) came.4 in
          (take n room ∷ s, onto-value s (came.1 ∙ ap value (sym came.3)), on_top p (below y some) (omega arith) s (taken a s h) list)

  -- what came has room
  pub one-fits : 1 ≤ m.top
      → ((a : List ℕ) (s : Stack) → StackedIn m (a ∷ s) → Came (modulus m.field) (longest m.field) (derived (field_at m.field) (longest m.field) a) room (Ok n))
      → n ≤ max_words
  one-fits some f = go y.st y.stacked
    where
      go : (st : Stack) → StackedIn m st → n ≤ max_words
      go [] h = absurd (let t = h.height in omega arith)
      go (a ∷ s) h = let came = f a s h in omega (arith, came.2, came.4.short, longest-room m.field)

  module _ (some : 2 ≤ m.top) (x : ℕ) where
    pub two-fit : ((b a : List ℕ) (s : Stack) → StackedIn m (b ∷ (a ∷ s)) → Came (modulus m.field) (longest m.field) (operation (field_at m.field) (longest m.field) x a b) room (Ok n))
        → n ≤ max_words
    two-fit f = go y.st y.stacked
      where
        go : (st : Stack) → StackedIn m st → n ≤ max_words
        go [] h = absurd (let t = h.height in omega arith)
        go (b ∷ []) h = absurd (let t = h.height in omega arith)
        go (b ∷ (a ∷ s)) h = let came = f b a s h in omega (arith, came.2, came.4.short, longest-room m.field)

    pub join-so : {new : held.Stack} → ((b a : List ℕ) (s : Stack) → StackedIn m (b ∷ (a ∷ s)) → Came (modulus m.field) (longest m.field) (operation (field_at m.field) (longest m.field) x a b) room (Ok n))
        → Pushed (take n room) (popped (popped m)) new → Stepped (binary (operation (field_at m.field) (longest m.field) x)) m new (Ok tt)
    unfolding binary
    join-so {new} f p = (record { field = p.same.field; words = p.same.words; sizes = p.same.sizes }, go)
      where
        go : (st : Stack) → StackedIn m st → (st' : Stack) × (binary (operation (field_at m.field) (longest m.field) x) st ≡ stack st') × StackedIn new st'
        go [] h = absurd (let t = h.height in omega arith)
        go (b ∷ []) h = absurd (let t = h.height in omega arith)
        go (b ∷ (a ∷ s)) h =
            let came = f b a s h in
            let low = y.low in
            let under = taken b (a ∷ s) h in
            let list = subst (IsList (modulus m.field) (longest m.field)) (sym came.3) came.4 in
            (take n room ∷ s, onto-value s (came.1 ∙ ap value (sym came.3)), on_top p (below (below y (omega arith)) (omega arith)) (omega arith) s (taken a s under) list)

module _ (m : held.Stack) (some : 2 ≤ m.top) (x : ℕ) where
  pub join-refused : {why : Refusal}
      → ((b a : List ℕ) (s : Stack) → StackedIn m (b ∷ (a ∷ s)) → operation (field_at m.field) (longest m.field) x a b ≡ refused why)
      → (st : Stack) → StackedIn m st → binary (operation (field_at m.field) (longest m.field) x) st ≡ halted why
  unfolding binary
  join-refused f [] h = absurd (let t = h.height in omega arith)
  join-refused f (b ∷ []) h = absurd (let t = h.height in omega arith)
  join-refused f (b ∷ (a ∷ s)) h = onto-refused s (f b a s h)

-- the two lists on top, in the words
module _ (m : held.Stack) (some : 2 ≤ m.top) {between from : ℕ} (e : between ≡ m.filled - get_or m.sizes.now (m.top - 1) 0)
    (q : from ≡ between - get_or m.sizes.now (m.top - 2) 0) (b a : List ℕ) (s : Stack) (h : StackedIn m (b ∷ (a ∷ s))) where
  pub joins : (take (m.filled - between) (drop between m.words.now) ≡ b) × (take (between - from) (drop from m.words.now) ≡ a)
  joins =
      let under = taken b (a ∷ s) h in
      let lower-size : m.top - 1 - 1 ≡ m.top - 2 = omega arith in
      let size = ap (λ i. get_or m.sizes.now i 0) lower-size in
      let start : from ≡ m.filled - get_or m.sizes.now (m.top - 1) 0 - get_or m.sizes.now (m.top - 1 - 1) 0 = omega arith in
      (top-words b (a ∷ s) h e refl, top-words a s under start (ap (λ i. i - from) e))

-- what is made of the stack, whichever it is, lies in these slices
abbrev pub Makes : held.Stack → (Stack → State) → (words sizes : List ℕ) → (top filled : ℕ) → Type 0
Makes m does words sizes top filled =
    (st : Stack) → StackedIn m st → (st' : Stack) × (does st ≡ stack st') × Stacked (modulus m.field) (longest m.field) words sizes top filled st'

module _ (m : held.Stack) (y : Lying m) where
  module _ (s : List ℕ) (x : ℕ) (passed : Passed (modulus m.field) s) (bytes : Bytes s) (l : x < first_operator) (there : x < count s) (high : m.top + 1 ≤ max_height) where
    push-held : {n : ℕ} {new : List ℕ} (st : Stack) → Stacked (modulus m.field) (longest m.field) m.words.now m.sizes.now m.top m.filled st
        → n ≡ words_read s x (take (m.filled + max_words - m.filled) (drop m.filled m.words.now))
        → new ≡ left_at s x (take (m.filled + max_words - m.filled) (drop m.filled m.words.now)) → Held (modulus m.field) (longest m.field) new n (nth_list s x)
    push-held st h f g =
        let low = filled-low (longest-room m.field) h in
        let fits : m.filled + max_words ≤ length m.words.now = omega (arith, y.words-room) in
        let size : length (take (m.filled + max_words - m.filled) (drop m.filled m.words.now)) ≡ longest m.field = part_length m.words.now m.filled max_words fits ∙ omega (arith, longest-room m.field, longest-full m.field) in
        read_held (modulus m.field) (longest m.field) s x _ passed bytes there size (longest-full m.field) f g

    -- a list of the album has at most max_words words
    pub push-few : {n : ℕ} → n ≡ words_read s x (take (m.filled + max_words - m.filled) (drop m.filled m.words.now)) → n ≤ max_words
    push-few f = let held = push-held y.st y.stacked f refl in omega (arith, held.words, held.listed.short, longest-room m.field)

    pub push-so : {n : ℕ} {new : List ℕ} (rest : List ℕ)
        → n ≡ words_read s x (take (m.filled + max_words - m.filled) (drop m.filled m.words.now))
        → new ≡ left_at s x (take (m.filled + max_words - m.filled) (drop m.filled m.words.now))
        → Makes m (step (field_at m.field) (longest m.field) (lists_of s) x) (take m.filled m.words.now ++ (new ++ rest)) (set m.sizes.now m.top n) (m.top + 1) (m.filled + n)
    unfolding padded
    push-so {n} {new} rest f g st h =
        let low = filled-low (longest-room m.field) h in
        let held = push-held st h f g in
        let c = nth_list s x in
        let zeros = replicate {A = ℕ} (longest m.field - length c) 0 in
        let on = put_on h c (zeros ++ rest) held.listed held.words (omega (arith, y.words-room)) (omega (arith, y.sizes_room)) in
        let same : new ++ rest ≡ c ++ (zeros ++ rest) = ap (λ w. w ++ rest) held.slice ∙ append_assoc c zeros rest in (
          c ∷ st,
          step_push (field_at m.field) (longest m.field) (lists_of s) x st l ∙ ap (λ a. stack (a ∷ st)) (list_at s x there),
          reword (ap (λ w. take m.filled m.words.now ++ w) (sym same)) on,
        )

-- the lists that an operation is handed
pub join-lists : (m : held.Stack) (st : Stack) → StackedIn m st → 2 ≤ m.top
    → {between from : ℕ} → between ≡ m.filled - get_or m.sizes.now (m.top - 1) 0 → from ≡ between - get_or m.sizes.now (m.top - 2) 0
    → IsList (modulus m.field) (longest m.field) (take (between - from) (drop from m.words.now))
    × IsList (modulus m.field) (longest m.field) (take (m.filled - between) (drop between m.words.now))
join-lists m [] h some e q = absurd (let t = h.height in omega arith)
join-lists m (b ∷ []) h some e q = absurd (let t = h.height in omega arith)
join-lists m (b ∷ (a ∷ s)) h some e q =
    let two = joins m some e q b a s h in
    (subst (IsList (modulus m.field) (longest m.field)) (sym two.1) h.lists.1.0, subst (IsList (modulus m.field) (longest m.field)) (sym two.0) h.lists.0)

-- what is made, by another name
pub stepped-as : {does by : Stack → State} → ((st : Stack) → by st ≡ does st) → (old new : held.Stack) (r : Result (Unit {0}) Refusal)
    → Stepped does old new r → Stepped by old new r
stepped-as same old new (Ok done) h = (h.0, λ st lies. let on = h.1 st lies in (on.0, same st ∙ on.1, on.2))
stepped-as same old new (Err why) h = λ st lies. same st ∙ h st lies

-- what a byte needs
module _ (x top : ℕ) where
  pub high-push : x < first_operator → height_behind top x ≤ max_height → top + 1 ≤ max_height
  unfolding height_behind
  high-push l h = rw (lt-ltb x first_operator l) at h

  pub some-derive : x ≡ derive_byte → operands_needed x ≤ top → 1 ≤ top
  unfolding operands_needed
  some-derive e h = rw e at h

  pub some-join : first_operator ≤ x → (x ≡ derive_byte → ⊥) → operands_needed x ≤ top → 2 ≤ top
  unfolding operands_needed
  some-join l f h = rw (le-ltb x first_operator l, ne_eqb x derive_byte f) at h

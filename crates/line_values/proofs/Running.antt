-- The run of a program, byte by byte.
--     Running          before byte i: a stack lies in the slices, from which the rest of the program ends as all of it does, and grows no higher
--                      than there is room for
--     run-start        before the first byte
--     run-ready        what the next byte finds
--     run-next         behind it
--     run-halts        where it is refused
--     run_end          at the end
-- Assumes nothing.
use mathlib.Core.Path.{◌≡◌, refl, sym, ◌∙◌, ap, subst}
use mathlib.Core.Bool.{Bool, true, false, cond}
use mathlib.Core.List.{List, [], ◌∷◌}
use Prim.Native.Nat.{ℕ, suc, ◌+◌, ◌-◌, ◌*◌, ◌≤◌, ◌<◌}
use native.Mathlib.Numerals.{add-one}
use native.Mathlib.Omega.{arith}
use lib.Dec.{eqb, ltb}
use lib.ListN.{length, get_or, take, drop, drop_of_length-le}
use lib.Seq.{drop-cons}
use Rattle.algebra.specs.PrimeField.{PrimeField}
use Rattle.refusal.specs.Limits.{max_words}
use Rattle.refusal.specs.declared.Refusal.{Refusal}
use Rattle.field.specs.Fields.{modulus, field_at, longest}
use Rattle.album_layout.specs.Layout.{count, lists_of}
use Rattle.album_layout.specs.Internal.{Passed}
use Rattle.lines.specs.Program.{derive_byte, first_operator}
use Rattle.lines.specs.Height.{height_behind, peak}
use Rattle.lines.proofs.Peak.{peak-least, peak-program}
use Rattle.line_values.specs.declared.Stack as held
use Rattle.line_values.specs.Values.{Valued, value, refused, derived}
use Rattle.line_values.specs.Internal.{max_height, Stack, State, stack, halted, stuck, onto, unary, binary, then, operation, operate, step, run, StackedIn, Empty, Ready, Stepped, Left, Runs}
use Rattle.line_values.proofs.Machine.{enough}
use Rattle.line_values.proofs.Programs.{lacks-not, bytes-known}
use Rattle.std.specs.Prelude.{Ok}

-- the height of a state's stack
abbrev height_of : State → ℕ
height_of (stack s) = length s
height_of (halted why) = 0
height_of stuck = 0

abbrev is_stack : State → Bool
is_stack (stack s) = true
is_stack (halted why) = false
is_stack stuck = false

none : (z : State) (st : Stack) → is_stack z ≡ false → z ≡ stack st → ⊥
none z st f e = let g : false ≡ true = sym f ∙ ap is_stack e in let z : ◌≡◌ {A = ℕ} 0 1 = cc in omega arith

onto-height : (v : Valued) (s st : Stack) → onto v s ≡ stack st → length st ≡ suc (length s)
unfolding onto
onto-height (value c) s st e = sym (ap height_of e)
onto-height (refused why) s st e = absurd (none (halted why) st refl e)

module _ (F : PrimeField) (most : ℕ) (lists : List (List ℕ)) where
  -- a byte changes the height as it says
  step-height : (x : ℕ) (s st : Stack) → step F most lists x s ≡ stack st → length st ≡ height_behind (length s) x
  unfolding step operate height_behind unary binary
  step-height x s st e = go (ltb x first_operator) (eqb x derive_byte) s e
    where
      go : (b d : Bool) (s : Stack) → cond b (stack (get_or lists x [] ∷ s)) (cond d (unary (derived F most) s) (binary (operation F most x) s)) ≡ stack st
          → length st ≡ cond b (length s + 1) (cond d (length s) (length s - 1))
      go true d s e = let h = ap height_of e in omega arith
      go false true [] e = absurd (none stuck st refl e)
      go false true (a ∷ s) e = onto-height (derived F most a) s st e
      go false false [] e = absurd (none stuck st refl e)
      go false false (b ∷ []) e = absurd (none stuck st refl e)
      go false false (b ∷ (a ∷ s)) e = let h = onto-height (operation F most x a b) s st e in omega arith

  -- the next byte, and the rest
  run-byte : (x : ℕ) (code : List ℕ) (s : Stack) → run F most lists (x ∷ code) s ≡ then (step F most lists x s) (λ t. run F most lists code t)
  unfolding run
  run-byte x code s = refl

  run-stack : (x : ℕ) (code : List ℕ) (s st : Stack) → step F most lists x s ≡ stack st → run F most lists (x ∷ code) s ≡ run F most lists code st
  unfolding then
  run-stack x code s st e = run-byte x code s ∙ ap (λ z. then z (λ t. run F most lists code t)) e

  run-halted : (x : ℕ) (code : List ℕ) (s : Stack) {why : Refusal} → step F most lists x s ≡ halted why → run F most lists (x ∷ code) s ≡ halted why
  unfolding then
  run-halted x code s e = run-byte x code s ∙ ap (λ z. then z (λ t. run F most lists code t)) e

peak-next : (h x : ℕ) (code : List ℕ) → (h ≤ peak h (x ∷ code)) × (peak (height_behind h x) code ≤ peak h (x ∷ code))
unfolding peak
peak-next h x code = (omega arith, omega arith)

pub record Running (s code : List ℕ) (begun m : held.Stack) (i : ℕ) : Type 0 where
  pub field : m.field ≡ begun.field
  pub words-room : length m.words.now ≡ max_height * max_words
  pub sizes_room : length m.sizes.now ≡ max_height
  pub st : Stack
  pub stacked : StackedIn m st
  pub same : run (field_at m.field) (longest m.field) (lists_of s) (drop i code) st ≡ run (field_at m.field) (longest m.field) (lists_of s) code []
  pub high : peak m.top (drop i code) ≤ max_height

module _ {s code : List ℕ} (runs : Runs s code) where
  pub run-start : (m : held.Stack) → Empty m → Running s code m m 0
  run-start m empty =
      record {
        field = refl;
        words-room = empty.words-room;
        sizes_room = empty.sizes_room;
        st = [];
        stacked = record {
          height = empty.no-list;
          size = empty.no-word;
          held = ap (λ n. take n m.words.now) empty.no-word;
          lengths = ap (λ n. take n m.sizes.now) empty.no-list;
          lists = tt;
        };
        same = refl;
        high = omega (arith, runs.low, ap (peak 0) runs.is, peak-program runs.tree runs.small, ap (λ h. peak h code) empty.no-list);
      }

  module _ {begun m : held.Stack} {i : ℕ} (r : Running s code begun m i) where
    module _ (l : i < length code) where
      next : drop i code ≡ get_or code i 0 ∷ drop (i + 1) code
      next = drop-cons code i 0 l ∙ ap (λ j. get_or code i 0 ∷ drop j code) (sym (add-one i))

      high-next : (m.top ≤ max_height) × (peak (height_behind m.top (get_or code i 0)) (drop (i + 1) code) ≤ max_height)
      high-next =
          let p = peak-next m.top (get_or code i 0) (drop (i + 1) code) in
          let q = ap (peak m.top) next in
          let h = r.high in
          (omega (arith, p.0), omega (arith, p.1))

      same_next : run (field_at m.field) (longest m.field) (lists_of s) (get_or code i 0 ∷ drop (i + 1) code) r.st
          ≡ run (field_at m.field) (longest m.field) (lists_of s) code []
      same_next = ap (λ c. run (field_at m.field) (longest m.field) (lists_of s) c r.st) (sym next) ∙ r.same

      pub run-ready : Passed (modulus begun.field) s → Ready s (get_or code i 0) m
      run-ready passed =
          let needs = enough (field_at m.field) (longest m.field) (lists_of s) runs.tree runs.small (get_or code i 0) (drop (i + 1) code) r.st
          (same_next ∙ ap (λ c. run (field_at m.field) (longest m.field) (lists_of s) c []) runs.is) in
          record {
            passed = subst (λ k. Passed (modulus k) s) (sym r.field) passed;
            there = lacks-not (count s) code runs.has i l;
            known = bytes-known runs.tree runs.small code runs.is i l;
            lying = record {
              st = r.st;
              stacked = r.stacked;
              low = high-next.0;
              words-room = r.words-room;
              sizes_room = r.sizes_room;
            };
            enough = omega (arith, r.stacked.height);
            high = omega (arith, high-next.1, peak-least (height_behind m.top (get_or code i 0)) (drop (i + 1) code));
          }

      pub run-next : {m' : held.Stack} → Stepped (step (field_at m.field) (longest m.field) (lists_of s) (get_or code i 0)) m m' (Ok tt)
          → Running s code begun m' (i + 1)
      run-next {m'} made =
          let kept = made.0 in
          let on = made.1 r.st r.stacked in
          let height = on.2.height ∙ step-height (field_at m.field) (longest m.field) (lists_of s) (get_or code i 0) r.st on.0 on.1
          ∙ ap (λ h. height_behind h (get_or code i 0)) (sym r.stacked.height) in
          let all = sym (run-stack (field_at m.field) (longest m.field) (lists_of s) (get_or code i 0) (drop (i + 1) code) r.st on.0 on.1) ∙ same_next in
          record {
            field = kept.field ∙ r.field;
            words-room = kept.words ∙ r.words-room;
            sizes_room = kept.sizes ∙ r.sizes_room;
            st = on.0;
            stacked = on.2;
            same = subst (λ k. run (field_at k) (longest k) (lists_of s) (drop (i + 1) code) on.0 ≡ run (field_at k) (longest k) (lists_of s) code []) (sym kept.field) all;
            high = subst (λ h. peak h (drop (i + 1) code) ≤ max_height) (sym height) high-next.1;
          }

      pub run-halts : {why : Refusal} → step (field_at m.field) (longest m.field) (lists_of s) (get_or code i 0) r.st ≡ halted why
          → run (field_at begun.field) (longest begun.field) (lists_of s) code [] ≡ halted why
      run-halts {why} e =
          subst (λ k. run (field_at k) (longest k) (lists_of s) code [] ≡ halted why) r.field
          (sym same_next ∙ run-halted (field_at m.field) (longest m.field) (lists_of s) (get_or code i 0) (drop (i + 1) code) r.st e)

    pub run_end : length code ≤ i
        → Left (run (field_at begun.field) (longest begun.field) (lists_of s) code []) begun.field m.filled m.words.now
    unfolding run
    run_end l =
        let h = r.stacked in
        subst (λ k. Left (run (field_at k) (longest k) (lists_of s) code []) k m.filled m.words.now) r.field
        (record {
          st = r.st;
          is = sym r.same ∙ ap (λ c. run (field_at m.field) (longest m.field) (lists_of s) c r.st) (drop_of_length-le code l);
          size = h.size;
          held = h.held;
          lists = h.lists;
        })

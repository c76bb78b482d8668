-- The program of a tree leaves the tree's value on the stack.
--     run_on          and the rest of a program goes on from there
--     run-program     where the program is all there is
--     enough          a program that does not get stuck finds the operands of its first byte on the stack
-- Assumes nothing.
use mathlib.Core.Path.{◌≡◌, refl, sym, ap, fun_ext, ◌∙◌}
use mathlib.Core.Bool.{Bool, true, false, cond}
use mathlib.Core.List.{List, [], ◌∷◌, ◌++◌, append_assoc, append-nil}
use Prim.Native.Nat.{ℕ, ◌≤◌, ◌<◌}
use native.Mathlib.Decide.{dec_le}
use native.Mathlib.Omega.{arith}
use lib.Dec.{eqb, ltb}
use lib.ListN.{length, get_or}
use borrow.Author.Tests.{lt-ltb}
use Rattle.algebra.specs.PrimeField.{PrimeField}
use Rattle.lines.specs.Grammar.{Tree, list, sum, difference, product, derivative}
use Rattle.lines.specs.Program.{add_byte, subtract_byte, multiply_byte, derive_byte, first_operator, postfix, Small}
use Rattle.line_values.specs.Values.{Valued, value, refused, both, one, added, subtracted, multiplied, derived, value_of}
use Rattle.line_values.specs.Internal.{Stack, State, stack, halted, stuck, onto, binary, unary, then, operation, operate, step, run, operands_needed}

-- two operands and their operator
pair : (f : List ℕ → List ℕ → Valued) (a b : Valued) (s : Stack) (next : Stack → State)
    → then (onto a s) (λ t. then (onto b t) (λ u. then (binary f u) next)) ≡ then (onto (both f a b) s) next
unfolding then onto binary both
pair f (value a) (value b) s next = refl
pair f (value a) (refused why) s next = refl
pair f (refused why) b s next = refl

single : (f : List ℕ → Valued) (a : Valued) (s : Stack) (next : Stack → State)
    → then (onto a s) (λ t. then (unary f t) next) ≡ then (onto (one f a) s) next
unfolding then onto unary one
single f (value a) s next = refl
single f (refused why) s next = refl

module _ (F : PrimeField) (most : ℕ) (lists : List (List ℕ)) where
  operand : (n : ℕ) → n < first_operator → (rest : List ℕ) (s : Stack)
      → run F most lists (n ∷ rest) s ≡ then (onto (value (get_or lists n [])) s) (run F most lists rest)
  unfolding run step onto then
  operand n h rest s = rw (lt-ltb n first_operator h)

  operator : (f : List ℕ → List ℕ → Valued) (a b : Tree) (x : ℕ) (rest : List ℕ) (s : Stack)
      → ((r : List ℕ) (s : Stack) → run F most lists (postfix a ++ r) s ≡ then (onto (value_of F most lists a) s) (run F most lists r))
      → ((r : List ℕ) (s : Stack) → run F most lists (postfix b ++ r) s ≡ then (onto (value_of F most lists b) s) (run F most lists r))
      → ((t : Stack) → run F most lists (x ∷ rest) t ≡ then (binary f t) (run F most lists rest))
      → run F most lists ((postfix a ++ postfix b ++ (x ∷ [])) ++ rest) s
      ≡ then (onto (both f (value_of F most lists a) (value_of F most lists b)) s) (run F most lists rest)
  operator f a b x rest s p q o =
      simp append_assoc
      (p (postfix b ++ x ∷ rest) s
      ∙ ap (then (onto (value_of F most lists a) s)) (fun_ext (λ t. q (x ∷ rest) t ∙ ap (then (onto (value_of F most lists b) t)) (fun_ext o)))
      ∙ pair f (value_of F most lists a) (value_of F most lists b) s (run F most lists rest))

  pub run_on : (e : Tree) → Small e → (rest : List ℕ) (s : Stack)
      → run F most lists (postfix e ++ rest) s ≡ then (onto (value_of F most lists e) s) (run F most lists rest)
  unfolding postfix value_of run step operate operation
  run_on (list n) h rest s = operand n h rest s
  run_on (sum a b) h rest s = operator (added F most) a b add_byte rest s (run_on a h.0) (run_on b h.1) (λ t. refl)
  run_on (difference a b) h rest s = operator (subtracted F most) a b subtract_byte rest s (run_on a h.0) (run_on b h.1) (λ t. refl)
  run_on (product a b) h rest s = operator (multiplied F most) a b multiply_byte rest s (run_on a h.0) (run_on b h.1) (λ t. refl)
  run_on (derivative a) h rest s =
      simp append_assoc (run_on a h (derive_byte ∷ rest) s ∙ single (derived F most) (value_of F most lists a) s (run F most lists rest))

  left_over : (v : Valued) → then (onto v []) (run F most lists []) ≡ onto v []
  unfolding run then onto
  left_over (value a) = refl
  left_over (refused why) = refl

  pub run-program : (e : Tree) → Small e → run F most lists (postfix e) [] ≡ onto (value_of F most lists e) []
  run-program e h = rw append-nil at (run_on e h [] []) ∙ left_over (value_of F most lists e)

-- a value never leaves the run stuck
abbrev is_stuck : State → Bool
is_stuck (stack s) = false
is_stuck (halted why) = false
is_stuck stuck = true

onto-runs : (v : Valued) → is_stuck (onto v []) ≡ false
unfolding onto
onto-runs (value c) = refl
onto-runs (refused why) = refl

clash : false ≡ true → ⊥
clash e = let z : ◌≡◌ {A = ℕ} 0 1 = cc in omega arith

module _ (F : PrimeField) (most : ℕ) (lists : List (List ℕ)) where
  few_stuck : (x : ℕ) (code : List ℕ) (s : Stack) → length s < operands_needed x → is_stuck (run F most lists (x ∷ code) s) ≡ true
  unfolding run step operate then binary unary operands_needed
  few_stuck x code s l = go (ltb x first_operator) (eqb x derive_byte) s l
    where
      go : (b d : Bool) (s : Stack) → length s < cond b 0 (cond d 1 2)
          → is_stuck (then (cond b (stack (get_or lists x [] ∷ s)) (cond d (unary (derived F most) s) (binary (operation F most x) s))) (λ t. run F most lists code t)) ≡ true
      go true d s l = absurd (omega arith)
      go false true [] l = refl
      go false true (a ∷ s) l = absurd (omega arith)
      go false false [] l = refl
      go false false (b ∷ []) l = refl
      go false false (b ∷ (a ∷ s)) l = absurd (omega arith)

  pub enough : (e : Tree) → Small e → (x : ℕ) (code : List ℕ) (s : Stack)
      → run F most lists (x ∷ code) s ≡ run F most lists (postfix e) [] → operands_needed x ≤ length s
  enough e h x code s q = go (dec_le (operands_needed x) (length s))
    where
      go : Dec (operands_needed x ≤ length s) → operands_needed x ≤ length s
      go (yes l) = l
      go (no f) =
          absurd
          (clash
          (sym (onto-runs (value_of F most lists e))
          ∙ ap is_stuck (sym (q ∙ run-program F most lists e h))
          ∙ few_stuck x code s (omega arith)))

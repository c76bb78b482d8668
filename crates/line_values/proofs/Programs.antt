-- A tree lacks a list of an album exactly where its tokens do, and where its program does.
--     lacks-tokens      of tokens and the tree that they read as
--     lacks-program     of a tree and its program
--     lacks-not         a program that lacks none: each of its operands is the number of a list
--     one-operand, one-operator             the tests of one byte
--     any-lacks                             the search for an operand that the album lacks
--     bytes-known                           no byte of a program is higher than the operators
-- Assumes nothing.
use mathlib.Core.Path.{◌≡◌, refl, sym, ap, ap₂, ◌∙◌, subst}
use mathlib.Core.Bool.{Bool, true, false, ◌||◌}
use mathlib.Core.List.{List, [], ◌∷◌, ◌++◌}
use Prim.Native.Nat.{ℕ, zero, suc, ◌≤◌, ◌<◌}
use native.Mathlib.Omega.{arith}
use lib.Dec.{leb}
use lib.ListN.{length, get_or}
use Rattle.std.specs.List.{All, list_any}
use Rattle.std.proofs.lemmas.List.Elements.{All-append, All-get_or}
use borrow.Author.Tests.{lt-ltb, le-ltb, leb-false}
use Rattle.refusal.proofs.First.{or-false}
use Rattle.lines.specs.declared.Token.{Token}
use Rattle.lines.specs.declared.Token.TheVariants.{Number, Plus, Minus, Times, Derive, Open, Close, Wrong}
use Rattle.lines.specs.Grammar.{Tree, list, sum, difference, product, derivative, Part}
use Rattle.lines.specs.Grammar.{Reads, lone_term, added, subtracted, lone_factor, multiplied, number, derived, in_parentheses}
use Rattle.lines.specs.Program.{add_byte, subtract_byte, multiply_byte, derive_byte, first_operator, postfix, Small}
use Rattle.line_values.specs.Values.{lacks}
use Rattle.line_values.specs.Calls.{lacks_number}
use Rattle.line_values.specs.Internal.{lacks_one, lacks_byte}

or_assoc : (a b c : Bool) → ((a || b) || c) ≡ (a || (b || c))
or_assoc true b c = refl
or_assoc false b c = refl

or-none : (a : Bool) → (a || false) ≡ a
or-none true = refl
or-none false = refl

pub one-operand : (n x : ℕ) → x < first_operator → lacks_one n x ≡ leb n x
unfolding lacks_one
one-operand n x l = rw (lt-ltb x first_operator l)

pub one-operator : (n x : ℕ) → first_operator ≤ x → lacks_one n x ≡ false
unfolding lacks_one
one-operator n x l = rw (le-ltb x first_operator l)

module _ (n : ℕ) where
  lacks-append : (c d : List ℕ) → lacks_byte n (c ++ d) ≡ (lacks_byte n c || lacks_byte n d)
  unfolding lacks_byte
  lacks-append [] d = refl
  lacks-append (x ∷ c) d =
      ap (λ b. lacks_one n x || b) (lacks-append c d) ∙ sym (or_assoc (lacks_one n x) (lacks_byte n c) (lacks_byte n d))

  -- an operator, which is no operand, behind its operands
  operator : (a : List ℕ) (x : ℕ) → first_operator ≤ x → lacks_byte n (a ++ (x ∷ [])) ≡ lacks_byte n a
  unfolding lacks_byte
  operator a x l = lacks-append a (x ∷ []) ∙ ap (λ t. lacks_byte n a || (t || false)) (one-operator n x l) ∙ or-none (lacks_byte n a)

  pub lacks-program : (e : Tree) → Small e → lacks_byte n (postfix e) ≡ lacks n e
  unfolding postfix lacks lacks_byte
  lacks-program (list k) h = or-none (lacks_one n k) ∙ one-operand n k h
  lacks-program (sum a b) h =
      operator (postfix a ++ postfix b) add_byte (omega arith)
      ∙ lacks-append (postfix a) (postfix b) ∙ ap₂ (λ c d. c || d) (lacks-program a h.0) (lacks-program b h.1)
  lacks-program (difference a b) h =
      operator (postfix a ++ postfix b) subtract_byte (omega arith)
      ∙ lacks-append (postfix a) (postfix b) ∙ ap₂ (λ c d. c || d) (lacks-program a h.0) (lacks-program b h.1)
  lacks-program (product a b) h =
      operator (postfix a ++ postfix b) multiply_byte (omega arith)
      ∙ lacks-append (postfix a) (postfix b) ∙ ap₂ (λ c d. c || d) (lacks-program a h.0) (lacks-program b h.1)
  lacks-program (derivative a) h = operator (postfix a) derive_byte (omega arith) ∙ lacks-program a h

  pub lacks-not : (code : List ℕ) → lacks_byte n code ≡ false → (i : ℕ) → i < length code → get_or code i 0 < first_operator → get_or code i 0 < n
  unfolding lacks_byte
  lacks-not [] e i l h = absurd (omega arith)
  lacks-not (x ∷ code) e zero l h = leb-false n x (sym (one-operand n x h) ∙ (or-false (lacks_one n x) (lacks_byte n code) e).0)
  lacks-not (x ∷ code) e (suc i) l h = lacks-not code (or-false (lacks_one n x) (lacks_byte n code) e).1 i (omega arith) h

  -- whether some byte is such an operand
  pub any-lacks : (code : List ℕ) → list_any (lacks_one n) code ≡ lacks_byte n code
  unfolding lacks_byte
  any-lacks [] = refl
  any-lacks (x ∷ code) = ap (λ b. lacks_one n x || b) (any-lacks code)

-- one byte, and two programs and an operator
one-known : (x : ℕ) → x ≤ derive_byte → All (λ x. x ≤ derive_byte) (x ∷ [])
one-known x l zero d h = l
one-known x l (suc k) d h = absurd (omega arith)

two-known : (a b : Tree) (x : ℕ) → x ≤ derive_byte → All (λ x. x ≤ derive_byte) (postfix a) → All (λ x. x ≤ derive_byte) (postfix b)
    → All (λ x. x ≤ derive_byte) (postfix a ++ postfix b ++ (x ∷ []))
two-known a b x l f g =
    All-append (λ x. x ≤ derive_byte) (postfix a ++ postfix b) (x ∷ []) (All-append (λ x. x ≤ derive_byte) (postfix a) (postfix b) f g) (one-known x l)

-- no byte of a program is higher than the operators
all-known : (e : Tree) → Small e → All (λ x. x ≤ derive_byte) (postfix e)
unfolding postfix
all-known (list k) h = one-known k (omega arith)
all-known (sum a b) h = two-known a b add_byte (omega arith) (all-known a h.0) (all-known b h.1)
all-known (difference a b) h = two-known a b subtract_byte (omega arith) (all-known a h.0) (all-known b h.1)
all-known (product a b) h = two-known a b multiply_byte (omega arith) (all-known a h.0) (all-known b h.1)
all-known (derivative a) h = All-append (λ x. x ≤ derive_byte) (postfix a) (derive_byte ∷ []) (all-known a h) (one-known derive_byte (omega arith))

pub bytes-known : (e : Tree) → Small e → (code : List ℕ) → code ≡ postfix e → (i : ℕ) → i < length code → get_or code i 0 ≤ derive_byte
bytes-known e h code is i l = All-get_or (λ x. x ≤ derive_byte) code i 0 l (subst (All (λ x. x ≤ derive_byte)) (sym is) (all-known e h))

-- the tokens that read as a tree
module _ (n : ℕ) where
  numbers-append : (s t : List Token) → lacks_number n (s ++ t) ≡ (lacks_number n s || lacks_number n t)
  unfolding lacks_number
  numbers-append [] t = refl
  numbers-append (Number k ∷ s) t = ap (λ b. leb n k || b) (numbers-append s t) ∙ sym (or_assoc (leb n k) (lacks_number n s) (lacks_number n t))
  numbers-append (Plus ∷ s) t = numbers-append s t
  numbers-append (Minus ∷ s) t = numbers-append s t
  numbers-append (Times ∷ s) t = numbers-append s t
  numbers-append (Derive ∷ s) t = numbers-append s t
  numbers-append (Open ∷ s) t = numbers-append s t
  numbers-append (Close ∷ s) t = numbers-append s t
  numbers-append (Wrong ∷ s) t = numbers-append s t

  -- two operands
  pair : (s t : List Token) (a b : Tree) → lacks_number n s ≡ lacks n a → lacks_number n t ≡ lacks n b
      → lacks_number n (s ++ t) ≡ (lacks n a || lacks n b)
  pair s t a b e f = numbers-append s t ∙ ap₂ (λ c d. c || d) e f

  pub lacks-tokens : {r : Part} {s : List Token} {a : Tree} → Reads r s a → lacks_number n s ≡ lacks n a
  unfolding lacks_number lacks
  lacks-tokens (lone_term x) = lacks-tokens x
  lacks-tokens (added {s = s} {t = t} {a = a} {b = b} x y) = pair s (Plus ∷ t) a b (lacks-tokens x) (lacks-tokens y)
  lacks-tokens (subtracted {s = s} {t = t} {a = a} {b = b} x y) = pair s (Minus ∷ t) a b (lacks-tokens x) (lacks-tokens y)
  lacks-tokens (lone_factor x) = lacks-tokens x
  lacks-tokens (multiplied {s = s} {t = t} {a = a} {b = b} x y) = pair s (Times ∷ t) a b (lacks-tokens x) (lacks-tokens y)
  lacks-tokens (number {n = k}) = or-none (leb n k)
  lacks-tokens (derived x) = lacks-tokens x
  lacks-tokens (in_parentheses {s = s} x) = numbers-append s (Close ∷ []) ∙ or-none (lacks_number n s) ∙ lacks-tokens x

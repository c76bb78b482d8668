-- The height of the stack along a program.
--     peak-on          along the program of a tree, and what follows it
-- Theorem:
--     peak-program     along the program of a tree it grows to what the tree needs
-- Assumes nothing.
use mathlib.Core.Path.{◌≡◌, refl, ap, ◌∙◌}
use mathlib.Core.List.{List, [], ◌∷◌, ◌++◌, append_assoc, append-nil}
use Prim.Native.Nat.{ℕ, ◌+◌, ◌-◌, ◌<◌, ◌≤◌, max}
use native.Mathlib.Omega.{arith}
use borrow.Author.Tests.{lt-ltb}
use Rattle.lines.specs.Grammar.{Tree, list, sum, difference, product, derivative}
use Rattle.lines.specs.Program.{add_byte, subtract_byte, multiply_byte, derive_byte, first_operator, postfix, Small}
use Rattle.lines.specs.Height.{needed, height_behind, peak}

pub peak-least : (h : ℕ) (code : List ℕ) → h ≤ peak h code
unfolding peak
peak-least h [] = omega arith
peak-least h (x ∷ code) = omega arith

needed-least : (e : Tree) → 1 ≤ needed e
needed-least (list n) = omega arith
needed-least (sum a b) = omega arith
needed-least (difference a b) = omega arith
needed-least (product a b) = omega arith
needed-least (derivative a) = needed-least a

push : (h n : ℕ) (rest : List ℕ) → n < first_operator → peak h (n ∷ rest) ≡ max h (peak (h + 1) rest)
unfolding peak height_behind
push h n rest l = rw (lt-ltb n first_operator l)

-- an operator of two operands takes one list off
binary : (x h : ℕ) (rest : List ℕ) → height_behind (h + 1 + 1) x ≡ h + 1 + 1 - 1
    → peak (h + 1 + 1) (x ∷ rest) ≡ max (h + 1 + 1) (peak (h + 1) rest)
unfolding peak
binary x h rest e =
    let f : h + 1 + 1 - 1 ≡ h + 1 = omega arith in
    ap (λ (j : ℕ). max (h + 1 + 1) (peak j rest)) (e ∙ f)

unary : (h : ℕ) (rest : List ℕ) → peak h (derive_byte ∷ rest) ≡ max h (peak h rest)
unfolding peak height_behind
unary h rest = refl

operator : (a b : Tree) (x h : ℕ) (rest : List ℕ) → height_behind (h + 1 + 1) x ≡ h + 1 + 1 - 1
    → ((h : ℕ) (rest : List ℕ) → peak h (postfix a ++ rest) ≡ max (h + needed a) (peak (h + 1) rest))
    → ((h : ℕ) (rest : List ℕ) → peak h (postfix b ++ rest) ≡ max (h + needed b) (peak (h + 1) rest))
    → peak h ((postfix a ++ postfix b ++ (x ∷ [])) ++ rest) ≡ max (h + max (needed a) (1 + needed b)) (peak (h + 1) rest)
operator a b x h rest e p q =
    simp append_assoc
    (omega (arith, p h (postfix b ++ x ∷ rest), q (h + 1) (x ∷ rest), binary x h rest e, needed-least b))

pub peak-on : (e : Tree) → Small e → (h : ℕ) (rest : List ℕ) → peak h (postfix e ++ rest) ≡ max (h + needed e) (peak (h + 1) rest)
unfolding postfix height_behind
peak-on (list n) l h rest = omega (arith, push h n rest l, peak-least (h + 1) rest)
peak-on (sum a b) l h rest = operator a b add_byte h rest refl (peak-on a l.0) (peak-on b l.1)
peak-on (difference a b) l h rest = operator a b subtract_byte h rest refl (peak-on a l.0) (peak-on b l.1)
peak-on (product a b) l h rest = operator a b multiply_byte h rest refl (peak-on a l.0) (peak-on b l.1)
peak-on (derivative a) l h rest =
    simp append_assoc (omega (arith, peak-on a l h (derive_byte ∷ rest), unary (h + 1) rest, needed-least a))

pub peak-program : (e : Tree) → Small e → peak 0 (postfix e) ≡ needed e
unfolding peak
peak-program e l = omega (arith, peak-on e l 0 [], ap (peak 0) (append-nil (postfix e)), needed-least e)

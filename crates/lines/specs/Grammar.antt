-- The grammar of a line of algebra: the tokens that its bytes say, and the trees that tokens read as.
--     is_digit             the byte is a decimal digit
--     sign_of              the token of a byte that is no digit and no space
--     lone                what a byte says by itself: a space nothing, any other byte one token
--     tokens              the tokens of a line: two digits that touch are one number
--     Tree                what an expression says to do with the lists of an album
--     Part                what is read: an expression, a term or a factor
--     Reads               these tokens read as this tree. An expression is a term, or an expression, + or -, and a term; a term is a
--                         factor, or a term, * and a factor; a factor is a number, D and a factor, or an expression in parentheses
--     open_behind          the parentheses open behind a byte, of so many open before it
--     deepest              the most parentheses that are open together along a line, from so many open before it
-- The bytes: space 32, ( 40, ) 41, * 42, + 43, - 45, digits 48 to 57, D 68.
-- Theorems (proofs/Readings): only-reading    tokens read as at most one tree
-- Assumes nothing.
use Rattle.std.specs.Prelude.{Bool, cond, ◌&&◌, List, [], ◌∷◌, ◌++◌, ℕ, ◌+◌, ◌*◌, ◌-◌, max, eqb, leb}
use Rattle.lines.specs.declared.Token.{Token}
use Rattle.lines.specs.declared.Token.TheVariants.{Number, Plus, Minus, Times, Derive, Open, Close, Wrong}

unfoldable pub is_digit : ℕ → Bool
is_digit b = leb 48 b && leb b 57

unfoldable pub sign_of : ℕ → Token
sign_of b =
    cond (eqb b 43) Plus
    (cond (eqb b 45) Minus
    (cond (eqb b 42) Times
    (cond (eqb b 68) Derive
    (cond (eqb b 40) Open
    (cond (eqb b 41) Close Wrong)))))

unfoldable pub lone : ℕ → List Token
lone b = cond (eqb b 32) [] (cond (is_digit b) (Number (b - 48)) (sign_of b) ∷ [])

unfoldable pub tokens : List ℕ → List Token
tokens [] = []
tokens (a ∷ []) = lone a
tokens (a ∷ (b ∷ s)) =
    let two = Number (10 * (a - 48) + (b - 48)) ∷ tokens s in
    let one = lone a ++ tokens (b ∷ s) in
    cond (is_digit a && is_digit b) two one

pub data Tree : Type 0 where
  list : ℕ → Tree
  sum difference product : Tree → Tree → Tree
  derivative : Tree → Tree

pub data Part : Type 0 where
  expression term factor : Part

pub data Reads : Part → List Token → Tree → Type 0 where
  lone_term : {s : List Token} {a : Tree} → Reads term s a → Reads expression s a
  added : {s t : List Token} {a b : Tree} → Reads expression s a → Reads term t b → Reads expression (s ++ Plus ∷ t) (sum a b)
  subtracted : {s t : List Token} {a b : Tree} → Reads expression s a → Reads term t b → Reads expression (s ++ Minus ∷ t) (difference a b)
  lone_factor : {s : List Token} {a : Tree} → Reads factor s a → Reads term s a
  multiplied : {s t : List Token} {a b : Tree} → Reads term s a → Reads factor t b → Reads term (s ++ Times ∷ t) (product a b)
  number : {n : ℕ} → Reads factor (Number n ∷ []) (list n)
  derived : {s : List Token} {a : Tree} → Reads factor s a → Reads factor (Derive ∷ s) (derivative a)
  in_parentheses : {s : List Token} {a : Tree} → Reads expression s a → Reads factor (Open ∷ s ++ Close ∷ []) a

unfoldable pub open_behind : ℕ → ℕ → ℕ
open_behind before b = cond (eqb b 40) (before + 1) (cond (eqb b 41) (before - 1) before)

unfoldable pub deepest : ℕ → List ℕ → ℕ
deepest before [] = before
deepest before (b ∷ s) = max before (deepest (open_behind before b) s)

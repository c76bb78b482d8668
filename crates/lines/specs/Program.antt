-- The program of a line: what its tree says to do, operands before their operator. A byte below first_operator is the number of a list,
-- which goes on a stack; any other byte is an operator, which takes its operands from the stack and puts its result there.
--     add_byte, subtract_byte, multiply_byte, derive_byte     the operators +, -, * and D
--     byte_of            the byte of an operator
--     operator_at        the operator that a byte is
--     first_operator     the lowest of them
--     postfix            the program of a tree
--     Small              every operand of the tree is below the operators
-- Theorems (proofs/Operands): reading_small    the tree that a line reads as is small, since a number has at most two digits
-- Assumes nothing.
use Rattle.std.specs.Prelude.{cond, eqb, List, [], ◌∷◌, ◌++◌, ℕ, ◌<◌, Result, Ok, Err}
use Rattle.lines.specs.declared.Operator.{Operator}
use Rattle.lines.specs.declared.Operator.TheVariants.{Add, Subtract, Multiply, Derive}
use Rattle.lines.specs.Grammar.{Tree, list, sum, difference, product, derivative}

abbrev pub add_byte : ℕ
add_byte = 100

abbrev pub subtract_byte : ℕ
subtract_byte = 101

abbrev pub multiply_byte : ℕ
multiply_byte = 102

abbrev pub derive_byte : ℕ
derive_byte = 103

abbrev pub byte_of : Operator → ℕ
byte_of Add = add_byte
byte_of Subtract = subtract_byte
byte_of Multiply = multiply_byte
byte_of Derive = derive_byte

abbrev pub operator_at : ℕ → Result Operator ℕ
operator_at x =
    cond (eqb x add_byte) (Ok Add)
    (cond (eqb x subtract_byte) (Ok Subtract)
    (cond (eqb x multiply_byte) (Ok Multiply)
    (cond (eqb x derive_byte) (Ok Derive) (Err x))))

abbrev pub first_operator : ℕ
first_operator = 100

unfoldable pub postfix : Tree → List ℕ
postfix (list n) = n ∷ []
postfix (sum a b) = postfix a ++ postfix b ++ (add_byte ∷ [])
postfix (difference a b) = postfix a ++ postfix b ++ (subtract_byte ∷ [])
postfix (product a b) = postfix a ++ postfix b ++ (multiply_byte ∷ [])
postfix (derivative a) = postfix a ++ (derive_byte ∷ [])

abbrev pub Small : Tree → Type 0
Small (list n) = n < first_operator
Small (sum a b) = Small a × Small b
Small (difference a b) = Small a × Small b
Small (product a b) = Small a × Small b
Small (derivative a) = Small a

-- What a byte is.
--     operator-byte     an operator's byte is that operator
--     operator-high     which is no operand
--     derive-only       D alone has its byte
-- Assumes nothing.
use mathlib.Core.Path.{◌≡◌, refl, ap, ◌∙◌}
use mathlib.Core.Bool.{Bool, true, false, cond}
use Prim.Native.Nat.{ℕ, ◌≤◌}
use native.Mathlib.Omega.{arith}
use lib.Dec.{eqb}
use borrow.Author.Tests.{eqb-true}
use Rattle.std.specs.Prelude.{Result, Ok, Err}
use Rattle.lines.specs.declared.Operator.{Operator}
use Rattle.lines.specs.declared.Operator.TheVariants.{Add, Subtract, Multiply, Derive}
use Rattle.lines.specs.Program.{add_byte, subtract_byte, multiply_byte, derive_byte, byte_of, operator_at, first_operator}

pub operator-byte : (x : ℕ) (o : Operator) → operator_at x ≡ Ok o → x ≡ byte_of o
operator-byte x o e = go (eqb x add_byte) (eqb x subtract_byte) (eqb x multiply_byte) (eqb x derive_byte) refl refl refl refl e
  where
    is : {o p : Operator} → ◌≡◌ {A = Result Operator ℕ} (Ok o) (Ok p) → byte_of o ≡ byte_of p
    is e = ap byte_of (cc)

    go : (a b c d : Bool) → eqb x add_byte ≡ a → eqb x subtract_byte ≡ b → eqb x multiply_byte ≡ c → eqb x derive_byte ≡ d
        → ◌≡◌ {A = Result Operator ℕ} (cond a (Ok Add) (cond b (Ok Subtract) (cond c (Ok Multiply) (cond d (Ok Derive) (Err x))))) (Ok o)
        → x ≡ byte_of o
    go true b c d p q r s e = eqb-true x add_byte p ∙ is e
    go false true c d p q r s e = eqb-true x subtract_byte q ∙ is e
    go false false true d p q r s e = eqb-true x multiply_byte r ∙ is e
    go false false false true p q r s e = eqb-true x derive_byte s ∙ is e
    go false false false false p q r s e = absurd (cc)

pub operator-high : (o : Operator) → first_operator ≤ byte_of o
operator-high Add = omega arith
operator-high Subtract = omega arith
operator-high Multiply = omega arith
operator-high Derive = omega arith

pub derive-only : (o : Operator) → byte_of o ≡ derive_byte → o ≡ Derive
derive-only Add e = absurd (omega arith)
derive-only Subtract e = absurd (omega arith)
derive-only Multiply e = absurd (omega arith)
derive-only Derive e = refl

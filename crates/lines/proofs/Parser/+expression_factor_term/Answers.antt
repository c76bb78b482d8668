-- The methods `expression`, `term` and `factor` of `lines::Parser` meet their contracts: one law of proofs/Parsers for each way through them.
-- Assumes nothing.
use Rattle.std.proofs.Common.{rules}
use Rattle.lines.proofs.Turns.{none_left, none-begins, derive-fails, group-fails}
use Rattle.lines.proofs.Parsers.{number-parsed, derived-parsed, group-parsed, group-unended, group-unclosed}
use Rattle.lines.proofs.Parsers.{product-turned, product-failed, sum-turned, sum-failed}
use Rattle.lines.proofs.Parser.+expression_factor_term.Goals as goal

-- no term behind an operator: nothing is read
pub expression-returns-in_err-term-2 : goal.expression-returns-in_err-term-2
expression-returns-in_err-term-2 t c =
    rw c.from_residual-in_err-term-2.ensures (sum-failed c.loop-operator.invariant c.in-Some.ensures c.in_err-term-2.ensures)

-- a turn: one term more has been read
pub expression-loop-operator-preserved : goal.expression-loop-operator-preserved
expression-loop-operator-preserved t c =
    sum-turned c.loop-operator.invariant c.in-Some.ensures c.requires c.in_ok-term-2.ensures c.from.ensures c.write.ensures

-- no factor behind *: nothing is read
pub term-returns-in_err-factor-2 : goal.term-returns-in_err-factor-2
term-returns-in_err-factor-2 t c =
    rw c.from_residual-in_err-factor-2.ensures (product-failed c.loop-after.invariant c.in-Some.ensures c.in_err-factor-2.ensures)

-- a turn: one factor more has been read
pub term-loop-after-preserved : goal.term-loop-after-preserved
term-loop-after-preserved t c =
    product-turned c.loop-after.invariant c.in-Some.ensures c.requires c.in_ok-factor-2.ensures c.from.ensures c.write.ensures

-- no token is left: nothing is read
pub factor-returns-in_err-token : goal.factor-returns-in_err-token
factor-returns-in_err-token t c = rw c.from_residual.ensures (λ k. rw c.in_err-token.ensures (none_left k))

-- no factor behind D: nothing is read
pub factor-returns-in_err-factor-in-Derive : goal.factor-returns-in_err-factor-in-Derive
factor-returns-in_err-factor-in-Derive t c =
    let f = rw c.in-Derive.is at c.in_ok-token.ensures in
    rw c.from_residual-in_err-factor-in-Derive.ensures (derive-fails _ _ _ f c.in_err-factor-in-Derive.ensures)

-- no expression behind an opening parenthesis: nothing is read
pub factor-returns-in_err-expression-in-Open : goal.factor-returns-in_err-expression-in-Open
factor-returns-in_err-expression-in-Open t c =
    let f = rw c.in-Open.is at c.in_ok-token.ensures in
    rw c.from_residual-in_err-expression-in-Open.ensures (group-fails _ _ _ f c.in_err-expression-in-Open.ensures)

-- no token is left behind the expression: nothing is read
pub factor-returns-in_err-beyond-in-Open : goal.factor-returns-in_err-beyond-in-Open
factor-returns-in_err-beyond-in-Open t c =
    let f = rw c.in-Open.is at c.in_ok-token.ensures in
    rw c.from_residual-in_err-beyond-in-Open.ensures (group-unended f c.in_ok-expression-in-Open.ensures c.in_err-beyond-in-Open.ensures)

-- another token than the closing parenthesis: nothing is read
pub factor-returns-in_default-2 : goal.factor-returns-in_default-2
factor-returns-in_default-2 t c =
    let f = rw c.in-Open.is at c.in_ok-token.ensures in
    group-unclosed f c.in_ok-expression-in-Open.ensures c.in_ok-beyond-in-Open.ensures (search rules)

-- the factor is a number
pub factor-returns-in-Number : goal.factor-returns-in-Number
factor-returns-in-Number t c =
    let f = rw c.in-Number.is at c.in_ok-token.ensures in
    number-parsed c.requires f c.write.ensures

-- the factor is D and a factor
pub factor-returns-in_ok-factor-in-Derive : goal.factor-returns-in_ok-factor-in-Derive
factor-returns-in_ok-factor-in-Derive t c =
    let f = rw c.in-Derive.is at c.in_ok-token.ensures in
    derived-parsed c.requires f c.in_ok-factor-in-Derive.ensures c.from.ensures c.write-in-Derive.ensures

-- the factor is an expression in parentheses
pub factor-returns-in-Close-default : goal.factor-returns-in-Close-default
factor-returns-in-Close-default t c =
    let f = rw c.in-Open.is at c.in_ok-token.ensures in
    group-parsed f c.in_ok-expression-in-Open.ensures (rw c.in-Close-default.is-0 at c.in_ok-beyond-in-Open.ensures)

-- a token with which no factor begins
pub factor-returns-in_default : goal.factor-returns-in_default
factor-returns-in_default t c =
    let f = c.in_ok-token.ensures in
    let other = c.in_default in
    λ k. rw f.is (none-begins c.in_ok-token.token other.not-Number other.not-Derive other.not-Open _ k)

-- `lines::read_into` meets its contract: the tests stand in the order of the refusals.
-- Assumes nothing.
use mathlib.Core.Path.{sym, ap, ◌∙◌}
use native.Mathlib.Omega.{arith}
use lib.ListN.{take}
use Rattle.std.proofs.Common.{rules, Result}
use Rattle.refusal.specs.declared.Refusal.{Refusal}
use Rattle.std.proofs.lemmas.Result.{err_from_is_err_and}
use Rattle.lines.specs.Reader.{whole, reading_of}
use Rattle.lines.proofs.Whole.{read_whole, read_on, none-left, long, not-read, deep, fine}
use Rattle.lines.proofs.read_into.Goals as goal

-- too long
pub returns-then-line-gt-MAX_LINE-clause-refusal : goal.returns-then-line-gt-MAX_LINE-clause-refusal
returns-then-line-gt-MAX_LINE-clause-refusal c = long c.args.line.now c.if-line-gt-MAX_LINE.true

-- no expression begins the line
pub returns-in_err-ok_or-clause-refusal : goal.returns-in_err-ok_or-clause-refusal
unfolding reading_of
returns-in_err-ok_or-clause-refusal c =
    let none = rw c.in_err-ok_or.ensures.ok_part at c.expression.ensures in
    let why = rw c.in_err-ok_or.ensures.ok_part at c.in_err-ok_or.ensures.value in
    let p = err_from_is_err_and c.from_residual.result c.from_residual.ensures.1 in
    rw (p.1, p.2) (ap {A = Result (Unit {0}) Refusal} (λ r. r) why ∙ not-read c.args.line.now (none whole))

-- something stands behind the expression
pub returns-then-is_some-clause-refusal : goal.returns-then-is_some-clause-refusal
returns-then-is_some-clause-refusal c =
    let s = c.args.line.now in
    let read = rw c.in_ok-ok_or.ensures.ok_part at c.expression.ensures in
    not-read s (read_on s _ _ _ _ read.got c.token_at.result c.token_at.ensures (sym c.is_some.ensures ∙ c.if-is_some.true))

-- the line is read, and nested too deep
pub returns-then-nesting-gt-MAX_OPEN-clause-refusal : goal.returns-then-nesting-gt-MAX_OPEN-clause-refusal
returns-then-nesting-gt-MAX_OPEN-clause-refusal c =
    let s = c.args.line.now in
    let read = rw c.in_ok-ok_or.ensures.ok_part at c.expression.ensures in
    let g = read.got in
    let r = read_whole s _ _ _ _ g (none-left s _ c.token_at.result c.token_at.ensures (sym c.is_some.ensures ∙ c.if-is_some.false)) in
    deep s g.tree (omega arith) r (omega arith)

-- the line is read
pub returns-clause-refusal : goal.returns-clause-refusal
returns-clause-refusal c =
    let s = c.args.line.now in
    let read = rw c.in_ok-ok_or.ensures.ok_part at c.expression.ensures in
    let g = read.got in
    let r = read_whole s _ _ _ _ g (none-left s _ c.token_at.result c.token_at.ensures (sym c.is_some.ensures ∙ c.if-is_some.false)) in
    fine s g.tree (omega arith) r (omega arith)

pub returns-clause-program : goal.returns-clause-program
returns-clause-program c =
    let s = c.args.line.now in
    let read = rw c.in_ok-ok_or.ensures.ok_part at c.expression.ensures in
    let g = read.got in
    let r = read_whole s _ _ _ _ g (none-left s _ c.token_at.result c.token_at.ensures (sym c.is_some.ensures ∙ c.if-is_some.false)) in
    let kept = sym read.same.code in
    (g.tree, r, omega (arith, g.short, g.within), ap (take c.expression.new.self.filled) (search (rules, kept)) ∙ g.program)

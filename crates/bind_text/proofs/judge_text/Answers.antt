-- `bind_text::judge_text` meets its contract: the tests stand in the order of the numbers.
-- Assumes nothing.
use mathlib.Core.Path.{sym, ◌∙◌}
use native.Mathlib.Omega.{arith}
use Rattle.bind_text.proofs.Judged.{text-none, text-many, text-long, text-other, text-wrong, text-done}
use Rattle.bind_text.proofs.judge_text.Goals as goal
use Rattle.bind_text.proofs.judge_text.Goals.{then-lists-eq0-via-then-lists-eq0, then-lists-eq0-via-else-lists-eq0+then-lists-gt-MAX_LISTS}

pub returns-then-lists-eq0 : goal.returns-then-lists-eq0
returns-then-lists-eq0 c =
    let text = c.args.text.now in
    elim c.then-lists-eq0.branch [
      | then-lists-eq0-via-then-lists-eq0 w ↦ text-none text (omega arith)
      | then-lists-eq0-via-else-lists-eq0+then-lists-gt-MAX_LISTS w ↦ text-many text (omega arith)
    ]

pub returns-then-text-gt-MAX_INPUT : goal.returns-then-text-gt-MAX_INPUT
returns-then-text-gt-MAX_INPUT c = text-long c.args.text.now (omega arith) (omega arith) c.if-text-gt-MAX_INPUT.true

pub returns-then-has_other : goal.returns-then-has_other
returns-then-has_other c =
    let text = c.args.text.now in
    text-other text (omega arith) (omega arith) c.if-text-gt-MAX_INPUT.false (sym c.has_other.ensures ∙ c.if-has_other.true)

pub returns-then-has_wrong_line : goal.returns-then-has_wrong_line
returns-then-has_wrong_line c =
    let text = c.args.text.now in
    let plain = sym c.has_other.ensures ∙ c.if-has_other.false in
    let wrong = sym c.has_wrong_line.ensures ∙ c.if-has_wrong_line.true in
    text-wrong text (omega arith) (omega arith) c.if-text-gt-MAX_INPUT.false plain wrong

pub returns : goal.returns
returns c =
    let text = c.args.text.now in
    let plain = sym c.has_other.ensures ∙ c.if-has_other.false in
    let right = sym c.has_wrong_line.ensures ∙ c.if-has_wrong_line.false in
    text-done text (omega arith) (omega arith) c.if-text-gt-MAX_INPUT.false plain right

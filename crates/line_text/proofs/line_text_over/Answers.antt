-- `line_text::line_text_over` meets its contract: the page's text is copied to the front, and zeros follow it.
-- Assumes nothing.
use Rattle.report_text.proofs.Whole.{misfit, shown}
use Rattle.refusal.proofs.Clauses.{answer_and_writes}
use Rattle.line_text.proofs.line_text_over.Goals as goal

pub returns-then-out-ne-MAX_TEXT : goal.returns-then-out-ne-MAX_TEXT
returns-then-out-ne-MAX_TEXT c = answer_and_writes (misfit _ _ c.if-out-ne-MAX_TEXT.true)

pub returns : goal.returns
returns c =
    let page = c.put_text.new.page in
    answer_and_writes
    (shown c.args.out.now c.if-out-ne-MAX_TEXT.false (rw c.new-page.ensures.used at c.put_text.ensures) page.inside c.copy_from_slice.ensures.after
    c.clear.ensures)

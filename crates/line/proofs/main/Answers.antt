-- `line::main` is safe: the text lies in its array.
-- Assumes nothing.
use Rattle.std.proofs.Common.{sym, length-take-le}
use Rattle.report_text.proofs.Whole.{text-inside}
use Rattle.line.proofs.main.Goals as goal

pub slice_bounds-text-end : goal.slice_bounds-text-end
slice_bounds-text-end c = text-inside _ _ c.in-Ok.is c.line_text_over.ensures.answer c.line_text_over.ensures.writes

pub slice_bounds-deliver-end : goal.slice_bounds-deliver-end
slice_bounds-deliver-end c = sym (length-take-le _ _ (text-inside _ _ c.in-Ok.is c.line_text_over.ensures.answer c.line_text_over.ensures.writes))

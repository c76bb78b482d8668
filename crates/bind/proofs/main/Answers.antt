-- `bind::main` is safe: the album lies in its array.
-- Assumes nothing.
use Rattle.std.proofs.Common.{sym, length-take-le}
use Rattle.bind_text.proofs.Judged.{album-inside}
use Rattle.bind.proofs.main.Goals as goal

pub slice_bounds-album-end : goal.slice_bounds-album-end
slice_bounds-album-end c = album-inside 0 _ _ c.in-Ok.is c.bind_over.ensures.answer c.bind_over.ensures.writes

pub slice_bounds-deliver-end : goal.slice_bounds-deliver-end
slice_bounds-deliver-end c = sym (length-take-le _ _ (album-inside 0 _ _ c.in-Ok.is c.bind_over.ensures.answer c.bind_over.ensures.writes))

-- `album_writer::write_entries` meets its contract.
-- Assumes nothing.
use mathlib.Core.Path.{◌∙◌}
use native.Mathlib.Omega.{arith}
use Rattle.album_writer.proofs.Loops.{two-bytes, entries_next, entries-end}
use Rattle.album_writer.proofs.write_entries.Goals as goal

pub loop-k-preserved : goal.loop-k-preserved
loop-k-preserved c =
    let low = c.requires.low.0 c.loop-k.k in (
      omega arith,
      entries_next c.args.degrees.now c.loop-k.out c.loop-k.k c.loop-k.place (omega arith) (omega arith)
          (c.copy_from_slice.ensures.after ∙ two-bytes _ c.low.ensures c.high.ensures)
          (c.copy_from_slice-in-loop-k.ensures.after ∙ two-bytes _ c.low-in-loop-k.ensures c.high-in-loop-k.ensures)
          (omega arith)
          ∙ c.loop-k.invariant.1,
    )

pub returns : goal.returns
returns c = entries-end c.args.degrees.now c.loop-k.out c.loop-k.k c.loop-k.place (omega arith) (omega arith) ∙ c.loop-k.invariant.1

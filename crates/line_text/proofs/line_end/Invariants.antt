-- `line_text::line_end` meets its contract. The loop's invariant: the line from i on ends where the line ends.
-- Assumes nothing.
use mathlib.Core.Path.{◌≡◌}
use Prim.Native.Nat.{◌+◌}
use lib.ListN.{length, drop}
use Rattle.line_text.specs.Calls.{line_of}
use Rattle.line_text.proofs.line_end.Given as goal

abbrev pub invariant-loop-i : goal.invariant-loop-i
invariant-loop-i l = l.i + length (line_of (drop l.i l.input)) ≡ length (line_of l.input)

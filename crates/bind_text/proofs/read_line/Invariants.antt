-- `bind_text::read_line` meets its contract. The loop's invariant: the words so far are read.
-- Assumes nothing.
use mathlib.Core.Path.{◌≡◌}
use mathlib.Core.List.{map}
use lib.ListN.{length, take}
use Rattle.bind_text.specs.Text.{list_of}
use Rattle.bind_text.specs.Internal.{capped}
use Rattle.bind_text.proofs.read_line.Given as goal

abbrev pub invariant-loop-n : goal.invariant-loop-n
invariant-loop-n l = take (length l.yielded) l.out ≡ take (length l.yielded) (map capped (list_of l.line))

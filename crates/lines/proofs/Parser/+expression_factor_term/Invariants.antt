-- The measure of a call is 3 times the bytes left, and the rank of what is read: a factor 0, a term 1, an expression 2. It falls with every
-- call: a call behind a token has fewer bytes left, and any other one reads what has a lower rank.
-- The invariant of the loops: what has been read so far.
-- Assumes nothing.
use Prim.Native.Nat.{◌+◌, ◌*◌, ◌-◌}
use lib.ListN.{length}
use Rattle.lines.specs.Internal.{Read, PastProducts, PastSums}
use Rattle.lines.proofs.Parser.+expression_factor_term.Given as goal

abbrev pub decreases-expression : goal.decreases-expression
decreases-expression l = 3 * (length l.self.now.line.now - l.self.now.at) + 2

abbrev pub decreases-factor : goal.decreases-factor
decreases-factor l = 3 * (length l.self.now.line.now - l.self.now.at)

abbrev pub decreases-term : goal.decreases-term
decreases-term l = 3 * (length l.self.now.line.now - l.self.now.at) + 1

abbrev pub invariant-expression-loop-operator : goal.invariant-expression-loop-operator
invariant-expression-loop-operator l = Read PastSums l.fn.self l.self

abbrev pub decreases-expression-loop-operator : goal.decreases-expression-loop-operator
decreases-expression-loop-operator l = length l.self.line.now - l.self.at

abbrev pub invariant-term-loop-after : goal.invariant-term-loop-after
invariant-term-loop-after l = Read PastProducts l.fn.self l.self

abbrev pub decreases-term-loop-after : goal.decreases-term-loop-after
decreases-term-loop-after l = length l.self.line.now - l.self.at

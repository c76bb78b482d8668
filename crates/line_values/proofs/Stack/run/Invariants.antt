-- `line_values::Stack::run` meets its contract. The loop's invariant: the bytes so far are done, and the rest of the program ends as all of it
-- does.
-- Assumes nothing.
use Rattle.line_values.proofs.Running.{Running}
use Rattle.line_values.proofs.Stack.run.Given as goal

abbrev pub invariant-loop-x : goal.invariant-loop-x
invariant-loop-x l = Running l.album l.code l.fn.self l.self l.x-index

-- `word_strips::strip` meets its contract: each turn is one output more.
-- Assumes nothing.
use Prim.Native.Nat.{◌+◌, ◌*◌}
use Rattle.word_strips.specs.Strips.{Span}
use Rattle.word_strips.proofs.strip.Given as goal

abbrev pub invariant-loop-l : goal.invariant-loop-l
invariant-loop-l g l = Span l.w l.x (16 * l.g) (16 * l.s) (16 * l.s + l.l) l.initial.lo l.initial.hi l.lo l.hi

-- `word_strips::group` meets its contract: each turn is sixteen outputs more.
-- Assumes nothing.
use Prim.Native.Nat.{◌*◌}
use Rattle.word_strips.specs.Strips.{Span}
use Rattle.word_strips.proofs.group.Given as goal

abbrev pub invariant-loop-s : goal.invariant-loop-s
invariant-loop-s g l = Span l.w l.x (16 * l.g) 0 (16 * l.s) l.initial.lo l.initial.hi l.lo l.hi

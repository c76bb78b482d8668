-- `word_expansion::expand_in` meets its contract. The loop's invariant: the words before word k are expanded.
-- Assumes nothing.
use native.Mathlib.Omega.{arith}
use Rattle.word_expansion.proofs.Loops.{expand-start, expand-tight, expand-turn, expand-end}
use Rattle.word_expansion.proofs.expand_in.Goals as goal

pub loop-k-init : goal.loop-k-init
loop-k-init c = (omega arith, expand-start _ _ _)

pub gain-requires : goal.gain-requires
gain-requires c = expand-tight _ _ (omega arith) c.loop-k.auto.x c.requires c.loop-k.invariant.1

pub loop-k-preserved : goal.loop-k-preserved
loop-k-preserved c = (omega arith, expand-turn _ _ _ _ _ (omega arith) c.loop-k.invariant.1 c.gain.ensures)

pub returns : goal.returns
returns c = let loop = c.loop-k in expand-end _ _ _ _ _ (omega arith) loop.invariant.0 loop.auto.x (omega arith) loop.invariant.1

-- `word_expansion::gain` meets its contract. The loop's invariant: the words below i are written, and the old word before word i is at hand.
-- Assumes nothing.
use native.Mathlib.Omega.{arith}
use Rattle.word_expansion.proofs.Loops.{last-below, gain-next, gain-end}
use Rattle.word_expansion.proofs.gain.Goals as goal

pub loop-word-preserved : goal.loop-word-preserved
loop-word-preserved c =
    let loop = c.loop-word in
    gain-next _ _ loop.auto.x (omega arith) (last-below _ _ c.requires loop.invariant) loop.invariant c.taken.ensures c.sub_below.ensures

pub returns : goal.returns
returns c = let loop = c.loop-word in gain-end _ _ loop.auto.x (omega arith) loop.invariant

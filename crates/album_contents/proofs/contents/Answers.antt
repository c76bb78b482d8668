-- `album_contents::contents` meets its contract: after as many turns as there are records they stand there.
-- Assumes nothing.
use mathlib.Core.Path.{sym, ◌∙◌}
use native.Mathlib.Omega.{arith}
use Rattle.field.specs.Fields.{modulus}
use Rattle.album_contents.proofs.Records.{after_done}
use Rattle.album_contents.proofs.contents.Goals as goal

pub returns-clause-writes : goal.returns-clause-writes
returns-clause-writes c =
    c.loop-k.invariant
    ∙ after_done (modulus 0) c.args.album.now c.args.out.now (sym c.judge_contents.ensures ∙ c.in_ok-judge_contents.was) c.loop-k.k (omega arith)

-- `album_writer::words_for` meets its contract.
-- Assumes nothing.
use mathlib.Core.Path.{sym, ◌∙◌}
use Prim.Native.Nat.{◌+◌}
use Rattle.std.proofs.Common.{rules, tests}
use Rattle.std.proofs.lemmas.Iterator.{YieldsList-from_slice, YieldsList-from_map}
use Rattle.std.proofs.lemmas.Iterator.Consumers.{sum_by_from_yields_List}
use Rattle.album_writer.proofs.Loops.{words-sum}
use Rattle.album_writer.proofs.words_for.Goals as goal

pub returns : goal.returns
returns c =
    let degrees = c.args.degrees.now in
    sum_by_from_yields_List (λ d. d + 1) degrees c.map.result _ c.sum.ensures.ran
    (YieldsList-from_map _ (λ d. d + 1) (YieldsList-from_slice degrees cc) c.map.ensures.closure (λ x r q k. search (rules, tests)))
    ∙ sym (words-sum degrees)

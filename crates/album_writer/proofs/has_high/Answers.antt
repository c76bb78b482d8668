-- `album_writer::has_high` meets its contract.
-- Assumes nothing.
use mathlib.Core.Path.{◌∙◌}
use lib.Dec.{ltb}
use Rattle.std.proofs.Common.{rules, tests}
use Rattle.std.proofs.lemmas.Iterator.{YieldsList-from_slice}
use Rattle.std.proofs.lemmas.Iterator.Search.{any_from_yields_List}
use Rattle.refusal.specs.Limits.{max_degree}
use Rattle.album_writer.proofs.Loops.{high-any}
use Rattle.album_writer.proofs.has_high.Goals as goal

pub returns : goal.returns
returns c =
    any_from_yields_List (ltb max_degree) _ _ _ c.any.ensures.ran (YieldsList-from_slice c.args.degrees.now cc) (λ x b q k. search (rules, tests))
    ∙ high-any max_degree c.args.degrees.now

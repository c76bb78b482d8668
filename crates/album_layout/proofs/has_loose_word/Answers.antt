-- `album_layout::has_loose_word` meets its contract: the bodies' words, pair of bytes by pair of bytes.
-- Assumes nothing.
use native.Mathlib.Omega.{arith}
use lib.Dec.{leb}
use mathlib.Core.Path.{◌∙◌}
use Rattle.std.proofs.Common.{rules, tests}
use Rattle.std.proofs.lemmas.Iterator.{YieldsList-from_slice}
use Rattle.std.proofs.lemmas.Iterator.Search.{any_from_yields_List}
use Rattle.std.specs.Int.{w16, from_le_bytes}
use Rattle.album_layout.proofs.Places.{entry-inside}
use Rattle.album_layout.proofs.Loose.{loose-chunks}
use Rattle.album_layout.proofs.has_loose_word.Goals as goal

pub slice_bounds-bodies-count : goal.slice_bounds-bodies-count
slice_bounds-bodies-count c = omega (arith, entry-inside _ c.requires)

pub slice_bounds-bodies-start : goal.slice_bounds-bodies-start
slice_bounds-bodies-start c = omega (arith, entry-inside _ c.requires)

pub returns : goal.returns
returns c =
    any_from_yields_List (λ w. leb c.modulus_of-p.result (from_le_bytes w16 w)) _ _ _ c.any.ensures.ran (YieldsList-from_slice c.as_chunks.result.0.now cc) (λ x b q k. search (rules, tests))
    ∙ loose-chunks _ _ c.requires _ _ _ c.modulus_of-p.ensures (omega arith) c.as_chunks.ensures.front

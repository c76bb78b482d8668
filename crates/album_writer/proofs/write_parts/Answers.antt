-- `album_writer::write_parts` meets its contract: the parts of the slice that the count, the entries and the words are written to make up
-- the album.
-- Assumes nothing.
use mathlib.Core.Path.{◌∙◌}
use native.Mathlib.Omega.{arith}
use lib.ListN.{length, length-set, length-take, length-drop}
use Rattle.words.proofs.Transfer.{bytes_fit}
use Rattle.album_writer.proofs.Loops.{album-parts}
use Rattle.album_writer.proofs.write_parts.Goals as goal

pub slice_bounds-write_words-count : goal.slice_bounds-write_words-count
slice_bounds-write_words-count c =
    let args = c.args in
    omega (arith, length-set args.out.now 0 (length args.degrees.now))

pub shape_of-out : goal.shape_of-out
shape_of-out c =
    let args = c.args in
    omega (arith, length-set args.out.now 0 (length args.degrees.now))

pub returns : goal.returns
returns c =
    let args = c.args in
    let kept = length-set args.out.now 0 (length args.degrees.now) in
    let entries = c.write_entries in
    let bodies = c.write_words in
    album-parts args.words.now args.degrees.now args.out.now entries.new.out bodies.new.bytes (omega arith)
    entries.ensures
    (bodies.ensures ∙ bytes_fit args.words.now _ (simp (length-take, length-drop) (omega arith)))

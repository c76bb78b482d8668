-- `bind_text::read_lines` meets its contract. The loop's invariant: `used` words and k degrees are read, and the iterator has the lines left.
-- Assumes nothing.
use mathlib.Core.Path.{◌∙◌, ap}
use lib.ListN.{length-set}
use Rattle.std.proofs.Common.{rules, arith}
use Rattle.std.specs.Iterator.Adapters.{enumerate_source, enumerate_count}
use Rattle.bind_text.specs.Internal.{lines_left}
use Rattle.bind_text.proofs.Reading.{partway_start, turn, partway-next, partway_end}
use Rattle.bind_text.proofs.read_lines.Goals as goal

pub loop-k-init : goal.loop-k-init
loop-k-init c =
    let gives = c.into_iter-k-iterator.ensures.into_iter_gives in
    let items = c.enumerate-k-items.ensures in
    record {
      words_len = search rules;
      degrees_len = search rules;
      partway =
          partway_start _ _ _ (ap enumerate_count gives ∙ items.count)
          (ap (λ s. lines_left (enumerate_source s)) gives ∙ ap lines_left items.source)
          c.requires.sound.each;
    }

pub overflow_add-used : goal.overflow_add-used
overflow_add-used c =
    let limits = turn c.loop-k.invariant.partway c.in-Some.ensures.steps.0 c.requires.sound.few in
    omega arith

pub slice_bounds-read_line-end : goal.slice_bounds-read_line-end
slice_bounds-read_line-end c =
    let limits = turn c.loop-k.invariant.partway c.in-Some.ensures.steps.0 c.requires.sound.few in
    omega arith

pub overflow_sub-degrees : goal.overflow_sub-degrees
overflow_sub-degrees c =
    let limits = turn c.loop-k.invariant.partway c.in-Some.ensures.steps.0 c.requires.sound.few in
    omega arith

pub loop-k-preserved : goal.loop-k-preserved
loop-k-preserved c =
    let sound = c.requires.sound in
    let loop = c.loop-k.invariant in
    let steps = c.in-Some.ensures.steps in
    let limits = turn loop.partway steps.0 sound.few in
    record {
      words_len = omega arith;
      degrees_len = simp length-set (omega arith);
      partway = partway-next loop.partway steps.0 _ sound.few steps.1 steps.2 c.words_in-n.ensures loop.words_len loop.degrees_len c.read_line.ensures;
    }

pub returns : goal.returns
returns c = partway_end c.loop-k.invariant.partway c.in-None.ensures.steps.0.0

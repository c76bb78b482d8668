-- `list_cofactors::substitute_back` meets its contract: each step takes the quotient that is laid last.
-- Assumes nothing.
use native.Mathlib.Omega.{arith}
use lib.ListN.{length, take}
use Rattle.field.specs.Fields.{field_at}
use Rattle.list_cofactors.proofs.Back.{Undone, back_start, back-tight, back-fits, back-round, back_end}
use borrow.Author.Rules.{rules}
use Rattle.list_cofactors.proofs.substitute_back.Goals as goal
use Rattle.list_cofactors.proofs.substitute_back.Goals.{After-words_after-c}

-- after a step
undone : (c : After-words_after-c) → Undone c.args.field (length c.args.s.now) (take c.args.used c.args.kept.now) c.args.kept.now c.loop-at.second.now c.undo_round-steps.new.s c.loop-at.at c.undo_round-steps.result c.words_after-c.result
undone c =
    let t = c.loop-at.invariant in
    let made = c.undo_round-steps.ensures in
    back-round _ _ _ _ t.back c.loop-at-test.true t.inside c.words_read.ensures.0 made.value made.s_after c.words_after-c.ensures

pub loop-at-init : goal.loop-at-init
loop-at-init c =
    let pre = c.requires in
    record { back = back_start (field_at _) _ _ _ _ pre.zero_pair pre.s_nonzero.0 pre.laid.0; inside = pre.laid.1 }

pub undo_round-steps-requires : goal.undo_round-steps-requires
undo_round-steps-requires c =
    let t = c.loop-at.invariant in
    let fits = back-fits _ _ c.args.kept.now _ t.back c.loop-at-test.true t.inside in
    let read = c.words_read.ensures in record { at_in_bounds = (t.inside, fits.0, omega (arith, fits.1, t.back.size_s), omega (arith, read, t.back.size_t)); tight = back-tight _ _ c.args.kept.now c.loop-at.at t.back }

pub words_after-c-requires : goal.words_after-c-requires
words_after-c-requires c =
    let t = c.loop-at.invariant in
    let fits = back-fits _ _ c.args.kept.now _ t.back c.loop-at-test.true t.inside in
    (c.requires.s_nonzero.1, t.back.few, omega (arith, fits.1, c.undo_round-steps.ensures.value))

pub overflow_add-at : goal.overflow_add-at
overflow_add-at c = let less = (undone (goal.at.overflow_add-at c).After-words_after-c).less in search rules

pub overflow_sub-at : goal.overflow_sub-at
overflow_sub-at c = let less = (undone (goal.at.overflow_sub-at c).After-words_after-c).less in search rules

pub loop-at-preserved : goal.loop-at-preserved
loop-at-preserved c =
    let made = undone (goal.at.loop-at-preserved c).After-words_after-c in record { back = made.back; inside = made.inside }

pub returns : goal.returns
returns c = back_end (field_at _) _ c.args.kept.now c.loop-at-test.false c.loop-at.invariant.back

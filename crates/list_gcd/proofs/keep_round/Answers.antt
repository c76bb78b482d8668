-- `list_gcd::keep_round` meets its contract: the round's quotient stands behind the words that were kept, and then the number of its words.
-- Assumes nothing.
use mathlib.Core.Path.{refl}
use Prim.Native.Nat.{◌+◌, ◌-◌, ◌≤◌, ◌<◌}
use lib.ListN.{length, drop}
use Rattle.list_gcd.proofs.Alternating.{round-wants, steps-fit, round-kept}
use borrow.Author.Rules.{rules}
use Rattle.list_gcd.proofs.keep_round.Goals as goal
use Rattle.list_gcd.proofs.keep_round.Goals.{After-shorten-made}

-- the quotient has no more words than x, and there is room for it and for the number of its words
fit : (c : After-shorten-made) → (c.shorten-made.result.steps ≤ length c.args.x.now) × (c.args.at + c.shorten-made.result.steps < length c.args.kept.now)
fit c =
    let pre = c.requires in
    let made = c.shorten-made in
    steps-fit _ _ _ _ _ _ _ c.args.kept.now pre.buffer pre.buffer_2 pre.nx_value.0 pre.nx_value.1 pre.nx_value.2 pre.x_len_bound.1 refl made.auto.x (made.ensures.steps, (made.ensures.count, (made.ensures.left, made.ensures.quotient)))

pub shorten-made-requires : goal.shorten-made-requires
shorten-made-requires c = let pre = c.requires in round-wants _ _ pre.buffer pre.nx_value.1

pub overflow_cast-kept : goal.overflow_cast-kept
overflow_cast-kept c = let fits = fit (goal.at.overflow_cast-kept c).After-shorten-made in search rules

pub overflow_add-kept : goal.overflow_add-kept
overflow_add-kept c = let fits = fit (goal.at.overflow_add-kept c).After-shorten-made in search rules

pub offset_bounds-kept-at-2 : goal.offset_bounds-kept-at-2
offset_bounds-kept-at-2 c = let fits = fit (goal.at.offset_bounds-kept-at-2 c).After-shorten-made in search rules

pub bounds-kept-at : goal.bounds-kept-at
bounds-kept-at c = let fits = fit (goal.at.bounds-kept-at c).After-shorten-made in search rules

pub returns : goal.returns
returns c =
    let pre = c.requires in
    let made = c.shorten-made in
    let kept = c.args.kept.now in
    round-kept _ _ _ _ _ _ _ kept pre.buffer pre.buffer_2 pre.nx_value.0 pre.nx_value.1 pre.nx_value.2 pre.x_len_bound.1 refl made.auto.x (made.ensures.steps, (made.ensures.count, (made.ensures.left, made.ensures.quotient))) (drop (length kept - c.args.at) (drop c.args.at kept))

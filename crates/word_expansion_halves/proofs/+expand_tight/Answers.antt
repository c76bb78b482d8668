-- `word_expansion_halves::expand_tight`, which calls itself, meets its contract.
-- Assumes nothing.
use mathlib.Core.Path.{sym, ◌∙◌}
use native.Mathlib.Omega.{arith}
use lib.ListN.{length-append}
use Rattle.field.specs.Fields.{field_at}
use Rattle.field.proofs.Fields.{p-at}
use Rattle.lists.proofs.Tight.{tight-take}
use Rattle.word_expansion.proofs.Loops.{into-tight}
use Rattle.word_expansion_halves.proofs.Split.{zeros-expanded, parts-tight, parts-expanded}
use Rattle.word_expansion_halves.proofs.+expand_tight.Goals as goal

pub returns-then-n-le-SHORT : goal.returns-then-n-le-SHORT
returns-then-n-le-SHORT t c = c.expand.ensures ∙ into-tight _ c.requires.1.at _

pub returns-then-s-eq0 : goal.returns-then-s-eq0
returns-then-s-eq0 t c =
    let a = c.args in
    zeros-expanded (field_at a.field) (p-at a.field) a.plus a.x.now c.requires.1 (sym c.significant_words-s.ensures ∙ c.if-s-eq0.true)

pub expand_tight-requires : goal.expand_tight-requires
expand_tight-requires t c =
    let parts = c.split_at_mut-first.ensures in
    (omega (arith, c.decreases, parts.front_len, c.cut-h.ensures.1), (omega (arith, parts.front_len), rw parts.front (tight-take _ c.requires.1)))

pub join-requires-clause-x_in_bounds : goal.join-requires-clause-x_in_bounds
join-requires-clause-x_in_bounds t c =
    let a = c.args in
    let parts = c.split_at_mut-first.ensures in (
      simp length-append (omega arith),
      parts-tight (field_at a.field) (p-at a.field) a.plus a.x.now c.requires.1 c.cut-h.result parts.front parts.back c.expand_tight.ensures c.expand_tight-2.ensures,
    )

pub returns : goal.returns
returns t c =
    let a = c.args in
    let fits = c.cut-h.ensures in
    let parts = c.split_at_mut-first.ensures in
    parts-expanded (field_at a.field) (p-at a.field) a.plus a.x.now c.requires.1 c.cut-h.result parts.front parts.back c.expand_tight.ensures c.expand_tight-2.ensures fits.0 fits.1 c.join.ensures

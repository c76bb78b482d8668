-- `list_ordinary_division::divide_in` meets its contract: the powers of t, a round on them, and back.
-- Assumes nothing.
use mathlib.Core.Path.{refl}
use Rattle.field.specs.Fields.{field_at}
use Rattle.field.proofs.Fields.{p-at}
use Rattle.list_powers.proofs.Powers.{list-found}
use Rattle.list_ordinary_division.proofs.Forms.{quotient_is, remainder_is, round-wants}
use Rattle.list_ordinary_division.proofs.divide_in.Goals as goal

pub shorten-requires : goal.shorten-requires
shorten-requires c =
    let a = c.args in
    round-wants (field_at _) (p-at _) _ a.g.now a.f.now a.x.now a.y.now a.k.now a.q.now a.r.now c.requires.ordinary_fits c.requires.buffers c.place.ensures c.place-2.ensures refl

pub returns-clause-quotient : goal.returns-clause-quotient
returns-clause-quotient c =
    quotient_is (field_at _) (p-at _) _ _ _ _ _ _ _ _ c.requires.ordinary_fits c.requires.buffers c.place.ensures c.place-2.ensures _ refl c.shorten.ensures.quotient (λ s h e some. list-found _ _ _ h e some c.write_back.ensures)

pub returns-clause-remainder : goal.returns-clause-remainder
returns-clause-remainder c =
    remainder_is (field_at _) (p-at _) _ _ _ _ _ _ _ _ c.requires.ordinary_fits c.requires.buffers c.place.ensures c.place-2.ensures _ refl c.shorten.ensures.left (λ s h e some. list-found _ _ _ h e some c.write_back-2.ensures)

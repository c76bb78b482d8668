-- `euclid_round::round` meets its contract: its tests are `round_fits`, and where x is the shorter there is no step.
-- Assumes nothing.
use native.Mathlib.Omega.{arith}
use lib.ListN.{take, length-take}
use Rattle.field.specs.Fields.{field_at}
use Rattle.field.proofs.Fields.{p-at}
use Rattle.lists.proofs.Extents.{significant-le}
use Rattle.euclid_round.proofs.Divided.{zero-divisor, loose-last, no_step, no_room, divided, zeros-padded}
use Rattle.euclid_round.proofs.round.Goals as goal

steps_and_left_and_quotient : {A B C : Type 0} → A × (B × C) → record { steps : A; left : B; quotient : C }
steps_and_left_and_quotient (a, (b, c)) = record { steps = a; left = b; quotient = c }

pub returns-then-ny-eq0 : goal.returns-then-ny-eq0
returns-then-ny-eq0 c =
    let a = c.args in
    let nx = c.significant_words-nx.ensures in
    let ny = c.significant_words-ny.ensures in steps_and_left_and_quotient (zero-divisor (field_at _) (p-at _) a.mx a.my a.x.now a.y.now a.q.now nx ny c.if-ny-eq0.true)

pub offset_bounds-y-ny : goal.offset_bounds-y-ny
offset_bounds-y-ny c =
    let a = c.args in
    omega (arith, significant-le (take a.my a.y.now), length-take a.my a.y.now)

pub bounds-y-ny : goal.bounds-y-ny
bounds-y-ny c =
    let a = c.args in
    omega (arith, significant-le (take a.my a.y.now), length-take a.my a.y.now)

pub returns-then-modulus_of-last : goal.returns-then-modulus_of-last
returns-then-modulus_of-last c =
    let a = c.args in
    let nx = c.significant_words-nx.ensures in
    let ny = c.significant_words-ny.ensures in steps_and_left_and_quotient (loose-last (field_at _) (p-at _) a.mx a.my a.x.now a.y.now a.q.now nx ny c.if-ny-eq0.false (omega arith))

pub returns-then-nx-ny : goal.returns-then-nx-ny
returns-then-nx-ny c =
    let a = c.args in
    let nx = c.significant_words-nx.ensures in
    let ny = c.significant_words-ny.ensures in steps_and_left_and_quotient (no_step (field_at _) (p-at _) a.mx a.my a.x.now a.y.now a.q.now nx ny c.if-ny-eq0.false (omega arith) c.if-nx-ny.true)

pub returns-then-q-k : goal.returns-then-q-k
returns-then-q-k c =
    let a = c.args in
    let nx = c.significant_words-nx.ensures in
    let ny = c.significant_words-ny.ensures in steps_and_left_and_quotient (no_room (field_at _) (p-at _) a.mx a.my a.x.now a.y.now a.q.now nx ny c.if-nx-ny.false c.if-q-k.true)

pub whole_groups-wide-requires : goal.whole_groups-wide-requires
whole_groups-wide-requires c =
    let a = c.args in
    omega (arith, significant-le (take a.my a.y.now), length-take a.my a.y.now)

pub reduce_padded-requires : goal.reduce_padded-requires
reduce_padded-requires c =
    let a = c.args in
    let nx = c.significant_words-nx.ensures in
    let ny = c.significant_words-ny.ensures in record { le_n = (omega arith, simp length-take (omega arith), simp length-take (omega (arith, significant-le (take a.mx a.x.now), length-take a.mx a.x.now))); tight = c.requires.tight.0; zero_from = zeros-padded c.requires.tight.1 c.whole_groups-wide.result ny }

pub returns : goal.returns
returns c =
    let a = c.args in
    let nx = c.significant_words-nx.ensures in
    let ny = c.significant_words-ny.ensures in
    let r = c.reduce_padded.ensures in steps_and_left_and_quotient (divided (field_at _) (p-at _) a.mx a.my a.x.now a.y.now a.q.now nx ny c.if-ny-eq0.false (omega arith) c.if-nx-ny.false c.if-q-k.false c.inverse_or_zero-inv.ensures c.whole_groups-wide.ensures.0 r.left r.quotient)

-- `list_gcd::all_rounds` meets its contract: the rounds go on after each one.
-- Assumes nothing.
use mathlib.Core.Path.{refl, sym, ◌∙◌}
use Prim.Native.Nat.{◌+◌}
use native.Mathlib.Omega.{arith}
use lib.ListN.{length, take}
use Rattle.field.specs.Fields.{field_at}
use Rattle.lists.proofs.Extents.{significant-le}
use Rattle.list_gcd.proofs.Alternating.{LedOn, led-start, led_on, led-end}
use Rattle.list_gcd.proofs.Finish.{buffer-as}
use borrow.Author.Rules.{rules}
use Rattle.list_gcd.proofs.all_rounds.Goals as goal
use Rattle.list_gcd.proofs.all_rounds.Goals.{After-keep_round-made}

-- after a round
next : (c : After-keep_round-made) → LedOn (field_at c.args.field) (length c.args.x.now) c.args.x.now c.args.y.now c.loop-ny.next.now c.keep_round-made.new.x c.loop-ny.rounds (take (c.loop-ny.at + (c.keep_round-made.result.steps + 1)) c.keep_round-made.new.kept) (c.loop-ny.at + (c.keep_round-made.result.steps + 1)) c.loop-ny.ny c.keep_round-made.result.left (length c.args.kept.now)
next c =
    let pre = c.requires in
    let t = c.loop-ny.invariant in
    led_on (field_at _) _ t.led _ pre.buffer pre.buffer_2 t.nx_is t.ny_is c.loop-ny-test.true t.enough c.keep_round-made.ensures

pub loop-ny-init : goal.loop-ny-init
loop-ny-init c =
    let pre = c.requires in
    let size = pre.buffer_2.size in
    record {
      led = led-start (field_at _) _ pre.buffer pre.buffer_2;
      kept_length = refl;
      nx_is = c.significant_words-nx.ensures;
      ny_is = c.significant_words-ny.ensures;
      enough = omega (arith, significant-le c.args.x.now, significant-le c.args.y.now);
    }

pub keep_round-made-requires : goal.keep_round-made-requires
keep_round-made-requires c =
    let t = c.loop-ny.invariant in
    let size = t.led.buffer_x.size in
    record {
      buffer = buffer-as (field_at _) (sym size) t.led.buffer_x;
      buffer_2 = buffer-as (field_at _) (sym size) t.led.buffer_y;
      nx_value = (t.nx_is, t.ny_is, omega arith);
      x_len_bound = (omega arith, omega arith);
    }

pub overflow_add-at : goal.overflow_add-at
overflow_add-at c = let within = (next (goal.at.overflow_add-at c).After-keep_round-made).within in search rules

pub overflow_add-at-in-loop-ny : goal.overflow_add-at-in-loop-ny
overflow_add-at-in-loop-ny c = let within = (next (goal.at.overflow_add-at-in-loop-ny c).After-keep_round-made).within in search rules

pub overflow_add-rounds : goal.overflow_add-rounds
overflow_add-rounds c = let few = (next (goal.at.overflow_add-rounds c).After-keep_round-made).few in search rules

pub loop-ny-smaller : goal.loop-ny-smaller
loop-ny-smaller c = (next (goal.at.loop-ny-smaller c).After-keep_round-made).smaller

pub loop-ny-preserved : goal.loop-ny-preserved
loop-ny-preserved c =
    let made = next (goal.at.loop-ny-preserved c).After-keep_round-made in
    record { led = made.next; kept_length = omega arith; nx_is = c.loop-ny.invariant.ny_is; ny_is = made.count; enough = made.enough }

pub returns-clause-ends : goal.returns-clause-ends
returns-clause-ends c = let t = c.loop-ny.invariant in led-end (field_at _) _ t.led (sym t.ny_is ∙ c.loop-ny-test.false)

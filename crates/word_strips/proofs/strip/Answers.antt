-- `word_strips::strip` meets its contract: each turn is one output more.
-- Assumes nothing.
use Rattle.std.proofs.Common.{◌+◌, ◌*◌, ◌∙◌, add_assoc, get_or, lit<, arith}
use Rattle.lists.specs.Words.{ZeroFrom}
use borrow.Author.Rules.{rules}
use borrow.Author.Tests.{tests}
use Rattle.word_strips.specs.Strips.{whole_at, high_at, Spread, Gain}
use Rattle.word_strips.proofs.Turns.{pair_is, turn-gain, half-gain, joined, single, to}
use Rattle.word_strips.proofs.strip.Goals as goal
use Rattle.word_strips.proofs.strip.Goals.{then-not-this, else-not-this}

pub loop-l-preserved : goal.loop-l-preserved
loop-l-preserved g c =
    let w = c.args.w.now in
    let x = c.args.x.now in
    let v = c.args.v.now in
    let b = 16 * c.args.g in
    let o = 16 * (c.args.g + c.args.s) + c.loop-l.l in
    let k = 16 * c.args.s + c.loop-l.l in
    let l = c.loop-l.l in
    let h = c.loop-l-test.true in
    let gain : Gain (get_or c.loop-l.lo o 0) (get_or c.loop-l.hi o 0) c.if-not-this.a c.if-not-this.h (whole_at w x b k) (high_at w x b k) =
    elim c.if-not-this.branch [
      | then-not-this t ↦
          let s : Spread 8 v x b = rw t.if-not-this.true at c.requires.spread in
          turn-gain w x b k _ _
          (pair_is 8 w v x b s k l 28 0 h (lit< tt) c.pair_at-t0.result c.pair_at-t0.ensures.0 c.pair_at-t0.ensures.1)
          (pair_is 8 w v x b s k l 24 1 h (lit< tt) c.pair_at-t1.result c.pair_at-t1.ensures.0 c.pair_at-t1.ensures.1)
          (pair_is 8 w v x b s k l 20 2 h (lit< tt) c.pair_at-t2.result c.pair_at-t2.ensures.0 c.pair_at-t2.ensures.1)
          (pair_is 8 w v x b s k l 16 3 h (lit< tt) c.pair_at-t3.result c.pair_at-t3.ensures.0 c.pair_at-t3.ensures.1)
          (pair_is 8 w v x b s k l 12 4 h (lit< tt) t.pair_at-t4.result t.pair_at-t4.ensures.0 t.pair_at-t4.ensures.1)
          (pair_is 8 w v x b s k l 8 5 h (lit< tt) t.pair_at-t5.result t.pair_at-t5.ensures.0 t.pair_at-t5.ensures.1)
          (pair_is 8 w v x b s k l 4 6 h (lit< tt) t.pair_at-t6.result t.pair_at-t6.ensures.0 t.pair_at-t6.ensures.1)
          (pair_is 8 w v x b s k l 0 7 h (lit< tt) t.pair_at-t7.result t.pair_at-t7.ensures.0 t.pair_at-t7.ensures.1)
          c.gain_whole-a.ensures (t.a-is ∙ t.gain_whole-a-then-not-this.ensures) c.gain_high-h.ensures (t.h-is ∙ t.gain_high-h-then-not-this.ensures)
      | else-not-this t ↦
          let z : ZeroFrom (16 * c.args.g + 8) x = search (rules, tests) in let s : Spread 4 v x b = search (rules, tests) in
          half-gain w x b k _ _ z
          (pair_is 4 w v x b s k l 28 0 h (lit< tt) c.pair_at-t0.result c.pair_at-t0.ensures.0 c.pair_at-t0.ensures.1)
          (pair_is 4 w v x b s k l 24 1 h (lit< tt) c.pair_at-t1.result c.pair_at-t1.ensures.0 c.pair_at-t1.ensures.1)
          (pair_is 4 w v x b s k l 20 2 h (lit< tt) c.pair_at-t2.result c.pair_at-t2.ensures.0 c.pair_at-t2.ensures.1)
          (pair_is 4 w v x b s k l 16 3 h (lit< tt) c.pair_at-t3.result c.pair_at-t3.ensures.0 c.pair_at-t3.ensures.1)
          (t.a-is ∙ c.gain_whole-a.ensures) (t.h-is ∙ c.gain_high-h.ensures)
    ] in
    to _ (add_assoc _ _ _) (joined (omega arith) (omega arith) c.loop-l.invariant (single _ _ _ _ _ (omega arith) (omega arith) (omega arith) gain))

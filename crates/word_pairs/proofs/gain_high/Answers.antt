-- `word_pairs::gain_high` meets its contract, one number after the other.
-- Assumes nothing.
use Rattle.std.proofs.Common.{refl}
use Rattle.word_pairs.proofs.Integers.{high_sum, more-high}
use Rattle.word_pairs.proofs.gain_high.Goals as goal

pub returns : goal.returns
returns c =
    let a = c.args in
    let f = c.ranges in
    let s0 = more-high a.t0 f.t0 _ refl c.add_high-s0.ensures in
    let s1 = more-high a.t1 f.t1 _ s0 c.add_high-s1.ensures in
    let s2 = more-high a.t2 f.t2 _ s1 c.add_high-s2.ensures in
    let s3 = more-high a.t3 f.t3 _ s2 c.add_high.ensures in
    high_sum _ _ _ _ _ s3

-- `word_pairs::gain_whole` meets its contract, one number after the other.
-- Assumes nothing.
use Rattle.word_pairs.proofs.Integers.{first-whole, more-whole, whole_sum}
use Rattle.word_pairs.proofs.gain_whole.Goals as goal

pub returns : goal.returns
returns c =
    let a = c.args in
    let f = c.ranges in
    let s0 = first-whole a.t0 f.t0 _ c.add_bits-s0.ensures in
    let s1 = more-whole a.t1 f.t1 _ s0 c.add_bits-s1.ensures in
    let s2 = more-whole a.t2 f.t2 _ s1 c.add_bits-s2.ensures in
    let s3 = more-whole a.t3 f.t3 _ s2 c.add_bits.ensures in
    whole_sum _ _ _ _ _ s3

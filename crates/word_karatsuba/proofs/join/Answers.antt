-- `word_karatsuba::join` meets its contract: three rows.
-- Assumes nothing.
use mathlib.Core.Path.{◌≡◌}
use Prim.Native.Nat.{◌-◌, ◌*◌, ◌≤◌}
use native.Mathlib.Omega.{arith}
use lib.ListN.{length, take, drop}
use lib.Seq.{length-take-le}
use Rattle.field.proofs.Fields.{modulus-half}
use Rattle.lists.proofs.Tight.{tight-at, tight-rest, tight-take}
use Rattle.word_karatsuba.proofs.Words.{tight-row}
use Rattle.word_karatsuba.proofs.Parts.{length_rest, joined-are}
use Rattle.word_karatsuba.proofs.join.Goals as goal

pub sub_words-requires : goal.sub_words-requires
sub_words-requires c =
    let e = c.modulus_of-p.ensures in
    let half : 32768 ≤ c.modulus_of-p.result = omega (arith, e, modulus-half c.args.field) in
    let n = 2 * c.args.h - 1 in
    let first = length-take-le n c.args.out.now (omega arith) in
    let fits : length (take n c.args.out.now) ≤ length c.args.s.now = omega arith in
    (fits, omega arith, tight-at e c.requires.out_len_bound.1, tight-take n (tight-at e c.requires.out_len_bound.2))

pub sub_words-requires-2 : goal.sub_words-requires-2
sub_words-requires-2 c =
    let e = c.modulus_of-p.ensures in
    let half : 32768 ≤ c.modulus_of-p.result = omega (arith, e, modulus-half c.args.field) in
    let out = c.args.out.now in
    let n = 2 * c.args.h in
    let less = c.sub_words in
    let kept : length less.new.x ≡ length c.args.s.now = less.auto.x in
    let rest = length_rest n out in
    let fits : length (take (length out - n) (drop n out)) ≤ length less.new.x = omega arith in
    (fits, omega arith, tight-row _ (omega arith) _ _ _ (tight-at e c.requires.out_len_bound.1) less.ensures, tight-rest n (tight-at e c.requires.out_len_bound.2))

pub add_words-requires : goal.add_words-requires
add_words-requires c =
    let e = c.modulus_of-p.ensures in
    let half : 32768 ≤ c.modulus_of-p.result = omega (arith, e, modulus-half c.args.field) in
    let out = c.args.out.now in
    let h = c.args.h in
    let first = c.sub_words in
    let less = c.sub_words-2 in
    let kept : length first.new.x ≡ length c.args.s.now = first.auto.x in
    let kept2 : length less.new.x ≡ length first.new.x = less.auto.x in
    let rest = length_rest h out in
    let fits : length less.new.x ≤ length (take (length out - h) (drop h out)) = omega arith in
    (fits, half, tight-rest h (tight-at e c.requires.out_len_bound.2))

pub returns : goal.returns
returns c = joined-are _ _ _ _ c.modulus_of-p.ensures c.sub_words.ensures c.sub_words-2.ensures c.add_words.ensures

-- `word_karatsuba::add_halves` meets its contract: two rows.
-- Assumes nothing.
use mathlib.Core.Path.{◌≡◌}
use Prim.Native.Nat.{◌-◌, ◌≤◌}
use native.Mathlib.Omega.{arith}
use lib.ListN.{length, take, drop}
use lib.Seq.{length-take-le}
use Rattle.field.proofs.Fields.{modulus-half}
use Rattle.lists.proofs.Tight.{tight-at}
use Rattle.word_karatsuba.proofs.Words.{tight-row}
use Rattle.word_karatsuba.proofs.Parts.{length_rest, halves_are}
use Rattle.word_karatsuba.proofs.add_halves.Goals as goal

pub add_words-requires : goal.add_words-requires
add_words-requires c =
    let e = c.modulus_of-p.ensures in
    let first = length-take-le c.args.h c.args.list.now (omega arith) in
    let fits : length (take c.args.h c.args.list.now) ≤ length c.args.x.now = omega arith in
    (fits, omega (arith, e, modulus-half c.args.field), tight-at e c.requires.3)

pub add_words-requires-2 : goal.add_words-requires-2
add_words-requires-2 c =
    let e = c.modulus_of-p.ensures in
    let half : 32768 ≤ c.modulus_of-p.result = omega (arith, e, modulus-half c.args.field) in
    let added = c.add_words in
    let kept : length added.new.x ≡ length c.args.x.now = added.auto.x in
    let rest = length_rest c.args.h c.args.list.now in
    let fits : length (take (length c.args.list.now - c.args.h) (drop c.args.h c.args.list.now)) ≤ length added.new.x = omega arith in
    (fits, half, tight-row _ (omega arith) _ _ _ (tight-at e c.requires.3) added.ensures)

pub returns : goal.returns
returns c = halves_are _ _ _ _ c.modulus_of-p.ensures c.add_words.ensures c.add_words-2.ensures

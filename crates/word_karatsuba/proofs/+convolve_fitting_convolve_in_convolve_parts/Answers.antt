-- `word_karatsuba::convolve_fitting`, `convolve_in` and `convolve_parts`, which call each other, meet their contracts.
-- Assumes nothing.
use Rattle.std.proofs.Common.{◌≡◌, ◌+◌, ◌*◌, ◌≤◌, ◌<◌, length, refl, arith}
use Rattle.refusal.specs.Limits.{max_words}
use Rattle.field.specs.Fields.{field_at}
use Rattle.field.proofs.Fields.{p-at, modulus-some}
use Rattle.lists.proofs.Parts.{prefix-length}
use Rattle.lists.proofs.Words.{zero-part, zeros-are}
use Rattle.word_karatsuba.specs.Halves.{Cut}
use Rattle.word_karatsuba.proofs.Karatsuba.{tight-parts, tight-product, karatsuba-is}
use Rattle.word_karatsuba.proofs.Words.{tight-zero}
use Rattle.word_product.proofs.Convolution.{convolve-is}
use Rattle.word_karatsuba.proofs.+convolve_fitting_convolve_in_convolve_parts.Goals as goal

pub convolve_fitting-returns-in_default : goal.convolve_fitting-returns-in_default
convolve_fitting-returns-in_default t c = convolve-is (field_at _) max_words _ _ c.args.out.now (omega arith) (omega arith) (omega arith) c.convolve.ensures

pub convolve_fitting-convolve_in-requires : goal.convolve_fitting-convolve_in-requires
convolve_fitting-convolve_in-requires t c =
    let h = c.in-Some.h in
    let cut : Cut (length c.args.a.now) (length c.args.b.now) h = c.in-Some.ensures in (
      omega arith,
      (
        cut,
        (
          c.requires,
          (
            (prefix-length h 512 _ refl (omega arith), prefix-length (h + 1) 513 _ refl (omega arith), prefix-length (2 * h) 1024 _ refl (omega arith)),
            (zero-part h (zeros-are 512), zero-part (h + 1) (zeros-are 513)),
          ),
        ),
      ),
    )

pub convolve_in-add_halves-requires : goal.convolve_in-add_halves-requires
convolve_in-add_halves-requires t c = (omega arith, omega arith, omega arith, tight-zero _ (modulus-some _) c.requires.zero_from.0)

pub convolve_in-add_halves-requires-2 : goal.convolve_in-add_halves-requires-2
convolve_in-add_halves-requires-2 t c = (omega arith, omega arith, omega arith, tight-zero _ (modulus-some _) c.requires.zero_from.1)

pub convolve_in-join-requires : goal.convolve_in-join-requires
convolve_in-join-requires t c =
    let h = c.args.h in
    let product = c.convolve_fitting in
    let parts = c.convolve_parts in
    let s = product.new.out in
    let out = parts.new.out in
    let kept-s : length s ≡ length c.args.s.now = product.auto.out in
    let kept : length out ≡ length c.args.out.now = parts.auto.out in
    let sizes : (1 ≤ h) × (2 * h ≤ length s) × (length s + h ≤ length out) × (length out ≤ length s + 2 * h) = (omega arith, omega arith, omega arith, omega arith) in
    let small : length out < 2 * max_words = omega arith in
    record {
      le_h = sizes;
      out_len_bound = (
        small,
        tight-product (field_at _) (p-at _) _ _ (omega arith) product.ensures,
        tight-parts (field_at _) h c.args.a.now c.args.b.now out c.requires.cut parts.ensures (p-at _),
      );
    }

pub convolve_in-returns : goal.convolve_in-returns
convolve_in-returns t c =
    let pre = c.requires in
    let product = c.convolve_fitting in
    let parts = c.convolve_parts in
    let s = product.new.out in
    let out = parts.new.out in
    let kept-s : length s ≡ length c.args.s.now = product.auto.out in
    let kept : length out ≡ length c.args.out.now = parts.auto.out in
    karatsuba-is (field_at _) (p-at _) c.args.h c.args.a.now c.args.b.now c.args.x.now c.args.y.now s out
    pre.cut (omega arith, omega arith, omega arith) (omega arith) pre.zero_from.0 pre.zero_from.1
    c.add_halves.ensures
    c.add_halves-2.ensures
    product.ensures
    parts.ensures
    c.join.ensures

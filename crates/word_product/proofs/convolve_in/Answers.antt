-- `word_product::convolve_in` meets its contract: the factors are laid, the rows added up, and the sums reduced.
-- Assumes nothing.
use mathlib.Core.Path.{sym, ◌∙◌}
use Prim.Native.Nat.{◌+◌, ◌*◌, ◌/◌, ◌≤◌}
use native.Mathlib.Omega.{arith}
use lib.ListN.{length}
use Rattle.field.specs.Fields.{field_at}
use Rattle.field.proofs.Fields.{p-at, modulus-high}
use Rattle.word_grid.proofs.Steps.{grid-reducible}
use Rattle.word_product.proofs.Convolution.{convolution-is}
use Rattle.word_product.proofs.Laying.{framed, reduced-is}
use Rattle.word_product.proofs.Fields.{modulus-low}
use Rattle.word_product.proofs.convolve_in.Goals as goal

pub lay-requires : goal.lay-requires
lay-requires c =
    let h = c.requires in
    let lp = modulus-low c.args.field in record {
      le_p = (
        omega (arith, lp, c.modulus_of-p.ensures),
        omega (arith, h.a_in_bounds.0),
        omega arith,
        omega (arith, h.a_in_bounds.1),
        omega (arith, h.a_in_bounds.2),
        omega (arith, h.a_len_bound),
      );
      zero_from = (h.zero_from.0, h.zero_from.1, h.zero_from.2);
    }

pub add_rows-requires : goal.add_rows-requires
add_rows-requires c =
    let h = c.requires in record {
      n_in_bounds = (
        omega (arith, h.b_in_bounds.0),
        omega (arith, h.b_in_bounds.1),
        omega (arith, h.a_in_bounds.2, c.lay.auto),
        omega (arith, h.a_in_bounds.0, c.lay.auto),
        h.a_in_bounds.3,
        h.a_len_bound.0,
        omega (arith, h.a_len_bound),
      );
      odd = (c.lay.ensures.odd, c.lay.ensures.zero);
    }

pub reduce_words-requires : goal.reduce_words-requires
reduce_words-requires c =
    let h = c.requires in
    let n = (length c.args.b.now + 30) / 16 in
    let lp : 65497 ≤ c.modulus_of-p.result = omega (arith, modulus-low c.args.field, c.modulus_of-p.ensures) in
    let hp : c.modulus_of-p.result ≤ 65521 = omega (arith, modulus-high c.args.field, c.modulus_of-p.ensures) in (
      lp,
      hp,
      omega (arith, h.a_len_bound, h.b_in_bounds, c.add_rows.auto),
      omega (arith, h.a_len_bound, h.b_in_bounds, c.add_rows.auto),
      grid-reducible lp hp c.lay.ensures.laid (framed _ (16 * n) (omega arith)) h.zero_from.3 h.zero_from.4 (omega (arith, h.a_len_bound)) c.add_rows.ensures,
    )

pub returns : goal.returns
returns c =
    let h = c.requires in
    let a = c.args.a.now in
    let b = c.args.b.now in
    let g = (length a + 15) / 16 in
    let n = (length b + 30) / 16 in
    let m = length c.args.out.now in
    let lp : 65497 ≤ c.modulus_of-p.result = omega (arith, modulus-low c.args.field, c.modulus_of-p.ensures) in
    let hp : c.modulus_of-p.result ≤ 65521 = omega (arith, modulus-high c.args.field, c.modulus_of-p.ensures) in
    c.reduce_words.ensures
    ∙ reduced-is a b lp hp g n m c.lay.ensures (omega arith) (omega (arith, h.a_len_bound)) (omega arith) h.zero_from.3 h.zero_from.4 c.add_rows.ensures
    ∙ convolution-is (field_at c.args.field) a b (p-at c.args.field ∙ sym c.modulus_of-p.ensures) m (omega (arith, h.a_len_bound))

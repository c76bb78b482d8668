-- `word_karatsuba::convolve` meets its contract: its tests are `convolve_fits`.
-- Assumes nothing.
use mathlib.Core.Path.{◌∙◌}
use Prim.Native.Nat.{◌+◌}
use native.Mathlib.Omega.{arith}
use lib.ListN.{length}
use borrow.Author.Tests.{eq-eqb, ne_eqb, le-leb, lt-leb}
use Rattle.refusal.specs.Limits.{max_words}
use Rattle.field.specs.Fields.{field_at}
use Rattle.word_product.specs.Convolution.{convolve_fits}
use Rattle.word_product.proofs.Convolution.{convolution-turned}
use Rattle.word_karatsuba.proofs.convolve.Goals as goal

pub returns-then-a-gt-MAX_WORDS : goal.returns-then-a-gt-MAX_WORDS
unfolding convolve_fits
returns-then-a-gt-MAX_WORDS c = rw (lt-leb (length c.args.a.now) max_words (omega arith))

pub returns-then-b-gt-MAX_WORDS : goal.returns-then-b-gt-MAX_WORDS
unfolding convolve_fits
returns-then-b-gt-MAX_WORDS c =
    let a = length c.args.a.now in
    let b = length c.args.b.now in
    rw (le-leb a max_words (omega arith), lt-leb b max_words (omega arith))

pub returns-then-out-a : goal.returns-then-out-a
unfolding convolve_fits
returns-then-out-a c =
    let args = c.args in
    let a = length args.a.now in
    let b = length args.b.now in
    let out = length args.out.now in
    rw (le-leb a max_words (omega arith), le-leb b max_words (omega arith), ne_eqb (out + 1) (a + b) (λ e. omega arith))

pub returns-then-is_turned : goal.returns-then-is_turned
unfolding convolve_fits
returns-then-is_turned c =
    let a = length c.args.a.now in
    let b = length c.args.b.now in
    let out = length c.args.out.now in
    rw (le-leb a max_words (omega arith), le-leb b max_words (omega arith), eq-eqb (out + 1) (a + b) (omega arith)) (c.convolve_fitting.ensures ∙ convolution-turned (field_at _) c.args.a.now c.args.b.now)

pub returns : goal.returns
unfolding convolve_fits
returns c =
    let a = length c.args.a.now in
    let b = length c.args.b.now in
    let out = length c.args.out.now in
    rw (le-leb a max_words (omega arith), le-leb b max_words (omega arith), eq-eqb (out + 1) (a + b) (omega arith)) c.convolve_fitting-2.ensures

-- `word_product::convolve` meets its contract: its tests are `convolve_fits`, and then it is the product of the factors, in one order or the other.
-- Assumes nothing.
use mathlib.Core.Path.{◌≡◌, ◌∙◌}
use mathlib.Core.Bool.{true}
use mathlib.Core.List.{List}
use Prim.Native.Nat.{ℕ, ◌+◌, ◌≤◌}
use native.Mathlib.Omega.{arith}
use lib.ListN.{length}
use borrow.Author.Tests.{eq-eqb, ne_eqb, le-leb, lt-leb}
use Rattle.refusal.specs.Limits.{max_words}
use Rattle.field.specs.Fields.{field_at}
use Rattle.word_product.specs.Convolution.{convolve_fits}
use Rattle.word_product.proofs.Convolution.{convolution-turned}
use Rattle.word_product.proofs.convolve.Goals as goal

-- where nothing is wrong
fits : (a b out : List ℕ) → length a ≤ max_words → length b ≤ max_words → length out + 1 ≡ length a + length b → convolve_fits max_words a b out ≡ true
unfolding convolve_fits
fits a b out la lb e = rw (le-leb (length a) max_words la, le-leb (length b) max_words lb, eq-eqb (length out + 1) (length a + length b) e)

pub returns-then-a-gt-MAX_WORDS : goal.returns-then-a-gt-MAX_WORDS
unfolding convolve_fits
returns-then-a-gt-MAX_WORDS c = rw (lt-leb (length c.args.a.now) max_words (omega arith))

pub returns-then-b-gt-MAX_WORDS : goal.returns-then-b-gt-MAX_WORDS
unfolding convolve_fits
returns-then-b-gt-MAX_WORDS c =
    let a = length c.args.a.now in
    let b = length c.args.b.now in
    rw (le-leb a max_words (omega arith), lt-leb b max_words (omega arith))

pub returns-then-out-a : goal.returns-then-out-a
unfolding convolve_fits
returns-then-out-a c =
    let a = length c.args.a.now in
    let b = length c.args.b.now in
    let out = length c.args.out.now in
    rw (le-leb a max_words (omega arith), le-leb b max_words (omega arith), ne_eqb (out + 1) (a + b) (λ e. omega arith))

pub returns-then-b-a : goal.returns-then-b-a
returns-then-b-a c =
    let a = c.args.a.now in
    let b = c.args.b.now in
    rw (fits a b c.args.out.now (omega arith) (omega arith) (omega arith))
    (c.convolve_fitting.ensures ∙ convolution-turned (field_at c.args.field) a b)

pub returns : goal.returns
returns c =
    let a = c.args.a.now in
    let b = c.args.b.now in
    rw (fits a b c.args.out.now (omega arith) (omega arith) (omega arith)) c.convolve_fitting-2.ensures

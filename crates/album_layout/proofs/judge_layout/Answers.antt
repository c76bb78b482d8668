-- `album_layout::judge_layout` meets its contract.
-- Assumes nothing.
use mathlib.Core.Path.{◌≡◌, sym, ap, subst, ◌∙◌}
use mathlib.Core.Bool.{true}
use Prim.Native.Nat.{ℕ}
use native.Mathlib.Numerals.{add-one}
use native.Mathlib.Omega.{arith}
use borrow.Author.Tests.{eqb-true, eqb-false}
use Rattle.refusal.specs.Limits.{max_degree}
use Rattle.album_layout.specs.Layout.{count, start_at, offsets_agree, degrees_fit}
use Rattle.album_layout.proofs.Places.{start-next, start-low, agree-next, fit_next}
use Rattle.album_layout.proofs.Judged.{layout-empty, layout-none, layout-many, layout-size, layout-place, layout-degree, layout-done}
use borrow.Author.Rules.{rules}
use Rattle.album_layout.proofs.judge_layout.Goals as goal
use Rattle.album_layout.proofs.judge_layout.Goals.{then-is_empty-via-then-is_empty, then-is_empty-via-else-is_empty+then-n-eq0, then-is_empty-via-else-is_empty+else-n-eq0+then-n-gt-MAX_LISTS, then-degree-gt-MAX_DEGREE-via-then-degree-gt-MAX_DEGREE, then-degree-gt-MAX_DEGREE-via-else-degree-gt-MAX_DEGREE+then-word_at-at}

pub returns-then-is_empty : goal.returns-then-is_empty
returns-then-is_empty c =
    elim c.then-is_empty.branch [
      | then-is_empty-via-then-is_empty w ↦ layout-empty _ (eqb-true _ 0 (sym c.is_empty.ensures ∙ w.if-is_empty.true))
      | then-is_empty-via-else-is_empty+then-n-eq0 w ↦ layout-none _ (omega arith)
      | then-is_empty-via-else-is_empty+else-n-eq0+then-n-gt-MAX_LISTS w ↦ layout-many _ (omega arith)
    ]

pub returns-then-album-at : goal.returns-then-album-at
returns-then-album-at c =
    let s = c.args.album.now in
    let some = eqb-false _ 0 (sym c.is_empty.ensures ∙ c.if-is_empty.false) in
    layout-size s (omega arith) (omega arith) (omega arith) (λ e. omega (arith, start-low s (count s)))

pub loop-k-init : goal.loop-k-init
unfolding start_at offsets_agree degrees_fit
loop-k-init c = search rules

pub returns-then-degree-gt-MAX_DEGREE : goal.returns-then-degree-gt-MAX_DEGREE
returns-then-degree-gt-MAX_DEGREE c =
    let s = c.args.album.now in
    let some = eqb-false _ 0 (sym c.is_empty.ensures ∙ c.if-is_empty.false) in
    elim c.then-degree-gt-MAX_DEGREE.branch [
      | then-degree-gt-MAX_DEGREE-via-then-degree-gt-MAX_DEGREE w ↦ layout-degree s (omega arith) (omega arith) (omega arith) c.loop-k.k (omega arith) (omega arith)
      | then-degree-gt-MAX_DEGREE-via-else-degree-gt-MAX_DEGREE+then-word_at-at w ↦ layout-place s (omega arith) (omega arith) (omega arith) c.loop-k.k (omega arith) (λ e. omega arith)
    ]

pub loop-k-preserved : goal.loop-k-preserved
loop-k-preserved c =
    let s = c.args.album.now in
    let k = c.loop-k.k in (
      omega arith,
      omega arith,
      omega arith,
      rw (add-one k) (omega (arith, start-next s k)),
      omega arith,
      rw add-one (agree-next s k c.loop-k.invariant.5 (omega arith)),
      rw add-one (fit_next s max_degree k c.loop-k.invariant.6 (omega arith)),
    )

pub returns-then-album-at-2 : goal.returns-then-album-at-2
returns-then-album-at-2 c =
    let s = c.args.album.now in
    let some = eqb-false _ 0 (sym c.is_empty.ensures ∙ c.if-is_empty.false) in
    let all : c.loop-k.k ≡ count s = omega arith in
    layout-size s (omega arith) (omega arith) (omega arith) (λ e. omega (arith, ap (start_at s) all))

pub returns : goal.returns
returns c =
    let s = c.args.album.now in
    let some = eqb-false _ 0 (sym c.is_empty.ensures ∙ c.if-is_empty.false) in
    let all : c.loop-k.k ≡ count s = omega arith in
    layout-done s (omega arith) (omega arith) (omega arith) (omega (arith, ap (start_at s) all))
    (subst (λ (k : ℕ). offsets_agree s k ≡ true) all c.loop-k.invariant.5)
    (subst (λ (k : ℕ). degrees_fit max_degree s k ≡ true) all c.loop-k.invariant.6)

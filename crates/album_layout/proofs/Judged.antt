-- What the calls refuse, as the chain of tests that the code makes.
-- Assumes nothing.
use mathlib.Core.Path.{◌≡◌, refl, sym, ◌∙◌}
use mathlib.Core.Bool.{Bool, true, false, or-true, and-false}
use mathlib.Core.List.{List, [], ◌∷◌}
use Prim.Native.Nat.{ℕ, ◌≤◌, ◌<◌}
use native.Mathlib.Omega.{arith}
use lib.Dec.{leb}
use lib.ListN.{length}
use borrow.Author.Tests.{eq-eqb, ne_eqb, lt-ltb, leb-false, le-leb, lt-leb}
use Rattle.std.specs.Prelude.{Ok, Err}
use Rattle.refusal.specs.Limits.{max_degree, max_lists}
use Rattle.refusal.specs.Lowest.{◌given-when◌, lowest}
use Rattle.refusal.specs.declared.Refusal.{Refusal}
use Rattle.refusal.specs.declared.Refusal.TheVariants.{Count, Contents, Index, LooseWord}
use Rattle.refusal.proofs.First.{refuse, or_else, first-is, first_then, refuse-done, or-else-done}
use Rattle.lists.specs.Refused.{has_loose, any_of}
use Rattle.album_layout.specs.Layout.{count, degree_at, offset_at, start_at, offsets_agree, degrees_fit, wrong_count, broken_layout, lists_of}
use Rattle.album_layout.specs.Calls.{album_refusals, check_refusals}
use Rattle.album_layout.specs.Internal.{layout_refusals, Obeys, Passed}
use Rattle.album_layout.proofs.Places.{agree_at, fit_at, obeys, right-count, right-layout}

not-true-false : (b : Bool) → (b ≡ true → ⊥) → b ≡ false
not-true-false true f = absurd (f refl)
not-true-false false f = refl

module _ (s : List ℕ) where
  layout-judged : lowest (layout_refusals s) ≡ refuse (wrong_count max_lists s) Count (refuse (broken_layout s) Contents (Ok tt))
  unfolding layout_refusals
  layout-judged = first-is (layout_refusals s) tt

  wrong-empty : length s ≡ 0 → wrong_count max_lists s ≡ true
  unfolding wrong_count
  wrong-empty e = simp (eq-eqb (length s) 0 e)

  wrong-none : count s ≡ 0 → wrong_count max_lists s ≡ true
  unfolding wrong_count
  wrong-none e = simp (eq-eqb (count s) 0 e, or-true)

  wrong-many : max_lists < count s → wrong_count max_lists s ≡ true
  unfolding wrong_count
  wrong-many l = simp (lt-ltb max_lists (count s) l, or-true)

  broken-size : (length s ≡ start_at s (count s) → ⊥) → broken_layout s ≡ true
  unfolding broken_layout
  broken-size f = simp (ne_eqb (length s) (start_at s (count s)) f)

  broken-place : offsets_agree s (count s) ≡ false → broken_layout s ≡ true
  unfolding broken_layout
  broken-place e = simp (e, and-false)

  broken-degree : degrees_fit max_degree s (count s) ≡ false → broken_layout s ≡ true
  unfolding broken_layout
  broken-degree e = simp (e, and-false)

  pub layout-empty : length s ≡ 0 → Err Count ≡ lowest (layout_refusals s)
  layout-empty e = sym (layout-judged ∙ simp (wrong-empty e))

  pub layout-none : count s ≡ 0 → Err Count ≡ lowest (layout_refusals s)
  layout-none e = sym (layout-judged ∙ simp (wrong-none e))

  pub layout-many : max_lists < count s → Err Count ≡ lowest (layout_refusals s)
  layout-many l = sym (layout-judged ∙ simp (wrong-many l))

  module _ (some : 0 < length s) (low : 0 < count s) (few : count s ≤ max_lists) where
    pub layout-size : (length s ≡ start_at s (count s) → ⊥) → Err Contents ≡ lowest (layout_refusals s)
    layout-size f = sym (layout-judged ∙ simp (right-count s some low few, broken-size f))

    pub layout-place : (k : ℕ) → k < count s → (offset_at s k ≡ start_at s k → ⊥) → Err Contents ≡ lowest (layout_refusals s)
    layout-place k l f =
        sym (layout-judged ∙ simp (right-count s some low few, broken-place (not-true-false _ (λ t. f (agree_at s k (count s) l t)))))

    pub layout-degree : (k : ℕ) → k < count s → max_degree < degree_at s k → Err Contents ≡ lowest (layout_refusals s)
    layout-degree k l m =
        sym (layout-judged ∙ simp (right-count s some low few, broken-degree (not-true-false _ (λ t. let d = fit_at s max_degree k (count s) l t in omega arith))))

    pub layout-done : length s ≡ start_at s (count s) → offsets_agree s (count s) ≡ true → degrees_fit max_degree s (count s) ≡ true → Ok tt ≡ lowest (layout_refusals s)
    layout-done e t d = sym (layout-judged ∙ simp (right-count s some low few, right-layout s e t d))

  pub layout-obeys : lowest (layout_refusals s) ≡ Ok tt → Obeys s
  layout-obeys e =
      let w = refuse-done (wrong_count max_lists s) _ _ (sym layout-judged ∙ e) in
      obeys s w.0 (refuse-done (broken_layout s) _ _ w.1).0

module _ (p : ℕ) (s : List ℕ) where
  album-judged : lowest (album_refusals p s) ≡ or_else (lowest (layout_refusals s)) (refuse (any_of (has_loose p) (lists_of s)) LooseWord (Ok tt))
  unfolding album_refusals layout_refusals
  album-judged = first_then (layout_refusals s) (LooseWord given-when any_of (has_loose p) (lists_of s) ∷ []) tt

  pub album-refused : {why : Refusal} → lowest (layout_refusals s) ≡ Err why → Err why ≡ lowest (album_refusals p s)
  album-refused e = sym (album-judged ∙ simp e)

  module _ (e : lowest (layout_refusals s) ≡ Ok tt) where
    pub album-loose : any_of (has_loose p) (lists_of s) ≡ true → Err LooseWord ≡ lowest (album_refusals p s)
    album-loose t = sym (album-judged ∙ simp (e, t))

    pub album-done : any_of (has_loose p) (lists_of s) ≡ false → Ok tt ≡ lowest (album_refusals p s)
    album-done t = sym (album-judged ∙ simp (e, t))

  -- an album that passed
  pub album-fine : Passed p s → (lowest (layout_refusals s) ≡ Ok tt) × (any_of (has_loose p) (lists_of s) ≡ false)
  album-fine e =
      let d = or-else-done (lowest (layout_refusals s)) _ (sym album-judged ∙ e) in
      (d.0, (refuse-done (any_of (has_loose p) (lists_of s)) _ _ d.1).0)

module _ (p : ℕ) (s : List ℕ) (i : ℕ) where
  call-judged : lowest (check_refusals p s i)
      ≡ or_else (lowest (layout_refusals s)) (refuse (leb (count s) i) Index (refuse (any_of (has_loose p) (lists_of s)) LooseWord (Ok tt)))
  unfolding check_refusals layout_refusals
  call-judged =
      first_then (layout_refusals s) (Index given-when leb (count s) i ∷ LooseWord given-when any_of (has_loose p) (lists_of s) ∷ []) tt

  pub call-refused : {why : Refusal} → lowest (layout_refusals s) ≡ Err why → Err why ≡ lowest (check_refusals p s i)
  call-refused e = sym (call-judged ∙ simp e)

  module _ (e : lowest (layout_refusals s) ≡ Ok tt) where
    pub call-index : count s ≤ i → Err Index ≡ lowest (check_refusals p s i)
    call-index l = sym (call-judged ∙ simp (e, le-leb (count s) i l))

    module _ (l : i < count s) where
      pub call-loose : any_of (has_loose p) (lists_of s) ≡ true → Err LooseWord ≡ lowest (check_refusals p s i)
      call-loose t = sym (call-judged ∙ simp (e, lt-leb (count s) i l, t))

      pub call-done : any_of (has_loose p) (lists_of s) ≡ false → Ok tt ≡ lowest (check_refusals p s i)
      call-done t = sym (call-judged ∙ simp (e, lt-leb (count s) i l, t))

  -- a list that can be read
  pub call-fine : lowest (check_refusals p s i) ≡ Ok tt → Obeys s × (i < count s)
  call-fine e =
      let d = or-else-done (lowest (layout_refusals s)) _ (sym call-judged ∙ e) in
      (layout-obeys s d.0, leb-false (count s) i (refuse-done (leb (count s) i) _ _ d.1).0)

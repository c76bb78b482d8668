-- What a call refuses in its lists, and what a call that refuses nothing knows of them.
--     judged                     the lowest number that applies, as the chain of tests that the code makes
--     one-listed, two-listed     the lists of a call that refuses nothing have 1 to `most` words, each below p
--     one_passes                 such a list is not refused
-- Assumes nothing.
use mathlib.Core.Path.{◌≡◌, sym, ◌∙◌}
use mathlib.Core.Bool.{false}
use mathlib.Core.List.{List, [], ◌∷◌}
use Prim.Native.Nat.{ℕ, ◌<◌}
use native.Mathlib.Omega.{arith}
use lib.Dec.{eqb, ltb}
use lib.ListN.{length}
use borrow.Author.Tests.{eqb-false, ltb-false, ne_eqb, le-ltb}
use Rattle.std.specs.Prelude.{Ok}
use Rattle.refusal.specs.Lowest.{lowest}
use Rattle.refusal.specs.declared.Refusal.TheVariants.{Length, LooseWord}
use Rattle.refusal.proofs.First.{refuse, first-is, refuse-done, or-false}
use Rattle.lists.specs.Refused.{wrong_length, has_loose, any_of, list_refusals, IsList}
use Rattle.lists.proofs.Search.{none-loose, tight}

pub judged : (p most : ℕ) (lists : List (List ℕ)) → lowest (list_refusals p most lists) ≡ refuse (any_of (wrong_length most) lists) Length (refuse (any_of (has_loose p) lists) LooseWord (Ok tt))
unfolding list_refusals
judged p most lists = first-is (list_refusals p most lists) tt

module _ (p most : ℕ) (big : 0 < p) where
  listed : (c : List ℕ) → wrong_length most c ≡ false → has_loose p c ≡ false → IsList p most c
  unfolding wrong_length
  listed c e l =
      let tests = or-false (eqb (length c) 0) (ltb most (length c)) e in
      let words = eqb-false (length c) 0 tests.0 in
      record { some = omega arith; short = ltb-false most (length c) tests.1; words = none-loose p c big l }

  pub one-listed : (f : List ℕ) → lowest (list_refusals p most (f ∷ [])) ≡ Ok tt → IsList p most f
  one-listed f e =
      let lengths = refuse-done (any_of (wrong_length most) (f ∷ [])) _ _ (sym (judged p most (f ∷ [])) ∙ e) in
      let words = refuse-done (any_of (has_loose p) (f ∷ [])) _ _ lengths.1 in
      listed f (or-false (wrong_length most f) false lengths.0).0 (or-false (has_loose p f) false words.0).0

  pub two-listed : (f g : List ℕ) → lowest (list_refusals p most (f ∷ g ∷ [])) ≡ Ok tt → IsList p most f × IsList p most g
  two-listed f g e =
      let lengths = refuse-done (any_of (wrong_length most) (f ∷ g ∷ [])) _ _ (sym (judged p most (f ∷ g ∷ [])) ∙ e) in
      let words = refuse-done (any_of (has_loose p) (f ∷ g ∷ [])) _ _ lengths.1 in
      let first-length = or-false (wrong_length most f) (any_of (wrong_length most) (g ∷ [])) lengths.0 in
      let first-words = or-false (has_loose p f) (any_of (has_loose p) (g ∷ [])) words.0 in
      (listed f first-length.0 first-words.0, listed g (or-false (wrong_length most g) false first-length.1).0 (or-false (has_loose p g) false first-words.1).0)

-- a list that no call refuses passes
module _ (p most : ℕ) (c : List ℕ) (l : IsList p most c) where
  pub right-length : wrong_length most c ≡ false
  unfolding wrong_length
  right-length =
      let some = l.some in
      simp (ne_eqb (length c) 0 (λ e. omega arith), le-ltb most (length c) l.short)

  pub one_passes : lowest (list_refusals p most (c ∷ [])) ≡ Ok tt
  one_passes = judged p most (c ∷ []) ∙ simp (right-length, tight p c l.words)

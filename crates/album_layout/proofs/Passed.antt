-- What an album gives that passed: no call refuses any of its lists.
-- Assumes nothing.
use mathlib.Core.Path.{◌≡◌, sym, ◌∙◌, ap}
use mathlib.Core.Bool.{false}
use mathlib.Core.List.{List, [], ◌∷◌}
use Prim.Native.Nat.{ℕ, zero, suc, ◌≤◌, ◌<◌}
use native.Mathlib.Omega.{arith}
use lib.Dec.{leb}
use lib.ListN.{length, get_or}
use borrow.Author.Tests.{leb-false}
use Rattle.std.specs.Prelude.{Ok}
use Rattle.refusal.specs.Limits.{max_words}
use Rattle.refusal.specs.Lowest.{lowest}
use Rattle.refusal.proofs.First.{or-false}
use Rattle.lists.specs.Refused.{has_loose, any_of, IsList}
use Rattle.lists.proofs.Search.{none-loose}
use Rattle.album_layout.specs.Layout.{count, nth_list, lists_of}
use Rattle.album_layout.specs.Calls.{check_refusals}
use Rattle.album_layout.specs.Internal.{Obeys, Passed}
use Rattle.album_layout.proofs.Places.{length-list, length-lists, list_at}
use Rattle.album_layout.proofs.Judged.{layout-obeys, album-fine, call-done}

module _ (p : ℕ) where
  none-loose-at : (lists : List (List ℕ)) → any_of (has_loose p) lists ≡ false → (i : ℕ) → i < length lists → has_loose p (get_or lists i []) ≡ false
  none-loose-at [] t i l = absurd (omega arith)
  none-loose-at (c ∷ lists) t zero l = (or-false (has_loose p c) (any_of (has_loose p) lists) t).0
  none-loose-at (c ∷ lists) t (suc i) l = none-loose-at lists (or-false (has_loose p c) (any_of (has_loose p) lists) t).1 i (omega arith)

  -- a word below p is there
  positive : (c : List ℕ) → 0 < length c → has_loose p c ≡ false → 0 < p
  unfolding has_loose
  positive [] l e = absurd (omega arith)
  positive (x ∷ c) l e = let b = leb-false p x (or-false (leb p x) (has_loose p c) e).0 in omega arith

  module _ (s : List ℕ) (e : Passed p s) where
    pub passed-obeys : Obeys s
    passed-obeys = layout-obeys s (album-fine p s e).0

    pub passed-call : (i : ℕ) → i < count s → lowest (check_refusals p s i) ≡ Ok tt
    passed-call i l = sym (call-done p s i (album-fine p s e).0 l (album-fine p s e).1)

    tight : (i : ℕ) → i < count s → has_loose p (nth_list s i) ≡ false
    tight i l =
        ap (has_loose p) (sym (list_at s i l))
        ∙ none-loose-at (lists_of s) (album-fine p s e).1 i (let n = length-lists s in omega arith)

    pub passed-listed : (most i : ℕ) → i < count s → length (nth_list s i) ≤ most → IsList p most (nth_list s i)
    passed-listed most i l short =
        let some : 0 < length (nth_list s i) = omega (arith, length-list s i) in
        record { some = some; short = short; words = none-loose p (nth_list s i) (positive (nth_list s i) some (tight i l)) (tight i l) }

    -- no list has more words than the limit
    pub passed-each : (most : ℕ) → max_words ≤ most → (i : ℕ) → i < length (lists_of s) → IsList p most (get_or (lists_of s) i [])
    passed-each most room i l =
        let k : i < count s = omega (arith, length-lists s) in
        rw (list_at s i k) (passed-listed most i k (omega (arith, length-list s i, passed-obeys.short i k)))

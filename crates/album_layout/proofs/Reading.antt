-- What the tests of an album's layout give its reader: theorems that the code does not need.
--     album-is-read     an album that obeys its layout and has no loose word is read: a call on any of its lists is done
--     album-bytes       an album that obeys its layout has at most max_bytes bytes
-- Assumes nothing.
use mathlib.Core.Path.{◌≡◌}
use mathlib.Core.Bool.{false}
use mathlib.Core.List.{List}
use Prim.Native.Nat.{ℕ, ◌≤◌, ◌<◌}
use native.Mathlib.Omega.{arith}
use lib.ListN.{length}
use borrow.Author.Tests.{lt-leb}
use Rattle.std.specs.Prelude.{Ok}
use Rattle.refusal.specs.Limits.{max_lists, max_bytes}
use Rattle.refusal.specs.Lowest.{lowest}
use Rattle.lists.specs.Refused.{has_loose, any_of}
use Rattle.album_layout.specs.Layout.{count, wrong_count, broken_layout, lists_of}
use Rattle.album_layout.specs.Calls.{check_refusals}
use Rattle.album_layout.proofs.Places.{start-high, obeys}

module _ (s : List ℕ) (counted : wrong_count max_lists s ≡ false) (laid : broken_layout s ≡ false) where
  pub album-is-read : (p : ℕ) → any_of (has_loose p) (lists_of s) ≡ false → (i : ℕ) → i < count s → lowest (check_refusals p s i) ≡ Ok tt
  unfolding lowest check_refusals
  album-is-read p tight i l = simp (counted, laid, tight, lt-leb (count s) i l)

  pub album-bytes : length s ≤ max_bytes
  album-bytes = let o = obeys s counted laid in omega (arith, o.few, o.whole, start-high s (count s) o.short)

-- The loop that takes the largest word of a list: the largest word so far and the words that are left tell whether the list has a loose word.
--     loose_from c m i                m or a word of c from i on is loose
--     loose-start, loose-end          before the loop and at its end
--     loose-next                      one word on
-- Assumes nothing.
use mathlib.Core.Path.{◌≡◌, refl}
use mathlib.Core.Bool as bool
use mathlib.Core.Bool.{Bool, ◌||◌}
use mathlib.Core.List.{List}
use Prim.Native.Nat.{ℕ, suc, ◌+◌, ◌≤◌, ◌<◌, max}
use native.Mathlib.Decide.{dec_le}
use native.Mathlib.Numerals.{add-one}
use native.Mathlib.Omega.{arith}
use lib.Dec.{leb}
use lib.ListN.{length, get_or, drop}
use lib.Seq.{drop-cons, drop-length}
use borrow.Author.Tests.{le-leb, lt-leb}
use Rattle.lists.specs.Refused.{has_loose}

module _ (p : ℕ) where
  -- m or a word from i on is loose
  abbrev pub loose_from : List ℕ → (m i : ℕ) → Bool
  loose_from c m i = leb p m || has_loose p (drop i c)

  pub loose-start : (c : List ℕ) → 0 < p → has_loose p c ≡ loose_from c 0 0
  loose-start c pos = rw (lt-leb p 0 pos)

  module _ (c : List ℕ) (m i : ℕ) (l : i < length c) where
    pub loose-next : {n : ℕ} → n ≡ max m (get_or c i 0) → loose_from c m i ≡ loose_from c n (i + 1)
    unfolding has_loose
    loose-next {n} e = go (dec_le p m)
      where
        go : Dec (p ≤ m) → loose_from c m i ≡ loose_from c n (i + 1)
        go (yes g) = rw (le-leb p m g, le-leb p n (omega arith)) refl
        go (no g) = rw (lt-leb p m (omega arith), add-one, drop-cons c i 0) (same (dec_le p (get_or c i 0)))
          where
            same : Dec (p ≤ get_or c i 0) → (leb p (get_or c i 0) || has_loose p (drop (suc i) c)) ≡ (leb p n || has_loose p (drop (suc i) c))
            same (yes h) = rw (le-leb p (get_or c i 0) h, le-leb p n (omega arith)) refl
            same (no h) = rw (lt-leb p (get_or c i 0) (omega arith), lt-leb p n (omega arith)) refl

  pub loose-end : (c : List ℕ) (m i : ℕ) → i ≡ length c → loose_from c m i ≡ leb p m
  unfolding has_loose
  loose-end c m i e = rw (e, drop-length) (bool.or-false (leb p m))

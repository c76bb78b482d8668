-- Lists with no loose word.
--     tight-at                              p by another name
--     tight-take, tight-drop, tight-rest    parts of such a list
--     tight-append                          two such lists
-- Assumes nothing.
use mathlib.Core.Path.{◌≡◌}
use mathlib.Core.List.{List, ◌++◌}
use Prim.Native.Nat.{ℕ, ◌+◌, ◌-◌, ◌<◌}
use native.Mathlib.Decide.{dec_lt}
use native.Mathlib.Omega.{arith}
use lib.ListN.{length, get_or, take, drop, length-take, get_or-append, get_or-eq_default}
use lib.Seq.{get_or-take, get_or-drop, get_or-append-add}
use Rattle.lists.specs.Words.{Tight}

pub tight-at : {q p : ℕ} {x : List ℕ} → q ≡ p → Tight p x → Tight q x
tight-at e t = rw e t

-- past its end a list has the word 0
tight-some : {p : ℕ} {x : List ℕ} → Tight p x → 0 < p
tight-some t = let l = t.at 0 in omega arith

pub tight-take : {p : ℕ} {x : List ℕ} (n : ℕ) → Tight p x → Tight p (take n x)
tight-take {p} {x} n t = record { at = λ k. go k (dec_lt k n) }
  where
    go : (k : ℕ) → Dec (k < n) → get_or (take n x) k 0 < p
    go k (yes l) = rw (get_or-take n x k 0 l) (t.at k)
    go k (no l) = rw (get_or-eq_default (take n x) 0 {n = k} (let e = length-take n x in omega arith)) (tight-some t)

pub tight-drop : {p : ℕ} {x : List ℕ} (n : ℕ) → Tight p x → Tight p (drop n x)
tight-drop {p} {x} n t = record { at = λ k. rw (get_or-drop n x k 0) (t.at (n + k)) }

pub tight-rest : {p : ℕ} {x : List ℕ} (n : ℕ) → Tight p x → Tight p (take (length x - n) (drop n x))
tight-rest {p} {x} n t = tight-take (length x - n) (tight-drop n t)

pub tight-append : {p : ℕ} {z w : List ℕ} → Tight p z → Tight p w → Tight p (z ++ w)
tight-append {p} {z} {w} a b = record { at = λ k. go k (dec_lt k (length z)) }
  where
    go : (k : ℕ) → Dec (k < length z) → get_or (z ++ w) k 0 < p
    go k (yes l) = rw (get_or-append z w 0 k l) (a.at k)
    go k (no l) =
        let e : k ≡ length z + (k - length z) = omega arith in
        rw (e, get_or-append-add z w (k - length z) 0) (b.at (k - length z))

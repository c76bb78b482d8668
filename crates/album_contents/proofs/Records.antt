-- The records of an album, one by one and in the lent slice.
--     after     the slice after its first i records are written
-- Assumes nothing.
use mathlib.Core.Path.{◌≡◌, refl, sym, ap, ap₂, ◌∙◌}
use mathlib.Core.List.{List, [], ◌∷◌, ◌++◌}
use Prim.Native.Nat.{ℕ, zero, suc, ◌+◌, ◌≤◌, ◌<◌}
use native.Mathlib.Omega.{arith}
use lib.ListN.{length, take, set, length-set}
use lib.Seq.{take_all, take-suc-set}
use borrow.Author.Tests.{lt-ltb, le-ltb}
use Rattle.std.specs.Prelude.{Ok}
use Rattle.refusal.specs.Limits.{max_lists}
use Rattle.refusal.specs.Lowest.{lowest}
use Rattle.album_layout.specs.Layout.{count, degree_at, offset_at}
use Rattle.album_contents.specs.Calls.{record_at, records_from, contents_rows, filled}
use Rattle.album_contents.specs.declared.Entry.{Entry}
use Rattle.album_contents.proofs.Judged.{fit_all}

abbrev entry : ℕ → ℕ → Entry
entry o d = record { offset = o; degree = d }

module _ (s : List ℕ) (k : ℕ) where
  -- of what an entry says
  pub record-listed : k < count s → {degree offset : ℕ} → degree ≡ degree_at s k → offset ≡ offset_at s k → entry offset degree ≡ record_at s k
  unfolding record_at
  record-listed l d o = ap₂ entry o d ∙ sym (simp (lt-ltb k (count s) l))

  pub record-past : count s ≤ k → entry 0 0 ≡ record_at s k
  unfolding record_at
  record-past l = sym (simp (le-ltb k (count s) l))

abbrev pub after : List ℕ → List Entry → ℕ → List Entry
after s xs zero = xs
after s xs (suc i) = set (after s xs i) i (record_at s i)

pub length-after : (s : List ℕ) (xs : List Entry) (i : ℕ) → length (after s xs i) ≡ length xs
length-after s xs zero = refl
length-after s xs (suc i) = length-set (after s xs i) i (record_at s i) ∙ length-after s xs i

-- one more record, at the end
records-last : (s : List ℕ) (k n : ℕ) → records_from s k (suc n) ≡ records_from s k n ++ (record_at s (k + n) ∷ [])
unfolding records_from
records-last s k zero = ap (λ j. record_at s j ∷ []) (omega arith)
records-last s k (suc n) =
    ap (λ l. record_at s k ∷ l) (records-last s (suc k) n ∙ ap (λ j. records_from s (suc k) n ++ (record_at s j ∷ [])) (omega arith))

after_first : (s : List ℕ) (xs : List Entry) (i : ℕ) → i ≤ length xs → take i (after s xs i) ≡ records_from s 0 i
unfolding records_from
after_first s xs zero l = refl
after_first s xs (suc i) l =
    take-suc-set (after s xs i) i (record_at s i) (omega (arith, length-after s xs i))
    ∙ ap₂ (λ t j. t ++ (record_at s j ∷ [])) (after_first s xs i (omega arith)) (omega arith)
    ∙ sym (records-last s 0 i)

after-all : (s : List ℕ) (xs : List Entry) (n : ℕ) → length xs ≡ n → after s xs n ≡ records_from s 0 n
after-all s xs n e = sym (take_all n (after s xs n) (omega (arith, length-after s xs n))) ∙ after_first s xs n (omega arith)

-- the slice after all its records are written
pub after_done : (p : ℕ) (s : List ℕ) (xs : List Entry) → lowest (contents_rows p s (length xs)) ≡ Ok tt → (n : ℕ) → n ≡ length xs
    → after s xs n ≡ filled (lowest (contents_rows p s (length xs))) (records_from s 0 max_lists) xs
after_done p s xs e n q =
    let all : n ≡ max_lists = q ∙ fit_all p s (length xs) e in
    after-all s xs n (sym q) ∙ ap (records_from s 0) all ∙ sym (ap (λ r. filled r (records_from s 0 max_lists) xs) e)

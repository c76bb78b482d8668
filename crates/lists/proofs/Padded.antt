-- A list followed by zeros.
--     length-padded, get_or-padded     its length, and its words one by one
--     padded-is                        n words that agree with c, and with 0 past its end, are c followed by zeros
-- Assumes nothing.
use mathlib.Core.Path.{◌≡◌, sym, ◌∙◌}
use mathlib.Core.List.{List}
use Prim.Native.Nat.{ℕ, ◌-◌, ◌≤◌, ◌<◌}
use native.Mathlib.Decide.{dec_lt}
use native.Mathlib.Omega.{arith}
use lib.ListN.{get_or, length, replicate, length-append, length-replicate, get_or-replicate, get_or-eq_default}
use lib.Seq.{ext_get_or}
use Rattle.lists.proofs.Parts.{get_or-then-zeros}
use Rattle.lists.specs.Padded.{padded}

-- the zeros after c
abbrev zeros : ℕ → List ℕ → List ℕ
zeros n c = replicate (n - length c) 0

length-zeros : (n : ℕ) (c : List ℕ) → length (zeros n c) ≡ n - length c
length-zeros n c = length-replicate {A = ℕ} (n - length c) 0

pub length-padded : (n : ℕ) (c : List ℕ) → length c ≤ n → length (padded n c) ≡ n
unfolding padded
length-padded n c l = let e = length-zeros n c in length-append c (zeros n c) ∙ omega arith

-- no words are left out
pub padded-inside : (n : ℕ) (c : List ℕ) → length c ≤ length (padded n c)
unfolding padded
padded-inside n c = omega (arith, length-append c (zeros n c))

-- c's words, then zeros
pub get_or-padded : (n : ℕ) (c : List ℕ) (k : ℕ) → get_or (padded n c) k 0 ≡ get_or c k 0
unfolding padded
get_or-padded n c k = get_or-then-zeros c (zeros n c) (λ i. zero-at i (dec_lt _ _)) k
  where
    zero-at : (i : ℕ) → Dec (i < n - length c) → get_or (zeros n c) i 0 ≡ 0
    zero-at i (yes l) = get_or-replicate (n - length c) i 0 0 l
    zero-at i (no l) = let e = length-zeros n c in get_or-eq_default (zeros n c) 0 (omega arith)

-- n words that agree with c are c followed by zeros
pub padded-is : (n : ℕ) (c l : List ℕ) → length c ≤ n → length l ≡ n → ((k : ℕ) → k < n → get_or l k 0 ≡ get_or c k 0) → l ≡ padded n c
padded-is n c l few e h =
    ext_get_or 0 l (padded n c) (e ∙ sym (length-padded n c few)) (λ k j. h k (omega arith) ∙ sym (get_or-padded n c k))

-- Whether every list is zero.
-- Assumes nothing.
use mathlib.Core.Path.{◌≡◌, refl, sym, ◌∙◌}
use mathlib.Core.Bool.{true, false}
use mathlib.Core.List.{List, [], ◌∷◌}
use Prim.Native.Nat.{ℕ, zero, suc, ◌<◌}
use native.Mathlib.Decide.{ℕ_discrete}
use native.Mathlib.Omega.{arith}
use lib.ListN.{get_or}
use borrow.Author.Tests.{eq-eqb, ne_eqb}
use Rattle.lists.specs.Degrees.{significant}
use Rattle.euclid_theory.proofs.Powers.{significant-nil}
use Rattle.album_gcd.specs.Calls.{all_zero}

zero-first : (c : List ℕ) (lists : List (List ℕ)) → significant c ≡ 0 → all_zero (c ∷ lists) ≡ all_zero lists
unfolding all_zero
zero-first c lists e = rw (eq-eqb (significant c) 0 e)

nonzero-first : (c : List ℕ) (lists : List (List ℕ)) → ¬ (significant c ≡ 0) → all_zero (c ∷ lists) ≡ false
unfolding all_zero
nonzero-first c lists h = rw (ne_eqb (significant c) 0 h)

zero-none : all_zero [] ≡ true
unfolding all_zero
zero-none = refl

-- where not every list is zero, one of them is not
pub record Nonzero (lists : List (List ℕ)) : Type 0 where
  pub index : ℕ
  pub some : 0 < significant (get_or lists index [])

pub nonzero : (lists : List (List ℕ)) → all_zero lists ≡ false → Nonzero lists
nonzero [] e = absurd (let z : ◌≡◌ {A = ℕ} 0 1 = cc (zero-none) in omega arith)
nonzero (c ∷ lists) e = go (ℕ_discrete (significant c) 0) (nonzero lists)
  where
    go : Dec (significant c ≡ 0) → (all_zero lists ≡ false → Nonzero lists) → Nonzero (c ∷ lists)
    go (yes z) ih = let r = ih (sym (zero-first c lists z) ∙ e) in record { index = suc r.index; some = r.some }
    go (no h) ih = record { index = 0; some = omega arith }

-- and where one is not, not every list is zero
pub some-nonzero : (lists : List (List ℕ)) (i : ℕ) → 0 < significant (get_or lists i []) → all_zero lists ≡ false
some-nonzero [] i l = absurd (let z = significant-nil in omega arith)
some-nonzero (c ∷ lists) i l = go (ℕ_discrete (significant c) 0) i l (some-nonzero lists)
  where
    go : Dec (significant c ≡ 0) → (i : ℕ) → 0 < significant (get_or (c ∷ lists) i [])
        → ((j : ℕ) → 0 < significant (get_or lists j []) → all_zero lists ≡ false) → all_zero (c ∷ lists) ≡ false
    go (no h) i l ih = nonzero-first c lists h
    go (yes z) zero l ih = absurd (omega arith)
    go (yes z) (suc i) l ih = zero-first c lists z ∙ ih i l

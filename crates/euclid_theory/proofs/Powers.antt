-- The common power of some lists: the least of the powers of those that are not zero.
--     Attained          the common power is the power of one of the lists, which is not zero
-- Assumes nothing.
use mathlib.Core.Path.{◌≡◌, refl, sym, ◌∙◌, ap}
use mathlib.Core.Logic.{◌⊎◌, inl, inr}
use mathlib.Core.Bool.{cond}
use mathlib.Core.List.{List, [], ◌∷◌}
use Prim.Native.Nat.{ℕ, zero, suc, ◌≤◌, ◌<◌, min}
use native.Mathlib.Nat as N
use native.Mathlib.Decide.{dec_le, ℕ_discrete}
use native.Mathlib.Omega.{arith}
use lib.ListN.{get_or}
use borrow.Author.Tests.{eq-eqb, ne_eqb}
use Rattle.lists.specs.Degrees.{significant, power}
use Rattle.lists.proofs.Extents.{significant-le}
use Rattle.euclid_theory.specs.Gcd.{powers, least, common_power}

least-one : (a : ℕ) → least (a ∷ []) ≡ a
unfolding least
least-one a = refl

least_more : (a b : ℕ) (rest : List ℕ) → least (a ∷ b ∷ rest) ≡ min a (least (b ∷ rest))
unfolding least
least_more a b rest = refl

powers-none : powers [] ≡ []
unfolding powers
powers-none = refl

powers-zero : (c : List ℕ) (lists : List (List ℕ)) → significant c ≡ 0 → powers (c ∷ lists) ≡ powers lists
unfolding powers
powers-zero c lists e = ap (λ b. cond b (powers lists) (power c ∷ powers lists)) (eq-eqb (significant c) 0 e)

powers-nonzero : (c : List ℕ) (lists : List (List ℕ)) → ¬ (significant c ≡ 0) → powers (c ∷ lists) ≡ power c ∷ powers lists
unfolding powers
powers-nonzero c lists h = ap (λ b. cond b (powers lists) (power c ∷ powers lists)) (ne_eqb (significant c) 0 h)

-- list i; past the end, the list of no words
abbrev list : List (List ℕ) → ℕ → List ℕ
list lists i = get_or lists i []

pub record Attained (lists : List (List ℕ)) : Type 0 where
  pub index : ℕ
  pub some : 0 < significant (get_or lists index [])
  pub is : common_power lists ≡ power (get_or lists index [])

record Common (lists : List (List ℕ)) : Type 0 where
  none : powers lists ≡ [] → (i : ℕ) → significant (list lists i) ≡ 0
  le : (i : ℕ) → 0 < significant (list lists i) → common_power lists ≤ power (list lists i)
  is : (powers lists ≡ []) ⊎ Attained lists

cons-not-nil : (a : ℕ) (l : List ℕ) → a ∷ l ≡ [] → ⊥
cons-not-nil a l e = let z : ◌≡◌ {A = ℕ} 0 1 = cc in omega arith

pub significant-nil : significant [] ≡ 0
significant-nil = let l = significant-le [] in omega arith

common : (lists : List (List ℕ)) → Common lists
unfolding common_power
common [] =
    record { none = λ e i. significant-nil; le = λ i l. absurd (let q = significant-nil in omega arith); is = inl powers-none }
common (c ∷ lists) = go (common lists) (ℕ_discrete (significant c) 0)
  where
    go : Common lists → Dec (significant c ≡ 0) → Common (c ∷ lists)
    go ih (yes e) = record { none = none; le = le; is = is ih.is }
      where
        none : powers (c ∷ lists) ≡ [] → (i : ℕ) → significant (list (c ∷ lists) i) ≡ 0
        none q zero = e
        none q (suc i) = ih.none (sym (powers-zero c lists e) ∙ q) i

        le : (i : ℕ) → 0 < significant (list (c ∷ lists) i) → least (powers (c ∷ lists)) ≤ power (list (c ∷ lists) i)
        le zero l = absurd (omega arith)
        le (suc i) l = rw (powers-zero c lists e) (ih.le i l)

        is : (powers lists ≡ []) ⊎ Attained lists → (powers (c ∷ lists) ≡ []) ⊎ Attained (c ∷ lists)
        is (inl q) = inl (powers-zero c lists e ∙ q)
        is (inr a) = inr (record { index = suc a.index; some = a.some; is = ap least (powers-zero c lists e) ∙ a.is })
    go ih (no e) = split (powers lists) refl
      where
        none : powers (c ∷ lists) ≡ [] → (i : ℕ) → significant (list (c ∷ lists) i) ≡ 0
        none z = absurd (cons-not-nil _ _ (sym (powers-nonzero c lists e) ∙ z))

        split : (l : List ℕ) → powers lists ≡ l → Common (c ∷ lists)
        split [] q = record { none = none; le = le; is = inr (record { index = 0; some = omega arith; is = same }) }
          where
            same : least (powers (c ∷ lists)) ≡ power c
            same = ap least (powers-nonzero c lists e ∙ ap (λ l. power c ∷ l) q) ∙ least-one (power c)

            le : (i : ℕ) → 0 < significant (list (c ∷ lists) i) → least (powers (c ∷ lists)) ≤ power (list (c ∷ lists) i)
            le zero l = N.le_of_eq same
            le (suc i) l = absurd (let z = ih.none q i in omega arith)
        split (b ∷ rest) q = record { none = none; le = le; is = inr (is ih.is) }
          where
            same : least (powers (c ∷ lists)) ≡ min (power c) (least (powers lists))
            same =
                ap least (powers-nonzero c lists e ∙ ap (λ l. power c ∷ l) q) ∙ least_more (power c) b rest
                ∙ ap (λ l. min (power c) (least l)) (sym q)

            le : (i : ℕ) → 0 < significant (list (c ∷ lists) i) → least (powers (c ∷ lists)) ≤ power (list (c ∷ lists) i)
            le zero j = omega (arith, same)
            le (suc i) j = let k = ih.le i j in omega (arith, same)

            is : (powers lists ≡ []) ⊎ Attained lists → Attained (c ∷ lists)
            is (inl z) = absurd (cons-not-nil b rest (sym q ∙ z))
            is (inr a) = pick (dec_le (power c) (least (powers lists)))
              where
                pick : Dec (power c ≤ least (powers lists)) → Attained (c ∷ lists)
                pick (yes j) = record { index = 0; some = omega arith; is = same ∙ (omega arith) }
                pick (no j) = record { index = suc a.index; some = a.some; is = same ∙ (omega arith) ∙ a.is }

-- at most the power of each list that is not zero
pub common_power-le : (lists : List (List ℕ)) (i : ℕ) → 0 < significant (get_or lists i []) → common_power lists ≤ power (get_or lists i [])
common_power-le lists = (common lists).le

-- and the power of one of them, where there is one
pub common_power-attained : (lists : List (List ℕ)) (i : ℕ) → 0 < significant (get_or lists i []) → Attained lists
common_power-attained lists i l = go (common lists).is
  where
    go : (powers lists ≡ []) ⊎ Attained lists → Attained lists
    go (inl e) = absurd (let z = (common lists).none e i in omega arith)
    go (inr a) = a

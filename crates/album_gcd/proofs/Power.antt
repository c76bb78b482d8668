-- The least power of the lists that are not zero, found by a loop.
--     Lowest i a     a is the power of a list that is not zero, and at most that of each such list below i; none where these are all zero
-- Assumes nothing.
use mathlib.Core.Path.{◌≡◌, refl, ◌∙◌, ap}
use mathlib.Core.Bool.{Bool, true, false}
use mathlib.Core.List.{List, []}
use Prim.Native.Nat.{ℕ, min, ◌+◌, ◌≤◌, ◌<◌}
use native.Mathlib.Decide.{ℕ_discrete, dec_lt}
use native.Mathlib.Omega.{arith}
use lib.ListN.{get_or, length, get_or-eq_default}
use borrow.Author.Tests.{eq-eqb, ne_eqb}
use Rattle.std.specs.Prelude.{Option, Some, None}
use Rattle.std.specs.Option.{MatchOption}
use Rattle.lists.specs.Degrees.{significant, power}
use Rattle.euclid_theory.specs.Gcd.{common_power}
use Rattle.euclid_theory.proofs.Powers.{significant-nil, common_power-le, common_power-attained}
use Rattle.album_gcd.specs.Calls.{all_zero}
use Rattle.album_gcd.specs.Internal.{least_of, least_with, IsLeast}
use Rattle.album_gcd.proofs.Zeros.{nonzero, some-nonzero}

module _ (a : Option ℕ) (c : List ℕ) where
  pub least_zero : significant c ≡ 0 → least_with a c ≡ a
  unfolding least_with
  least_zero e = rw (eq-eqb (significant c) 0 e)

  pub least-nonzero : ¬ (significant c ≡ 0) → least_with a c ≡ Some (least_of a (power c))
  unfolding least_with
  least-nonzero f = rw (ne_eqb (significant c) 0 f)

-- what `map_or` gives
pub least-is : (o : Option ℕ) (d r : ℕ) {P : ℕ → Type 0} → MatchOption o (r ≡ d) P → ((x : ℕ) → P x → r ≡ min x d) → Some r ≡ Some (least_of o d)
least-is None d r h k = ap Some h
least-is (Some x) d r h k = ap Some (k x h)

module _ (lists : List (List ℕ)) where
  -- the power of a list that is not zero
  pub record Found (a : ℕ) : Type 0 where
    pub index : ℕ
    pub some : 0 < significant (get_or lists index [])
    pub is : a ≡ power (get_or lists index [])

  abbrev pub Lowest : ℕ → Option ℕ → Type 0
  Lowest i None = (j : ℕ) → j < i → significant (get_or lists j []) ≡ 0
  Lowest i (Some a) = Found a × ((j : ℕ) → j < i → 0 < significant (get_or lists j []) → a ≤ power (get_or lists j []))

  pub lowest_start : Lowest 0 None
  lowest_start j l = absurd (omega arith)

  lowest-over : (i : ℕ) (a : Option ℕ) → Lowest i a → significant (get_or lists i []) ≡ 0 → Lowest (i + 1) a
  lowest-over i None w z = λ j l. go j l (ℕ_discrete j i)
    where
      go : (j : ℕ) → j < i + 1 → Dec (j ≡ i) → significant (get_or lists j []) ≡ 0
      go j l (yes q) = rw q z
      go j l (no f) = w j (omega arith)
  lowest-over i (Some a) w z = (w.0, λ j l s. go j l s (ℕ_discrete j i))
    where
      go : (j : ℕ) → j < i + 1 → 0 < significant (get_or lists j []) → Dec (j ≡ i) → a ≤ power (get_or lists j [])
      go j l s (yes q) = absurd (let e = ap (λ n. significant (get_or lists n [])) q in omega arith)
      go j l s (no f) = w.1 j (omega arith) s

  lowest-next : (i : ℕ) (a : Option ℕ) → Lowest i a → 0 < significant (get_or lists i [])
      → Lowest (i + 1) (Some (least_of a (power (get_or lists i []))))
  lowest-next i None w some = (record { index = i; some = some; is = refl }, λ j l s. go j l s (ℕ_discrete j i))
    where
      go : (j : ℕ) → j < i + 1 → 0 < significant (get_or lists j []) → Dec (j ≡ i) → power (get_or lists i []) ≤ power (get_or lists j [])
      go j l s (yes q) = rw q (omega arith)
      go j l s (no f) = absurd (let z = w j (omega arith) in omega arith)
  lowest-next i (Some a) w some = (found (dec_lt (power (get_or lists i [])) a), λ j l s. go j l s (ℕ_discrete j i))
    where
      found : Dec (power (get_or lists i []) < a) → Found (min a (power (get_or lists i [])))
      found (yes l) = record { index = i; some = some; is = omega arith }
      found (no f) = record { index = w.0.index; some = w.0.some; is = omega (arith, w.0.is) }

      go : (j : ℕ) → j < i + 1 → 0 < significant (get_or lists j []) → Dec (j ≡ i) → min a (power (get_or lists i [])) ≤ power (get_or lists j [])
      go j l s (yes q) = rw q (omega arith)
      go j l s (no f) = let m = w.1 j (omega arith) s in omega arith

  -- one more list
  pub lowest-with : (i : ℕ) (a : Option ℕ) {b : Option ℕ} → Lowest i a → b ≡ least_with a (get_or lists i []) → Lowest (i + 1) b
  lowest-with i a {b} w e = go (ℕ_discrete (significant (get_or lists i [])) 0)
    where
      go : Dec (significant (get_or lists i []) ≡ 0) → Lowest (i + 1) b
      go (yes z) = rw (e ∙ least_zero a (get_or lists i []) z) (lowest-over i a w z)
      go (no f) = rw (e ∙ least-nonzero a (get_or lists i []) f) (lowest-next i a w (omega arith))

  inside : (i : ℕ) → 0 < significant (get_or lists i []) → i < length lists
  inside i some = go (dec_lt i (length lists))
    where
      go : Dec (i < length lists) → i < length lists
      go (yes l) = l
      go (no f) = absurd (let z = ap significant (get_or-eq_default lists [] {n = i} (omega arith)) ∙ significant-nil in omega arith)

  pub lowest-end : (i : ℕ) (a : Option ℕ) → Lowest i a → length lists ≤ i → IsLeast lists a
  lowest-end i None w l = go (all_zero lists) refl
    where
      go : (b : Bool) → all_zero lists ≡ b → all_zero lists ≡ true
      go true z = z
      go false z =
          let one = nonzero lists z in
          absurd (let k = inside one.index one.some in let e = w one.index (omega arith) in let s = one.some in omega arith)
  lowest-end i (Some a) w l = (some-nonzero lists w.0.index w.0.some, least)
    where
      least : a ≡ common_power lists
      least =
          let c = common_power-attained lists w.0.index w.0.some in
          let k = inside c.index c.some in
          let m = w.1 c.index (omega arith) c.some in
          let n = common_power-le lists w.0.index w.0.some in
          omega (arith, c.is, w.0.is)

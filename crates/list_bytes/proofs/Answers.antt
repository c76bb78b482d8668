-- What a call answers and leaves, by the answer of the engine's function. `found` is what the rows of the call give.
-- Assumes nothing.
use mathlib.Core.Path.{◌≡◌, refl, sym, ◌∙◌, ap}
use mathlib.Core.Bool.{Bool, true, false, cond, ◌||◌}
use mathlib.Core.List.{List, [], ◌∷◌}
use Prim.Native.Nat.{ℕ, ◌+◌, ◌≤◌, ◌<◌}
use native.Mathlib.Decide.{dec_lt}
use native.Mathlib.Omega.{arith}
use lib.ListN.{length, get_or, get_or-eq_default}
use Rattle.std.specs.Prelude.{Ok, Err}
use Rattle.algebra.specs.PrimeField.{PrimeField}
use Rattle.refusal.specs.Limits.{max_words}
use Rattle.refusal.specs.Refusal.{number, outcome_number, written, Outcome}
use Rattle.refusal.specs.declared.Refusal.{Refusal}
use Rattle.refusal.specs.declared.Refusal.TheVariants.{Length}
use Rattle.refusal.proofs.Answers.{kept}
use Rattle.lists.specs.Degrees.{significant}
use Rattle.lists.proofs.Extents.{significant-le, power_le}
use Rattle.euclid_theory.specs.Gcd.{common_power}
use Rattle.euclid_theory.proofs.Powers.{common_power-le}
use Rattle.list_gcd.specs.Calls.{gcd_values, GreatestSo}
use Rattle.lists.specs.Bytes.{bytes_of}

-- what the judge of the bytes tells: both lists pass, or the call is refused with 4 and keeps what it is lent
pub good-lists : (a b : Bool) {told : Outcome} → told ≡ cond (a || b) (Err Length) (Ok tt) → told ≡ Ok tt → (a ≡ false) × (b ≡ false)
good-lists true b e t = let z = ap outcome_number (sym e ∙ t) in absurd (omega arith)
good-lists false true e t = let z = ap outcome_number (sym e ∙ t) in absurd (omega arith)
good-lists false false e t = (refl, refl)

pub bad-answer : (b : Bool) {told found : Outcome} {why : Refusal} → told ≡ cond b (Err Length) (Ok tt) → told ≡ Err why
    → (b ≡ true → found ≡ Err Length) → (number why ≡ outcome_number found) × ((new old : List ℕ) → old ≡ written found new old)
bad-answer true e t h =
    let same = sym t ∙ e in
    (ap outcome_number (same ∙ sym (h refl)), λ new old. kept new old (h refl))
bad-answer false e t h = let z = sym t ∙ e in cc

-- the engine's result, as bytes
pub wrote : {found engine : Outcome} (new old part : List ℕ) {words bytes : List ℕ} → engine ≡ found → found ≡ Ok tt
    → words ≡ written engine new part → bytes ≡ bytes_of words → bytes ≡ written found (bytes_of new) old
wrote new old part e d w b =
    b ∙ ap bytes_of (w ∙ ap (λ o. written o new part) (e ∙ d)) ∙ sym (ap (λ o. written o (bytes_of new) old) d)

-- the values of a GCD are words
pub record Small (w c rounds : ℕ) : Type 0 where
  pub degree : w < 65536
  pub power : c < 65536
  pub count : rounds < 65536

module _ (F : PrimeField) (most : ℕ) (room : most ≤ max_words) (f g slice : List ℕ) (short_f : length f ≤ most) (short_g : length g ≤ most) where
  common-small : ¬ (significant f + significant g ≡ 0) → common_power (f ∷ g ∷ []) ≤ most
  common-small some = go (dec_lt 0 (significant f))
    where
      go : Dec (0 < significant f) → common_power (f ∷ g ∷ []) ≤ most
      go (yes l) = omega (arith, common_power-le (f ∷ g ∷ []) 0 l, power_le f, short_f)
      go (no l) = omega (arith, common_power-le (f ∷ g ∷ []) 1 (omega arith), power_le g, short_g)

  degree-small : {w c rounds : ℕ} → length slice ≡ most → GreatestSo F f g slice w c rounds → w < most
  degree-small {w} e h = go (dec_lt w most)
    where
      go : Dec (w < most) → w < most
      go (yes l) = l
      go (no l) = let z : get_or slice w 0 ≡ 0 = get_or-eq_default slice 0 (omega arith) in absurd (omega (arith, h.ends))

  pub small : {w c rounds : ℕ} → length slice ≡ most → ¬ (significant f + significant g ≡ 0)
      → GreatestSo F f g slice w c rounds → w ∷ c ∷ rounds ∷ [] ≡ gcd_values F f g → Small w c rounds
  unfolding gcd_values
  small {w} {c} {rounds} e some h v =
      record {
        degree = let l = degree-small e h in omega arith;
        power = let q : c ≡ common_power (f ∷ g ∷ []) = ap (λ l. get_or l 1 0) v in omega (arith, common-small some);
        count = omega (arith, h.few, significant-le f);
      }

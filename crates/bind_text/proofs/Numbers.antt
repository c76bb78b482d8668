-- Numbers read digit by digit, and cut off at the largest word.
--     next, fold-value            one digit more, and all of them
--     loose-capped                a number that is cut off is as loose as it was
--     tight-capped                where none is loose, none is cut off
-- Assumes nothing.
use mathlib.Core.Path.{◌≡◌, refl, sym, ◌∙◌, ap, ap₂}
use mathlib.Core.Bool.{false, ◌||◌}
use mathlib.Core.List.{List, [], ◌∷◌, map}
use Prim.Native.Nat.{ℕ, ◌+◌, ◌-◌, ◌*◌, ◌≤◌}
use native.Mathlib.Decide.{dec_le}
use native.Mathlib.Omega.{arith}
use lib.Dec.{leb}
use borrow.Author.Tests.{leb-false, le-leb, lt-leb}
use Rattle.std.specs.List.{fold}
use Rattle.refusal.proofs.First.{or-false}
use Rattle.lists.specs.Refused.{has_loose}
use Rattle.bind_text.specs.Text.{⟨0⟩, value_from, value_of}
use Rattle.bind_text.specs.Internal.{capped}

grows : (n : ℕ) (digits : List ℕ) → n ≤ value_from n digits
unfolding value_from
grows n [] = omega arith
grows n (x ∷ digits) = omega (arith, grows (10 * n + (x - ⟨0⟩)) digits)

-- cut off before the further digits or after them
capped-from : (n : ℕ) (digits : List ℕ) → capped (value_from (capped n) digits) ≡ capped (value_from n digits)
capped-from n digits = go (dec_le n 65535)
  where
    go : Dec (n ≤ 65535) → capped (value_from (capped n) digits) ≡ capped (value_from n digits)
    go (yes l) = let e : capped n ≡ n = omega arith in ap (λ m. capped (value_from m digits)) e
    go (no l) = omega (arith, grows (capped n) digits, grows n digits)

-- one digit more, cut off
abbrev pub next : ℕ → ℕ → ℕ
next n x = capped (10 * n + (x - ⟨0⟩))

fold-from : (n : ℕ) (digits : List ℕ) → n ≤ 65535 → fold next n digits ≡ capped (value_from n digits)
unfolding value_from
fold-from n [] l = omega arith
fold-from n (x ∷ digits) l =
    fold-from (next n x) digits (omega arith) ∙ capped-from (10 * n + (x - ⟨0⟩)) digits

pub fold-value : (digits : List ℕ) → fold next 0 digits ≡ capped (value_of digits)
unfolding value_of
fold-value digits = fold-from 0 digits (omega arith)

module _ (p : ℕ) (small : p ≤ 65535) where
  word-loose : (n : ℕ) → leb p (capped n) ≡ leb p n
  word-loose n = go (dec_le p n)
    where
      go : Dec (p ≤ n) → leb p (capped n) ≡ leb p n
      go (yes l) = le-leb p (capped n) (omega arith) ∙ sym (le-leb p n l)
      go (no l) = lt-leb p (capped n) (omega arith) ∙ sym (lt-leb p n (omega arith))

  pub loose-capped : (c : List ℕ) → has_loose p (map capped c) ≡ has_loose p c
  unfolding has_loose
  loose-capped [] = refl
  loose-capped (x ∷ c) = ap₂ ◌||◌ (word-loose x) (loose-capped c)

  pub tight-capped : (c : List ℕ) → has_loose p c ≡ false → map capped c ≡ c
  unfolding has_loose
  tight-capped [] e = refl
  tight-capped (x ∷ c) e =
      let tests = or-false (leb p x) (has_loose p c) e in
      let low = leb-false p x tests.0 in
      let same : capped x ≡ x = omega arith in
      ap₂ ◌∷◌ same (tight-capped c tests.1)

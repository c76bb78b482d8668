-- The tokens of a line from a place on, by the byte that stands there.
--     digit-at         a digit is what std takes for one
--     digit-range      a digit is 48 to 57
--     rest_end         at the end there is none
--     rest-space       a space says nothing
--     rest-sign        a byte that is no space and no digit
--     rest-digit       a digit that no other one follows
--     rest-digits      two digits that touch
--     spaces-to        spaces up to a place are skipped
-- Assumes nothing.
use mathlib.Core.Path.{◌≡◌, refl, sym, ap, ◌∙◌}
use mathlib.Core.Bool.{Bool, true, false, ◌&&◌}
use mathlib.Core.List.{List, [], ◌∷◌, ◌++◌, append-nil}
use Prim.Native.Nat.{ℕ, zero, suc, ◌+◌, ◌*◌, ◌-◌, ◌<◌, ◌≤◌}
use native.Mathlib.Numerals.{add-one}
use native.Mathlib.Nat.{add-zero}
use native.Mathlib.Omega.{arith}
use lib.Dec.{leb}
use lib.ListN.{length, get_or, drop, drop_of_length-le}
use Rattle.std.proofs.Common.{get_or-drop}
use lib.Seq.{drop-cons}
use borrow.Author.Tests.{leb-true, ne_eqb}
use Rattle.std.specs.Char.{is_ascii_digit}
use Rattle.std.specs.List.{AllWithin}
use Rattle.lines.specs.declared.Token.TheVariants.{Number}
use Rattle.lines.specs.Grammar.{is_digit, sign_of, lone, tokens}
use Rattle.lines.specs.Internal.{rest_of, Skipped}

pub digit-at : {a b : ℕ} {r v : Bool} → a ≡ b → r ≡ is_ascii_digit a → r ≡ v → is_digit b ≡ v
unfolding is_digit
digit-at e f g = rw (← e) (sym f ∙ g)

pub digit-range : (b : ℕ) → is_digit b ≡ true → (48 ≤ b) × (b ≤ 57)
unfolding is_digit
digit-range b e = go (leb 48 b) (leb b 57) refl refl e
  where
    go : (x y : Bool) → leb 48 b ≡ x → leb b 57 ≡ y → (x && y) ≡ true → (48 ≤ b) × (b ≤ 57)
    go true true p q e = (leb-true 48 b p, leb-true b 57 q)
    go true false p q e = absurd (let z : ◌≡◌ {A = ℕ} 0 1 = cc in omega arith)
    go false true p q e = absurd (let z : ◌≡◌ {A = ℕ} 0 1 = cc in omega arith)
    go false false p q e = absurd (let z : ◌≡◌ {A = ℕ} 0 1 = cc in omega arith)

-- whether a digit comes first
abbrev digit_first : List ℕ → Bool
digit_first [] = false
digit_first (b ∷ s) = is_digit b

by_itself : (a : ℕ) (s : List ℕ) → (is_digit a && digit_first s) ≡ false → tokens (a ∷ s) ≡ lone a ++ tokens s
unfolding tokens
by_itself a [] e = sym (append-nil (lone a))
by_itself a (b ∷ s) e = rw e

two_digits : (a b : ℕ) (s : List ℕ) → is_digit a ≡ true → is_digit b ≡ true
    → tokens (a ∷ (b ∷ s)) ≡ Number (10 * (a - 48) + (b - 48)) ∷ tokens s
unfolding tokens
two_digits a b s e f = rw (e, f)

module _ (line : List ℕ) (i : ℕ) where
  pub rest_end : length line ≤ i → rest_of line i ≡ []
  unfolding tokens
  rest_end h = ap tokens (drop_of_length-le line h)

  module _ (h : i < length line) where
    first : drop i line ≡ get_or line i 0 ∷ drop (i + 1) line
    first = rw add-one (drop-cons line i 0 h)

    alone : (is_digit (get_or line i 0) && digit_first (drop (i + 1) line)) ≡ false
        → rest_of line i ≡ lone (get_or line i 0) ++ rest_of line (i + 1)
    alone e = ap tokens first ∙ by_itself (get_or line i 0) (drop (i + 1) line) e

    pub rest-space : get_or line i 0 ≡ 32 → rest_of line i ≡ rest_of line (i + 1)
    unfolding lone is_digit
    rest-space e = alone (rw e) ∙ rw e

    pub rest-sign : (get_or line i 0 ≡ 32 → ⊥) → is_digit (get_or line i 0) ≡ false
        → rest_of line i ≡ sign_of (get_or line i 0) ∷ rest_of line (i + 1)
    unfolding lone
    rest-sign n e = alone (rw e) ∙ rw (ne_eqb (get_or line i 0) 32 n, e)

    last-digit : is_digit (get_or line i 0) ≡ true → digit_first (drop (i + 1) line) ≡ false
        → rest_of line i ≡ Number (get_or line i 0 - 48) ∷ rest_of line (i + 1)
    unfolding lone
    last-digit e f = alone (rw (e, f)) ∙ rw (ne_eqb (get_or line i 0) 32 (λ z. omega (arith, digit-range (get_or line i 0) e)), e)

    pub rest-last : is_digit (get_or line i 0) ≡ true → length line ≤ i + 1 → rest_of line i ≡ Number (get_or line i 0 - 48) ∷ rest_of line (i + 1)
    rest-last e l = last-digit e (ap digit_first (drop_of_length-le line l))

    pub rest-digit : is_digit (get_or line i 0) ≡ true → i + 1 < length line → is_digit (get_or line (i + 1) 0) ≡ false
        → rest_of line i ≡ Number (get_or line i 0 - 48) ∷ rest_of line (i + 1)
    rest-digit e l f = last-digit e (ap digit_first (drop-cons line (i + 1) 0 l) ∙ f)

    pub rest-digits : is_digit (get_or line i 0) ≡ true → i + 1 < length line → is_digit (get_or line (i + 1) 0) ≡ true
        → rest_of line i ≡ Number (10 * (get_or line i 0 - 48) + (get_or line (i + 1) 0 - 48)) ∷ rest_of line (i + 2)
    rest-digits e l f =
        let j : suc (i + 1) ≡ i + 2 = omega arith in
        ap tokens (first ∙ ap (λ (s : List ℕ). get_or line i 0 ∷ s) (drop-cons line (i + 1) 0 l))
        ∙ two_digits (get_or line i 0) (get_or line (i + 1) 0) (drop (suc (i + 1)) line) e f
        ∙ ap (λ (k : ℕ). Number (10 * (get_or line i 0 - 48) + (get_or line (i + 1) 0 - 48)) ∷ rest_of line k) j

-- spaces from a place on, up to another byte or the line's end
module _ (line : List ℕ) (at : ℕ) where
  abbrev Spaces : ℕ → Type 0
  Spaces n = AllWithin (λ b. b ≡ 32) (drop at line) 0 n

  spaces : (n : ℕ) → at + n ≤ length line → Spaces n → rest_of line at ≡ rest_of line (at + n)
  spaces zero h s = rw add-zero refl
  spaces (suc n) h s =
      let here : get_or line (at + n) 0 ≡ 32 = sym (get_or-drop at line n 0) ∙ s n 0 (omega arith) (omega arith) in
      let next : at + n + 1 ≡ at + suc n = omega arith in
      spaces n (omega arith) (λ k d l h. s k d l (omega arith))
      ∙ rest-space line (at + n) (omega arith) here
      ∙ ap (rest_of line) next

  pub spaces-to : (n : ℕ) → at + n ≤ length line → Spaces n → (at + n < length line → get_or line (at + n) 0 ≡ 32 → ⊥)
      → Skipped line at (at + n)
  spaces-to n h s f = record { same = spaces n h s; low = omega arith; high = h; found = f }

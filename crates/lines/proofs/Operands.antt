-- The operands of a line are below the operators: a number has one or two digits.
--     small_token, SmallTokens     the number of the token is, and every number among the tokens
--     tokens-small                 those of a line are
-- Theorem:
--     reading_small               so is every operand of the tree that a line reads as
-- Assumes nothing.
use mathlib.Core.Path.{◌≡◌, refl}
use mathlib.Core.Bool.{Bool, true, false, cond, ◌&&◌}
use mathlib.Core.List.{List, [], ◌∷◌, ◌++◌}
use Prim.Native.Nat.{ℕ, ◌+◌, ◌*◌, ◌-◌, ◌<◌}
use native.Mathlib.Omega.{arith}
use lib.Dec.{eqb}
use Rattle.lines.specs.declared.Token.{Token}
use Rattle.lines.specs.declared.Token.TheVariants.{Number, Plus, Minus, Times, Derive, Open, Close, Wrong}
use Rattle.lines.specs.Grammar.{is_digit, sign_of, lone, tokens, Tree, Part}
use Rattle.lines.specs.Grammar.{Reads, lone_term, added, subtracted, lone_factor, multiplied, number, derived, in_parentheses}
use Rattle.lines.specs.Reader.{reads, reading_of}
use Rattle.lines.specs.Program.{first_operator, Small}
use Rattle.lines.proofs.Readings.{reading-sound}
use Rattle.lines.proofs.Scan.{digit-range}

abbrev pub small_token : Token → Type 0
small_token (Number n) = n < first_operator
small_token Plus = Unit {0}
small_token Minus = Unit {0}
small_token Times = Unit {0}
small_token Derive = Unit {0}
small_token Open = Unit {0}
small_token Close = Unit {0}
small_token Wrong = Unit {0}

abbrev pub SmallTokens : List Token → Type 0
SmallTokens [] = Unit {0}
SmallTokens (t ∷ ts) = small_token t × SmallTokens ts

small-append : (s t : List Token) → SmallTokens s → SmallTokens t → SmallTokens (s ++ t)
small-append [] t h k = k
small-append (x ∷ s) t h k = (h.0, small-append s t h.1 k)

small-first : (s t : List Token) → SmallTokens (s ++ t) → SmallTokens s
small-first [] t h = tt
small-first (x ∷ s) t h = (h.0, small-first s t h.1)

small-second : (s t : List Token) → SmallTokens (s ++ t) → SmallTokens t
small-second [] t h = h
small-second (x ∷ s) t h = small-second s t h.1

small : {r : Part} {s : List Token} {a : Tree} → Reads r s a → SmallTokens s → Small a
small (lone_term x) h = small x h
small (added {s = s} {t = t} x y) h = (small x (small-first s (Plus ∷ t) h), small y (small-second s (Plus ∷ t) h).1)
small (subtracted {s = s} {t = t} x y) h = (small x (small-first s (Minus ∷ t) h), small y (small-second s (Minus ∷ t) h).1)
small (lone_factor x) h = small x h
small (multiplied {s = s} {t = t} x y) h = (small x (small-first s (Times ∷ t) h), small y (small-second s (Times ∷ t) h).1)
small number h = h.0
small (derived x) h = small x h.1
small (in_parentheses {s = s} x) h = small x (small-first s (Close ∷ []) h.1)

sign_small : (b : ℕ) → small_token (sign_of b)
unfolding sign_of
sign_small b = go (eqb b 43) (eqb b 45) (eqb b 42) (eqb b 68) (eqb b 40) (eqb b 41)
  where
    go : (u v w x y z : Bool) → small_token (cond u Plus (cond v Minus (cond w Times (cond x Derive (cond y Open (cond z Close Wrong))))))
    go true v w x y z = tt
    go false true w x y z = tt
    go false false true x y z = tt
    go false false false true y z = tt
    go false false false false true z = tt
    go false false false false false true = tt
    go false false false false false false = tt

lone-small : (b : ℕ) → SmallTokens (lone b)
unfolding lone
lone-small b = go (eqb b 32) (is_digit b) refl
  where
    go : (s d : Bool) → is_digit b ≡ d → SmallTokens (cond s [] (cond d (Number (b - 48)) (sign_of b) ∷ []))
    go true d e = tt
    go false true e = (omega (arith, digit-range b e), tt)
    go false false e = (sign_small b, tt)

pub tokens-small : (s : List ℕ) → SmallTokens (tokens s)
unfolding tokens
tokens-small [] = tt
tokens-small (a ∷ []) = lone-small a
tokens-small (a ∷ (b ∷ s)) = go (is_digit a) (is_digit b) refl refl (tokens-small s) (tokens-small (b ∷ s))
  where
    go : (x y : Bool) → is_digit a ≡ x → is_digit b ≡ y → SmallTokens (tokens s) → SmallTokens (tokens (b ∷ s))
        → SmallTokens (cond (x && y) (Number (10 * (a - 48) + (b - 48)) ∷ tokens s) (lone a ++ tokens (b ∷ s)))
    go true true e f h k = (omega (arith, digit-range a e, digit-range b f), h)
    go true false e f h k = small-append (lone a) (tokens (b ∷ s)) (lone-small a) k
    go false true e f h k = small-append (lone a) (tokens (b ∷ s)) (lone-small a) k
    go false false e f h k = small-append (lone a) (tokens (b ∷ s)) (lone-small a) k

pub reading_small : (line : List ℕ) (e : Tree) → reading_of (tokens line) ≡ reads e → Small e
reading_small line e h = small (reading-sound h) (tokens-small line)

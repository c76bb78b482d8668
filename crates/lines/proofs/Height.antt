-- How high the stack grows: the run of a program needs at most three lists, and two more for each parenthesis that is open together.
--     behind_token, depth_of     the most parentheses open together along tokens, as open_behind and deepest say it of bytes
--     slack                    what an expression, a term and a factor need where no parenthesis is open
-- Theorems:
--     needed-bound     a tree that tokens read as needs at most 2 * depth + 3
--     depth-bytes      the tokens of a line are nested no deeper than its bytes
--     line-height      so a line whose parentheses are not nested too deep needs at most 2 * max_open + 3
-- Assumes nothing.
use mathlib.Core.Path.{◌≡◌, refl, ap, ◌∙◌}
use mathlib.Core.Bool.{Bool, true, false, cond, ◌&&◌}
use mathlib.Core.List.{List, [], ◌∷◌, ◌++◌, append_assoc, append-nil}
use Prim.Native.Nat.{ℕ, ◌+◌, ◌*◌, ◌-◌, ◌≤◌, max}
use native.Mathlib.Omega.{arith}
use lib.Dec.{eqb}
use borrow.Author.Tests.{eqb-true, ne_eqb}
use Rattle.refusal.specs.Limits.{max_open}
use Rattle.lines.specs.declared.Token.{Token}
use Rattle.lines.specs.declared.Token.TheVariants.{Number, Plus, Minus, Times, Derive, Open, Close, Wrong}
use Rattle.lines.specs.Grammar.{is_digit, sign_of, lone, tokens, open_behind, deepest, Tree, Part, expression, term, factor}
use Rattle.lines.specs.Reader.{reads, reading_of}
use Rattle.lines.specs.Height.{needed}
use Rattle.lines.proofs.Readings.{reading-sound}
use Rattle.lines.proofs.Scan.{digit-range}
use Rattle.lines.specs.Grammar.{Reads, lone_term, added, subtracted, lone_factor, multiplied, number, derived, in_parentheses}

abbrev pub behind_token : ℕ → Token → ℕ
behind_token k (Number n) = k
behind_token k Plus = k
behind_token k Minus = k
behind_token k Times = k
behind_token k Derive = k
behind_token k Open = k + 1
behind_token k Close = k - 1
behind_token k Wrong = k

unfoldable pub depth_of : ℕ → List Token → ℕ
depth_of k [] = k
depth_of k (t ∷ ts) = max k (depth_of (behind_token k t) ts)

abbrev slack : Part → ℕ
slack expression = 3
slack term = 2
slack factor = 1

-- tokens l that read as a tree, the rest left out: the bound, and that the rest is nested no deeper than all of them
record Bounded (r : Part) (k : ℕ) (l rest : List Token) (a : Tree) : Type 0 where
  low : needed a + 2 * k ≤ slack r + 2 * depth_of k l
  more : depth_of k rest ≤ depth_of k l

after : (k : ℕ) (t : Token) (ts : List Token) → depth_of k (t ∷ ts) ≡ max k (depth_of (behind_token k t) ts)
unfolding depth_of
after k t ts = refl

-- an operator and its second operand
operator : {r q : Part} (k : ℕ) (x : Token) (l ts rest : List Token) (a b : Tree) → behind_token k x ≡ k → slack r ≡ slack q + 1
    → Bounded r k l (x ∷ ts) a → Bounded q k ts rest b
    → (max (needed a) (1 + needed b) + 2 * k ≤ slack r + 2 * depth_of k l) × (depth_of k rest ≤ depth_of k l)
operator {r} {q} k x l ts rest a b same more h g =
    let e : depth_of k (x ∷ ts) ≡ max k (depth_of k ts) = after k x ts ∙ ap (λ (j : ℕ). max k (depth_of j ts)) same in
    (omega (arith, h.low, h.more, g.low), omega (arith, h.more, g.more))

bounded : {r : Part} {s : List Token} {a : Tree} → Reads r s a → (k : ℕ) (rest : List Token) → Bounded r k (s ++ rest) rest a
bounded (lone_term x) k rest = let h = bounded x k rest in record { low = omega (arith, h.low); more = h.more }
bounded (added {s = s} {t = t} {a = a} {b = b} x y) k rest =
    let h = operator k Plus (s ++ Plus ∷ (t ++ rest)) (t ++ rest) rest a b refl refl (bounded x k (Plus ∷ t ++ rest)) (bounded y k rest) in
    rw append_assoc (record { low = h.0; more = h.1 })
bounded (subtracted {s = s} {t = t} {a = a} {b = b} x y) k rest =
    let h = operator k Minus (s ++ Minus ∷ (t ++ rest)) (t ++ rest) rest a b refl refl (bounded x k (Minus ∷ t ++ rest))
    (bounded y k rest) in
    rw append_assoc (record { low = h.0; more = h.1 })
bounded (lone_factor x) k rest = let h = bounded x k rest in record { low = omega (arith, h.low); more = h.more }
bounded (multiplied {s = s} {t = t} {a = a} {b = b} x y) k rest =
    let h = operator k Times (s ++ Times ∷ (t ++ rest)) (t ++ rest) rest a b refl refl (bounded x k (Times ∷ t ++ rest))
    (bounded y k rest) in
    rw append_assoc (record { low = h.0; more = h.1 })
bounded (number {n = n}) k rest = let e = after k (Number n) rest in record { low = omega arith; more = omega arith }
bounded (derived {s = s} x) k rest =
    let h = bounded x k rest in
    let e = after k Derive (s ++ rest) in
    record { low = omega (arith, h.low); more = omega (arith, h.more) }
bounded (in_parentheses {s = s} {a = a} x) k rest =
    let h = bounded x (k + 1) (Close ∷ rest) in
    let e = after k Open ((s ++ Close ∷ []) ++ rest) in
    let f = ap (depth_of (k + 1)) (append_assoc s (Close ∷ []) rest) in
    let i = after (k + 1) Close rest in
    let j : depth_of (k + 1 - 1) rest ≡ depth_of k rest = ap (λ (m : ℕ). depth_of m rest) (same k) in
    record { low = omega (arith, h.low); more = omega (arith, h.more) }
  where
    same : (k : ℕ) → k + 1 - 1 ≡ k
    same k = omega arith

pub needed-bound : {s : List Token} {a : Tree} → Reads expression s a → needed a ≤ 3 + 2 * depth_of 0 s
needed-bound {s} x = omega (arith, (bounded x 0 []).low, ap (depth_of 0) (append-nil s))

digit-behind : (b k : ℕ) → is_digit b ≡ true → open_behind k b ≡ k
unfolding open_behind
digit-behind b k e =
    let h = digit-range b e in
    rw (ne_eqb b 40 (λ z. omega arith), ne_eqb b 41 (λ z. omega arith))

sign-behind : (b k : ℕ) → behind_token k (sign_of b) ≡ open_behind k b
unfolding sign_of open_behind
sign-behind b k = go (eqb b 43) (eqb b 45) (eqb b 42) (eqb b 68) refl refl refl refl
  where
    last : (x y : Bool) → behind_token k (cond x Open (cond y Close Wrong)) ≡ cond x (k + 1) (cond y (k - 1) k)
    last true y = refl
    last false true = refl
    last false false = refl

    go : (u v w x : Bool) → eqb b 43 ≡ u → eqb b 45 ≡ v → eqb b 42 ≡ w → eqb b 68 ≡ x
        → behind_token k (cond u Plus (cond v Minus (cond w Times (cond x Derive (cond (eqb b 40) Open (cond (eqb b 41) Close Wrong))))))
        ≡ open_behind k b
    go true v w x e f g h = rw (eqb-true b 43 e)
    go false true w x e f g h = rw (eqb-true b 45 f)
    go false false true x e f g h = rw (eqb-true b 42 g)
    go false false false true e f g h = rw (eqb-true b 68 h)
    go false false false false e f g h = last (eqb b 40) (eqb b 41)

space-behind : (b k : ℕ) → eqb b 32 ≡ true → open_behind k b ≡ k
unfolding open_behind
space-behind b k e = rw (eqb-true b 32 e)

depth-lone : (b k : ℕ) (ts : List Token) → depth_of k (lone b ++ ts) ≤ max k (depth_of (open_behind k b) ts)
unfolding lone
depth-lone b k ts = go (eqb b 32) (is_digit b) refl refl
  where
    go : (x y : Bool) → eqb b 32 ≡ x → is_digit b ≡ y
        → depth_of k (cond x [] (cond y (Number (b - 48)) (sign_of b) ∷ []) ++ ts) ≤ max k (depth_of (open_behind k b) ts)
    go true y e f = let s = ap (λ (j : ℕ). depth_of j ts) (space-behind b k e) in omega arith
    go false true e f = let s = ap (λ (j : ℕ). depth_of j ts) (digit-behind b k f) in omega (arith, after k (Number (b - 48)) ts)
    go false false e f = let s = ap (λ (j : ℕ). depth_of j ts) (sign-behind b k) in omega (arith, after k (sign_of b) ts)

pub depth-bytes : (line : List ℕ) (k : ℕ) → depth_of k (tokens line) ≤ deepest k line
unfolding tokens deepest depth_of
depth-bytes [] k = omega arith
depth-bytes (a ∷ []) k = omega (arith, depth-lone a k [], ap (depth_of k) (append-nil (lone a)))
depth-bytes (a ∷ (b ∷ s)) k = go (is_digit a) (is_digit b) refl refl (depth-bytes s k) (depth-bytes (b ∷ s) (open_behind k a))
  where
    go : (x y : Bool) → is_digit a ≡ x → is_digit b ≡ y → depth_of k (tokens s) ≤ deepest k s
        → depth_of (open_behind k a) (tokens (b ∷ s)) ≤ deepest (open_behind k a) (b ∷ s)
        → depth_of k (cond (x && y) (Number (10 * (a - 48) + (b - 48)) ∷ tokens s) (lone a ++ tokens (b ∷ s)))
        ≤ max k (deepest (open_behind k a) (b ∷ s))
    go true true e f h i =
        let p = digit-behind a k e in
        let q = ap (λ (j : ℕ). deepest (open_behind j b) s) p ∙ ap (λ (j : ℕ). deepest j s) (digit-behind b k f) in
        omega arith
    go true false e f h i = omega (arith, depth-lone a k (tokens (b ∷ s)))
    go false true e f h i = omega (arith, depth-lone a k (tokens (b ∷ s)))
    go false false e f h i = omega (arith, depth-lone a k (tokens (b ∷ s)))

pub line-height : (line : List ℕ) (e : Tree) → reading_of (tokens line) ≡ reads e → deepest 0 line ≤ max_open → needed e ≤ 2 * max_open + 3
line-height line e r h = omega (arith, needed-bound (reading-sound r), depth-bytes line 0)

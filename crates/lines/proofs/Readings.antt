-- The reader computes the grammar: tokens read as a tree exactly where the reader finds it. So a line has at most one reading.
--     step-number, ..       the reader's steps, token by token
--     have-term, have-sum   a factor that ends a term is read on as this term, and a term that ends an expression as this expression
--     have-derive, ..       the same by what stands to the left of the factor or the term
-- Theorems:
--     reading-complete      tokens that read as a tree are read as it
--     reading-sound         tokens are read only as a tree that they read as
--     only-reading          tokens read as at most one tree
--     outside-none          tokens that the reader finds outside the grammar read as no tree
--     none-outside          and those that read as no tree it finds outside
-- Assumes nothing.
use mathlib.Core.Path.{◌≡◌, refl, sym, ap, ◌∙◌, subst}
use mathlib.Core.Bool.{true, false}
use mathlib.Core.List.{List, [], ◌∷◌, ◌++◌, append_assoc, append-nil}
use Prim.Native.Nat.{ℕ}
use native.Mathlib.Omega.{arith}
use Rattle.lines.specs.declared.Token.{Token}
use Rattle.lines.specs.declared.Token.TheVariants.{Number, Plus, Minus, Times, Derive, Open, Close, Wrong}
use Rattle.lines.specs.Grammar.{Tree, list, sum, difference, product, derivative, Part, expression, term, factor}
use Rattle.lines.specs.Grammar.{Reads, lone_term, added, subtracted, lone_factor, multiplied, number, derived, in_parentheses}
use Rattle.lines.specs.Reader.{Reading, reads, outside, SumPlace, whole, inside, TermPlace, first_term, after_plus, after_minus}
use Rattle.lines.specs.Reader.{FactorPlace, first_factor, after_times, after_derive}
use Rattle.lines.specs.Reader.{term_place, term_tree, sum_place, sum_tree, closed, ended, want, have, reading_of}
use Rattle.lines.specs.Internal.{ends_term}

pub no-term : {A : Type 0} → false ≡ true → A
no-term e = absurd (let z : ◌≡◌ {A = ℕ} 0 1 = cc in omega arith)

pub have-term : (ts : List Token) (e : Tree) (k : FactorPlace) → have ts e k ≡ have ts (term_tree e k) (first_factor (term_place k))
unfolding want term_place term_tree
have-term [] e k = refl
have-term (Number n ∷ ts) e k = refl
have-term (Plus ∷ ts) e k = refl
have-term (Minus ∷ ts) e k = refl
have-term (Times ∷ ts) e k = refl
have-term (Derive ∷ ts) e k = refl
have-term (Open ∷ ts) e k = refl
have-term (Close ∷ ts) e k = refl
have-term (Wrong ∷ ts) e k = refl

pub have-sum : (ts : List Token) (e : Tree) (k : TermPlace) → ends_term ts ≡ true
    → have ts e (first_factor k) ≡ have ts (sum_tree e k) (first_factor (first_term (sum_place k)))
unfolding want term_place term_tree sum_place sum_tree
have-sum [] e k h = refl
have-sum (Number n ∷ ts) e k h = refl
have-sum (Plus ∷ ts) e k h = refl
have-sum (Minus ∷ ts) e k h = refl
have-sum (Times ∷ ts) e k h = no-term h
have-sum (Derive ∷ ts) e k h = refl
have-sum (Open ∷ ts) e k h = refl
have-sum (Close ∷ ts) e k h = refl
have-sum (Wrong ∷ ts) e k h = refl

pub have-derive : (ts : List Token) (e : Tree) (k : FactorPlace) → have ts e (after_derive k) ≡ have ts (derivative e) k
unfolding term_place term_tree
have-derive ts e k = have-term ts e (after_derive k) ∙ sym (have-term ts (derivative e) k)

pub have-times : (ts : List Token) (e a : Tree) (k : TermPlace) → have ts e (after_times a k) ≡ have ts (product a e) (first_factor k)
unfolding term_place term_tree
have-times ts e a k = have-term ts e (after_times a k)

pub have-plus : (ts : List Token) (e a : Tree) (k : SumPlace) → ends_term ts ≡ true
    → have ts e (first_factor (after_plus a k)) ≡ have ts (sum a e) (first_factor (first_term k))
unfolding sum_place sum_tree
have-plus ts e a k h = have-sum ts e (after_plus a k) h

pub have-minus : (ts : List Token) (e a : Tree) (k : SumPlace) → ends_term ts ≡ true
    → have ts e (first_factor (after_minus a k)) ≡ have ts (difference a e) (first_factor (first_term k))
unfolding sum_place sum_tree
have-minus ts e a k h = have-sum ts e (after_minus a k) h

pub step-times : (ts : List Token) (e : Tree) (k : TermPlace) → have (Times ∷ ts) e (first_factor k) ≡ want ts (after_times e k)
unfolding want term_place term_tree
step-times ts e k = refl

pub step-plus : (ts : List Token) (e : Tree) (k : SumPlace)
    → have (Plus ∷ ts) e (first_factor (first_term k)) ≡ want ts (first_factor (after_plus e k))
unfolding want term_place term_tree sum_place sum_tree
step-plus ts e k = refl

pub step-minus : (ts : List Token) (e : Tree) (k : SumPlace)
    → have (Minus ∷ ts) e (first_factor (first_term k)) ≡ want ts (first_factor (after_minus e k))
unfolding want term_place term_tree sum_place sum_tree
step-minus ts e k = refl

pub step-close : (ts : List Token) (e : Tree) (k : FactorPlace) → have (Close ∷ ts) e (first_factor (first_term (inside k))) ≡ have ts e k
unfolding want term_place term_tree sum_place sum_tree closed
step-close ts e k = refl

pub step-derive : (ts : List Token) (k : FactorPlace) → want (Derive ∷ ts) k ≡ want ts (after_derive k)
unfolding want
step-derive ts k = refl

pub step-open : (ts : List Token) (k : FactorPlace) → want (Open ∷ ts) k ≡ want ts (first_factor (first_term (inside k)))
unfolding want
step-open ts k = refl

pub step-number : (n : ℕ) (ts : List Token) (k : FactorPlace) → want (Number n ∷ ts) k ≡ have ts (list n) k
unfolding want
step-number n ts k = refl

-- what is shown of tokens that read as a tree: where their place is open, the reader gets past them
abbrev Passed : Part → List Token → Tree → Type 0
Passed expression s a =
    (ts : List Token) → ends_term ts ≡ true → (k : SumPlace)
    → want (s ++ ts) (first_factor (first_term k)) ≡ have ts a (first_factor (first_term k))
Passed term s a = (ts : List Token) (k : TermPlace) → want (s ++ ts) (first_factor k) ≡ have ts a (first_factor k)
Passed factor s a = (ts : List Token) (k : FactorPlace) → want (s ++ ts) k ≡ have ts a k

passed : {r : Part} {s : List Token} {a : Tree} → Reads r s a → Passed r s a
passed (lone_term x) = λ ts h k. passed x ts (first_term k)
passed (added {t = t} {a = a} {b = b} x y) = λ ts h k.
    rw append_assoc
    (passed x (Plus ∷ t ++ ts) refl k ∙ step-plus (t ++ ts) a k ∙ passed y ts (after_plus a k) ∙ have-plus ts b a k h)
passed (subtracted {t = t} {a = a} {b = b} x y) = λ ts h k.
    rw append_assoc
    (passed x (Minus ∷ t ++ ts) refl k ∙ step-minus (t ++ ts) a k ∙ passed y ts (after_minus a k) ∙ have-minus ts b a k h)
passed (lone_factor x) = λ ts k. passed x ts (first_factor k)
passed (multiplied {t = t} {a = a} {b = b} x y) = λ ts k.
    rw append_assoc
    (passed x (Times ∷ t ++ ts) k ∙ step-times (t ++ ts) a k ∙ passed y ts (after_times a k) ∙ have-times ts b a k)
passed (number {n = n}) = λ ts k. step-number n ts k
passed (derived {s = s} {a = a} x) = λ ts k. step-derive (s ++ ts) k ∙ passed x ts (after_derive k) ∙ have-derive ts a k
passed (in_parentheses {s = s} {a = a} x) = λ ts k.
    step-open ((s ++ Close ∷ []) ++ ts) k ∙ rw append_assoc (passed x (Close ∷ ts) refl (inside k)) ∙ step-close ts a k

pub reading-complete : {s : List Token} {a : Tree} → Reads expression s a → reading_of s ≡ reads a
unfolding reading_of want ended sum_place sum_tree term_place term_tree
reading-complete {s} x = ap (λ (l : List Token). want l (first_factor (first_term whole))) (sym (append-nil s)) ∙ passed x [] refl whole

pub only-reading : {s : List Token} {a b : Tree} → Reads expression s a → Reads expression s b → a ≡ b
only-reading x y = let p = reading-complete x in let q = reading-complete y in cc

-- the tokens to the left of a place
mutual
  data LeftOfSum : List Token → SumPlace → Type 0 where
    at-start : LeftOfSum [] whole
    opened : {s : List Token} {k : FactorPlace} → LeftOfFactor s k → LeftOfSum (s ++ Open ∷ []) (inside k)

  data LeftOfTerm : List Token → TermPlace → Type 0 where
    begun-term : {s : List Token} {k : SumPlace} → LeftOfSum s k → LeftOfTerm s (first_term k)
    plus : {s t : List Token} {k : SumPlace} {a : Tree} → LeftOfSum s k → Reads expression t a
        → LeftOfTerm (s ++ (t ++ Plus ∷ [])) (after_plus a k)
    minus : {s t : List Token} {k : SumPlace} {a : Tree} → LeftOfSum s k → Reads expression t a
        → LeftOfTerm (s ++ (t ++ Minus ∷ [])) (after_minus a k)

  data LeftOfFactor : List Token → FactorPlace → Type 0 where
    begun-factor : {s : List Token} {k : TermPlace} → LeftOfTerm s k → LeftOfFactor s (first_factor k)
    times : {s t : List Token} {k : TermPlace} {a : Tree} → LeftOfTerm s k → Reads term t a
        → LeftOfFactor (s ++ (t ++ Times ∷ [])) (after_times a k)
    derive : {s : List Token} {k : FactorPlace} → LeftOfFactor s k → LeftOfFactor (s ++ Derive ∷ []) (after_derive k)

-- the tokens l are those to the left of a term's place, and then those of a term of this tree
record TermRead (l : List Token) (k : TermPlace) (e : Tree) : Type 0 where
  left : List Token
  own : List Token
  placed : LeftOfTerm left k
  is : Reads term own e
  all : l ≡ left ++ own

record SumRead (l : List Token) (k : SumPlace) (e : Tree) : Type 0 where
  left : List Token
  own : List Token
  placed : LeftOfSum left k
  is : Reads expression own e
  all : l ≡ left ++ own

term-read : {s t : List Token} {k : FactorPlace} {e : Tree} → LeftOfFactor s k → Reads factor t e
    → TermRead (s ++ t) (term_place k) (term_tree e k)
unfolding term_place term_tree
term-read {s} {t} (begun-factor p) f = record { left = s; own = t; placed = p; is = lone_factor f; all = refl }
term-read {s} {t} (times {s = s'} {t = t'} p x) f =
    record { left = s'; own = t' ++ Times ∷ t; placed = p; is = multiplied x f; all = simp append_assoc }
term-read {s} {t} (derive {s = s'} p) f = rw append_assoc (term-read p (derived f))

sum-read : {s t : List Token} {k : TermPlace} {e : Tree} → LeftOfTerm s k → Reads term t e → SumRead (s ++ t) (sum_place k) (sum_tree e k)
unfolding sum_place sum_tree
sum-read {s} {t} (begun-term p) f = record { left = s; own = t; placed = p; is = lone_term f; all = refl }
sum-read {s} {t} (plus {s = s'} {t = t'} p x) f =
    record { left = s'; own = t' ++ Plus ∷ t; placed = p; is = added x f; all = simp append_assoc }
sum-read {s} {t} (minus {s = s'} {t = t'} p x) f =
    record { left = s'; own = t' ++ Minus ∷ t; placed = p; is = subtracted x f; all = simp append_assoc }

-- a token behind what was read
behind : (s t l o ts : List Token) (x : Token) → s ++ t ≡ l ++ o → (l ++ (o ++ x ∷ [])) ++ ts ≡ s ++ (t ++ x ∷ ts)
behind s t l o ts x e = simp append_assoc
    (sym (append_assoc l o (x ∷ ts)) ∙ ap (λ (u : List Token). u ++ x ∷ ts) (sym e) ∙ append_assoc s t (x ∷ ts))

-- the reader's answer behind a factor, as an argument of what is shown of a closing parenthesis
abbrev Sound : List Token → Type 0
Sound ts =
    (s t : List Token) (e : Tree) (k : FactorPlace) (r : Tree)
    → LeftOfFactor s k → Reads factor t e → have ts e k ≡ reads r → Reads expression (s ++ (t ++ ts)) r

close-sound : (ts : List Token) → Sound ts → (l o : List Token) (e : Tree) (k : SumPlace) (r : Tree) → LeftOfSum l k → Reads expression o e
    → closed k (λ j. have ts e j) ≡ reads r → Reads expression ((l ++ o) ++ Close ∷ ts) r
unfolding closed
close-sound ts f l o e k r at-start x h = absurd (let z : ◌≡◌ {A = ℕ} 0 1 = cc in omega arith)
close-sound ts f l o e k r (opened {s = s} {k = j} p) x h =
    rw (append_assoc, append_assoc) (rw (append_assoc o (Close ∷ []) ts) at (f s (Open ∷ o ++ Close ∷ []) e j r p (in_parentheses x) h))

end-sound : (l o : List Token) (e : Tree) (k : SumPlace) (r : Tree) → LeftOfSum l k → Reads expression o e
    → ended k e ≡ reads r → Reads expression (l ++ o) r
unfolding ended
end-sound l o e k r at-start x h = subst (Reads expression o) (cc) x
end-sound l o e k r (opened p) x h = absurd (let z : ◌≡◌ {A = ℕ} 0 1 = cc in omega arith)

no-reading : {A : Type 0} {r : Tree} → outside ≡ reads r → A
no-reading h = absurd (let z : ◌≡◌ {A = ℕ} 0 1 = cc in omega arith)

all_read : {s t : List Token} {k : FactorPlace} {e : Tree} → LeftOfFactor s k → Reads factor t e
    → SumRead (s ++ t) (sum_place (term_place k)) (sum_tree (term_tree e k) (term_place k))
all_read p x = let a = term-read p x in rw a.all (sum-read a.placed a.is)

mutual
  unfolding want

  want-sound : (ts s : List Token) (k : FactorPlace) (r : Tree) → LeftOfFactor s k → want ts k ≡ reads r → Reads expression (s ++ ts) r
  want-sound [] s k r p h = no-reading h
  want-sound (Number n ∷ ts) s k r p h = have-sound ts s (Number n ∷ []) (list n) k r p number h
  want-sound (Plus ∷ ts) s k r p h = no-reading h
  want-sound (Minus ∷ ts) s k r p h = no-reading h
  want-sound (Times ∷ ts) s k r p h = no-reading h
  want-sound (Derive ∷ ts) s k r p h = rw append_assoc at (want-sound ts (s ++ Derive ∷ []) (after_derive k) r (derive p) h)
  want-sound (Open ∷ ts) s k r p h =
      rw append_assoc at (want-sound ts (s ++ Open ∷ []) (first_factor (first_term (inside k))) r (begun-factor (begun-term (opened p))) h)
  want-sound (Close ∷ ts) s k r p h = no-reading h
  want-sound (Wrong ∷ ts) s k r p h = no-reading h

  have-sound : (ts : List Token) → Sound ts
  have-sound [] s t e k r p x h =
      let a = all_read p x in
      rw (append-nil t, a.all)
      (end-sound a.left a.own (sum_tree (term_tree e k) (term_place k)) (sum_place (term_place k)) r a.placed a.is h)
  have-sound (Number n ∷ ts) s t e k r p x h = no-reading h
  have-sound (Plus ∷ ts) s t e k r p x h =
      let a = all_read p x in
      subst (λ (l : List Token). Reads expression l r) (behind s t a.left a.own ts Plus a.all)
      (want-sound ts (a.left ++ (a.own ++ Plus ∷ []))
      (first_factor (after_plus (sum_tree (term_tree e k) (term_place k)) (sum_place (term_place k)))) r
      (begun-factor (plus a.placed a.is)) h)
  have-sound (Minus ∷ ts) s t e k r p x h =
      let a = all_read p x in
      subst (λ (l : List Token). Reads expression l r) (behind s t a.left a.own ts Minus a.all)
      (want-sound ts (a.left ++ (a.own ++ Minus ∷ []))
      (first_factor (after_minus (sum_tree (term_tree e k) (term_place k)) (sum_place (term_place k)))) r
      (begun-factor (minus a.placed a.is)) h)
  have-sound (Times ∷ ts) s t e k r p x h =
      let a = term-read p x in
      subst (λ (l : List Token). Reads expression l r) (behind s t a.left a.own ts Times a.all)
      (want-sound ts (a.left ++ (a.own ++ Times ∷ [])) (after_times (term_tree e k) (term_place k)) r (times a.placed a.is) h)
  have-sound (Derive ∷ ts) s t e k r p x h = no-reading h
  have-sound (Open ∷ ts) s t e k r p x h = no-reading h
  have-sound (Close ∷ ts) s t e k r p x h =
      let a = all_read p x in
      subst (λ (l : List Token). Reads expression l r)
      (ap (λ (l : List Token). l ++ Close ∷ ts) (sym a.all) ∙ append_assoc s t (Close ∷ ts))
      (close-sound ts (have-sound ts) a.left a.own (sum_tree (term_tree e k) (term_place k)) (sum_place (term_place k)) r
      a.placed a.is h)
  have-sound (Wrong ∷ ts) s t e k r p x h = no-reading h

pub reading-sound : {s : List Token} {a : Tree} → reading_of s ≡ reads a → Reads expression s a
unfolding reading_of
reading-sound {s} {a} h = want-sound s [] (first_factor (first_term whole)) a (begun-factor (begun-term at-start)) h

pub outside-none : {s : List Token} → reading_of s ≡ outside → (a : Tree) → Reads expression s a → ⊥
outside-none h a x = no-reading (sym h ∙ reading-complete x)

pub none-outside : {s : List Token} → ((a : Tree) → Reads expression s a → ⊥) → reading_of s ≡ outside
none-outside {s} none = go (reading_of s) refl
  where
    go : (r : Reading) → reading_of s ≡ r → r ≡ outside
    go (reads a) e = absurd (none a (reading-sound e))
    go outside e = refl

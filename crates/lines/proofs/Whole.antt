-- A line as a whole: its reading ends at its end, and its parentheses are counted byte by byte.
--     deepest-turn, deepest-end, open-bound      the count of open parentheses
--     read_whole, read_on                        an expression that ends at the line's end, and one that does not
--     none-left                                  no token comes next
--     long, not-read, deep, fine                 what the line is refused with
-- Assumes nothing.
use mathlib.Core.Path.{◌≡◌, refl, sym, ap, ◌∙◌, subst}
use mathlib.Core.Bool.{Bool, true, false, cond, or-true}
use mathlib.Core.List.{List, [], ◌∷◌}
use Prim.Native.Nat.{ℕ, ◌+◌, ◌<◌, ◌≤◌, max}
use native.Mathlib.Numerals.{add-one}
use native.Mathlib.Omega.{arith}
use lib.Dec.{eqb, ltb}
use lib.ListN.{length, get_or, drop, drop_of_length-le}
use lib.Seq.{drop-cons}
use borrow.Author.Tests.{lt-ltb, le-ltb}
use Rattle.std.specs.Prelude.{Ok, Err, Option, Some, None, is_some}
use Rattle.refusal.specs.Limits.{max_line, max_open}
use Rattle.refusal.specs.Lowest.{lowest}
use Rattle.refusal.specs.declared.Refusal.TheVariants.{Line, Nesting}
use Rattle.refusal.proofs.First.{refuse, first-is}
use Rattle.lines.specs.declared.Token.{Token}
use Rattle.lines.specs.declared.Token.TheVariants.{Number, Plus, Minus, Times, Derive, Open, Close, Wrong}
use Rattle.lines.specs.Grammar.{tokens, open_behind, deepest, Tree}
use Rattle.lines.specs.Reader.{reads, outside, whole, first_term, first_factor, reading_of, want, have, closed, ended}
use Rattle.lines.specs.Reader.{term_place, term_tree, sum_place, sum_tree}
use Rattle.lines.proofs.Readings.{no-term}
use Rattle.lines.specs.Internal.{ends_sum, rest_of, Begins, Follows, Got, PastExpression}
use Rattle.lines.specs.Lines.{outside_grammar, too_deep, line_refusals}

pub open-bound : (before b : ℕ) → open_behind before b ≤ before + 1
unfolding open_behind
open-bound before b = go (eqb b 40) (eqb b 41)
  where
    go : (x y : Bool) → cond x (before + 1) (cond y (Prim.Native.Nat.◌-◌ before 1) before) ≤ before + 1
    go true true = omega arith
    go true false = omega arith
    go false true = omega arith
    go false false = omega arith

pub deepest-turn : (line : List ℕ) (i most depth : ℕ) → i < length line
    → max most (deepest depth (drop i line)) ≡ max (max most depth) (deepest (open_behind depth (get_or line i 0)) (drop (i + 1) line))
unfolding deepest
deepest-turn line i most depth h =
    let e : deepest depth (drop i line) ≡ max depth (deepest (open_behind depth (get_or line i 0)) (drop (i + 1) line)) = rw add-one
    (ap (deepest depth) (drop-cons line i 0 h)) in
    omega arith

pub deepest-end : (line : List ℕ) (i depth : ℕ) → length line ≤ i → deepest depth (drop i line) ≡ depth
unfolding deepest
deepest-end line i depth h = ap (deepest depth) (drop_of_length-le line h)

-- tokens behind the whole expression
behind : (t : Token) (ts : List Token) (e : Tree) → ends_sum (t ∷ ts) ≡ true → have (t ∷ ts) e (first_factor (first_term whole)) ≡ outside
unfolding want closed term_place term_tree sum_place sum_tree
behind (Number n) ts e h = refl
behind Plus ts e h = no-term h
behind Minus ts e h = no-term h
behind Times ts e h = no-term h
behind Derive ts e h = refl
behind Open ts e h = refl
behind Close ts e h = refl
behind Wrong ts e h = refl

nothing-behind : (e : Tree) → have [] e (first_factor (first_term whole)) ≡ reads e
unfolding want ended term_place term_tree sum_place sum_tree
nothing-behind e = refl

module _ (line old new : List ℕ) (end n : ℕ) (g : Got PastExpression line 0 old 0 new end n) where
  pub read_whole : rest_of line end ≡ [] → reading_of (tokens line) ≡ reads g.tree
  unfolding reading_of
  read_whole e = g.reading.0 whole ∙ ap (λ (l : List Token). have l g.tree (first_factor (first_term whole))) e ∙ nothing-behind
      g.tree

  read_behind : (t : Token) (after : ℕ) → Follows line end t after → reading_of (tokens line) ≡ outside
  unfolding reading_of
  read_behind t after f =
      g.reading.0 whole
      ∙ ap (λ (l : List Token). have l g.tree (first_factor (first_term whole))) f.is
      ∙ behind t (rest_of line after) g.tree (subst (λ (l : List Token). ends_sum l ≡ true) f.is g.reading.1)

  pub read_on : (t : Option (Token × ℕ)) → Begins line end t → is_some t ≡ true → reading_of (tokens line) ≡ outside
  read_on (Some t) f e = read_behind t.0 t.1 f
  read_on None f e = no-term e

pub none-left : (line : List ℕ) (end : ℕ) (t : Option (Token × ℕ)) → Begins line end t → is_some t ≡ false → rest_of line end ≡ []
none-left line end (Some t) f e = no-term (sym e)
none-left line end None f e = f

-- what is refused, as the chain of tests that the code makes
module _ (line : List ℕ) where
  line-judged : lowest (line_refusals line) ≡ refuse (outside_grammar line) Line (refuse (too_deep line) Nesting (Ok tt))
  unfolding line_refusals
  line-judged = first-is (line_refusals line) tt

  pub long : max_line < length line → Err Line ≡ lowest (line_refusals line)
  unfolding outside_grammar
  long h = sym (line-judged ∙ rw (lt-ltb max_line (length line) h))

  pub not-read : reading_of (tokens line) ≡ outside → Err Line ≡ lowest (line_refusals line)
  unfolding outside_grammar
  not-read e = sym (line-judged ∙ rw (e, or-true (ltb max_line (length line))))

  module _ (e : Tree) (short : length line ≤ max_line) (r : reading_of (tokens line) ≡ reads e) where
    within : outside_grammar line ≡ false
    unfolding outside_grammar
    within = rw (r, le-ltb max_line (length line) short)

    pub deep : max_open < deepest 0 line → Err Nesting ≡ lowest (line_refusals line)
    unfolding too_deep
    deep h = sym (line-judged ∙ rw (within, lt-ltb max_open (deepest 0 line) h))

    pub fine : deepest 0 line ≤ max_open → Ok tt ≡ lowest (line_refusals line)
    unfolding too_deep
    fine h = sym (line-judged ∙ rw (within, le-ltb max_open (deepest 0 line) h))

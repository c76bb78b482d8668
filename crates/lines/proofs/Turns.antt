-- How readings are put together: one law for each way through the functions that read a factor, a term and an expression.
--     number_read, derive-read, group-read             a factor that is a number, D and a factor, or an expression in parentheses
--     none_left, none-begins, derive-fails, group-..   and where there is none
--     products-turn, products-fail                     a term is read factor by factor
--     sums-turn, sums-fail                             an expression is read term by term
--     sign-past, room_for                              an operator takes a byte, for which the program has room
-- Assumes nothing.
use mathlib.Core.Path.{◌≡◌, refl, ap, ◌∙◌, subst}
use mathlib.Core.Bool.{true}
use mathlib.Core.Logic.{⊎_elim}
use mathlib.Core.List.{List, [], ◌∷◌, ◌++◌, append_assoc}
use Prim.Native.Nat.{ℕ, ◌+◌, ◌<◌, ◌≤◌}
use native.Mathlib.Numerals.{add-one}
use native.Mathlib.Omega.{arith}
use lib.ListN.{length, take, set}
use lib.Seq.{take-suc-set}
use Rattle.lines.specs.declared.Token.{Token}
use Rattle.lines.specs.declared.Token.TheVariants.{Number, Plus, Minus, Times, Derive, Open, Close, Wrong}
use Rattle.lines.specs.declared.Operator.{Operator}
use Rattle.lines.specs.declared.Operator.TheVariants.{Add, Subtract}
use Rattle.std.specs.Prelude.{Some}
use Rattle.lines.specs.Grammar.{Tree, list, sum, difference, product, derivative}
use Rattle.lines.specs.Reader.{outside, SumPlace, inside, TermPlace, first_term, after_plus, after_minus, FactorPlace}
use Rattle.lines.specs.Reader.{first_factor, after_times, after_derive}
use Rattle.lines.specs.Reader.{want, have, ended, term_place, term_tree, sum_place, sum_tree}
use Rattle.lines.proofs.Readings.{no-term, have-derive, have-times, have-plus, have-minus}
use Rattle.lines.proofs.Readings.{step-number, step-derive, step-open, step-close, step-times, step-plus, step-minus}
use Rattle.lines.specs.Program.{multiply_byte, derive_byte, byte_of, postfix}
use Rattle.lines.specs.Internal.{ends_sum, rest_of, Follows, SumSign, Past, Got, PastFactor, PastProducts, PastTerm}
use Rattle.lines.specs.Internal.{PastSums, PastExpression}

-- where a factor, a term and an expression are wanted
abbrev at_term : TermPlace → FactorPlace
at_term k = first_factor k

abbrev at_sum : SumPlace → FactorPlace
at_sum k = first_factor (first_term k)

-- the program grows by one byte
grown : (next : List ℕ) (k x : ℕ) → k < length next → take (k + 1) (set next k x) ≡ take k next ++ (x ∷ [])
grown next k x h = rw add-one (take-suc-set next k x h)

-- an operand, another one and their operator
joined : (rest between next : List ℕ) (k x : ℕ) (p q : List ℕ) → between ≡ rest ++ p → take k next ≡ between ++ q → k < length next
    → take (k + 1) (set next k x) ≡ rest ++ (p ++ q ++ (x ∷ []))
joined rest between next k x p q e f h =
    grown next k x h
    ∙ ap (λ (l : List ℕ). l ++ (x ∷ [])) (f ∙ ap (λ (l : List ℕ). l ++ q) e)
    ∙ simp append_assoc

module _ (line : List ℕ) (at after : ℕ) (old : List ℕ) (n : ℕ) (new : List ℕ) where
  pub number_read : (v : ℕ) → Follows line at (Number v) after → n < length old → Got PastFactor line at old n (set old n v) after (n + 1)
  unfolding postfix
  number_read v f h =
      record {
        tree = list v;
        reading = λ k. ap (λ (l : List Token). want l k) f.is ∙ step-number v (rest_of line after) k;
        further = f.past;
        within = f.within;
        short = omega (arith, f.past);
        program = grown old n v h;
      }

  pub derive-read : (end m : ℕ) → Follows line at Derive after → Got PastFactor line after old n new end m → m < length new
      → Got PastFactor line at old n (set new m derive_byte) end (m + 1)
  unfolding postfix
  derive-read end m f g h =
      record {
        tree = derivative g.tree;
        reading = λ k.
            ap (λ (l : List Token). want l k) f.is
            ∙ step-derive (rest_of line after) k
            ∙ g.reading (after_derive k)
            ∙ have-derive (rest_of line end) g.tree k;
        further = omega (arith, f.past, g.further);
        within = g.within;
        short = omega (arith, f.past, g.short);
        program =
            grown new m derive_byte h
            ∙ ap (λ (l : List ℕ). l ++ (derive_byte ∷ [])) g.program
            ∙ append_assoc (take n old) (postfix g.tree) (derive_byte ∷ []);
      }

  pub group-read : (end m beyond : ℕ) → Follows line at Open after → Got PastExpression line after old n new end m
      → Follows line end Close beyond
      → Got PastFactor line at old n new beyond m
  group-read end m beyond f g l =
      record {
        tree = g.tree;
        reading = λ k.
            ap (λ (l : List Token). want l k) f.is
            ∙ step-open (rest_of line after) k
            ∙ g.reading.0 (inside k)
            ∙ ap (λ (s : List Token). have s g.tree (at_sum (inside k))) l.is
            ∙ step-close (rest_of line beyond) g.tree k;
        further = omega (arith, f.past, g.further, l.past);
        within = l.within;
        short = omega (arith, f.past, g.short, l.past);
        program = g.program;
      }

-- a token with which no factor begins
pub none-begins : (t : Token) → ((n : ℕ) → t ≡ Number n → ⊥) → (t ≡ Derive → ⊥) → (t ≡ Open → ⊥) → (ts : List Token) (k : FactorPlace)
    → want (t ∷ ts) k ≡ outside
unfolding want
none-begins (Number n) a b o ts k = absurd (a n refl)
none-begins Plus a b o ts k = refl
none-begins Minus a b o ts k = refl
none-begins Times a b o ts k = refl
none-begins Derive a b o ts k = absurd (b refl)
none-begins Open a b o ts k = absurd (o refl)
none-begins Close a b o ts k = refl
none-begins Wrong a b o ts k = refl

pub none_left : (k : FactorPlace) → want [] k ≡ outside
unfolding want
none_left k = refl

none-closes : (t : Token) → (t ≡ Close → ⊥) → (ts : List Token)
    → ends_sum (t ∷ ts) ≡ true → (e : Tree) (k : FactorPlace) → have (t ∷ ts) e k ≡ outside
unfolding want
none-closes (Number n) o ts h e k = refl
none-closes Plus o ts h e k = no-term h
none-closes Minus o ts h e k = no-term h
none-closes Times o ts h e k = no-term h
none-closes Derive o ts h e k = refl
none-closes Open o ts h e k = refl
none-closes Close o ts h e k = absurd (o refl)
none-closes Wrong o ts h e k = refl

never-closed : (e : Tree) (k : FactorPlace) → have [] e (at_sum (inside k)) ≡ outside
unfolding want ended term_place term_tree sum_place sum_tree
never-closed e k = refl

module _ (line : List ℕ) (at after : ℕ) where
  pub derive-fails : Follows line at Derive after → ((k : FactorPlace) → want (rest_of line after) k ≡ outside)
      → (k : FactorPlace) → want (rest_of line at) k ≡ outside
  derive-fails f g k = ap (λ (l : List Token). want l k) f.is ∙ step-derive (rest_of line after) k ∙ g (after_derive k)

  pub group-fails : Follows line at Open after → ((k : SumPlace) → want (rest_of line after) (at_sum k) ≡ outside)
      → (k : FactorPlace) → want (rest_of line at) k ≡ outside
  group-fails f g k = ap (λ (l : List Token). want l k) f.is ∙ step-open (rest_of line after) k ∙ g (inside k)

  module _ (old : List ℕ) (n : ℕ) (new : List ℕ) (end m : ℕ) (f : Follows line at Open after)
      (g : Got PastExpression line after old n new end m) where
    grouped : (k : FactorPlace) → want (rest_of line at) k ≡ have (rest_of line end) g.tree (at_sum (inside k))
    grouped k = ap (λ (l : List Token). want l k) f.is ∙ step-open (rest_of line after) k ∙ g.reading.0 (inside k)

    pub group-ends : rest_of line end ≡ [] → (k : FactorPlace) → want (rest_of line at) k ≡ outside
    group-ends e k = grouped k ∙ ap (λ (l : List Token). have l g.tree (at_sum (inside k))) e ∙ never-closed g.tree k

    pub group-open : (t : Token) (beyond : ℕ) → Follows line end t beyond → (t ≡ Close → ⊥)
        → (k : FactorPlace) → want (rest_of line at) k ≡ outside
    group-open t beyond l o k =
        grouped k
        ∙ ap (λ (l : List Token). have l g.tree (at_sum (inside k))) l.is
        ∙ none-closes t o (rest_of line beyond) ends g.tree (at_sum (inside k))
      where
        ends : ends_sum (t ∷ rest_of line beyond) ≡ true
        ends = subst (λ (s : List Token). ends_sum s ≡ true) l.is g.reading.1

module _ (line : List ℕ) (at : ℕ) (old : List ℕ) (n : ℕ) (code : List ℕ) (here filled after : ℕ) where
  module _ (g : Got PastProducts line at old n code here filled) where
    pub products-fail : Follows line here Times after → ((k : FactorPlace) → want (rest_of line after) k ≡ outside)
        → (k : TermPlace) → want (rest_of line at) (at_term k) ≡ outside
    products-fail f h k =
        g.reading k
        ∙ ap (λ (l : List Token). have l g.tree (at_term k)) f.is
        ∙ step-times (rest_of line after) g.tree k
        ∙ h (after_times g.tree k)

    pub products-turn : (x : ℕ) (next : List ℕ) (end m : ℕ) → x ≡ multiply_byte → Follows line here Times after
        → Got PastFactor line after code filled next end m → m < length next
        → Got PastProducts line at old n (set next m x) end (m + 1)
    unfolding postfix
    products-turn x next end m e f h l =
        record {
          tree = product g.tree h.tree;
          reading = λ k.
              g.reading k
              ∙ ap (λ (l : List Token). have l g.tree (at_term k)) f.is
              ∙ step-times (rest_of line after) g.tree k
              ∙ h.reading (after_times g.tree k)
              ∙ have-times (rest_of line end) h.tree g.tree k;
          further = omega (arith, g.further, f.past, h.further);
          within = h.within;
          short = omega (arith, g.short, f.past, h.short);
          program =
              rw e
              (joined (take n old) (take filled code) next m multiply_byte (postfix g.tree) (postfix h.tree)
              g.program h.program l);
        }

  module _ (g : Got PastSums line at old n code here filled) where
    plus-read : Follows line here Plus after → (k : SumPlace)
        → want (rest_of line at) (at_sum k) ≡ want (rest_of line after) (at_term (after_plus g.tree k))
    plus-read f k =
        g.reading.0 k ∙ ap (λ (l : List Token). have l g.tree (at_sum k)) f.is ∙ step-plus (rest_of line after) g.tree k

    minus-read : Follows line here Minus after → (k : SumPlace)
        → want (rest_of line at) (at_sum k) ≡ want (rest_of line after) (at_term (after_minus g.tree k))
    minus-read f k =
        g.reading.0 k ∙ ap (λ (l : List Token). have l g.tree (at_sum k)) f.is ∙ step-minus (rest_of line after) g.tree k

    pub sums-fail : (o : Operator) → SumSign line here (Some (o, after)) → ((k : TermPlace) → want (rest_of line after) (at_term k) ≡ outside)
        → (k : SumPlace) → want (rest_of line at) (at_sum k) ≡ outside
    sums-fail o s h k =
        ⊎_elim
        (λ f. plus-read f.1 k ∙ h (after_plus g.tree k))
        (λ f. minus-read f.1 k ∙ h (after_minus g.tree k))
        s

    pub sums-turn : (o : Operator) (x : ℕ) (next : List ℕ) (end m : ℕ) → SumSign line here (Some (o, after)) → x ≡ byte_of o
        → Got PastTerm line after code filled next end m → m < length next
        → Got PastSums line at old n (set next m x) end (m + 1)
    unfolding postfix
    sums-turn o x next end m s e h l = ⊎_elim plus minus s
      where
        grows : (y : Operator) → o ≡ y → take (m + 1) (set next m x) ≡ take n old ++ (postfix g.tree ++ postfix h.tree ++ (byte_of y ∷ []))
        grows y f =
            rw (e, f)
            (joined (take n old) (take filled code) next m (byte_of y) (postfix g.tree) (postfix h.tree) g.program h.program l)

        plus : (o ≡ Add) × Follows line here Plus after → Got PastSums line at old n (set next m x) end (m + 1)
        plus f =
            record {
              tree = sum g.tree h.tree;
              reading = (
                λ k.
                    plus-read f.1 k
                    ∙ h.reading.0 (after_plus g.tree k)
                    ∙ have-plus (rest_of line end) h.tree g.tree k h.reading.1,
                h.reading.1,
              );
              further = omega (arith, g.further, f.1.past, h.further);
              within = h.within;
              short = omega (arith, g.short, f.1.past, h.short);
              program = grows Add f.0;
            }

        minus : (o ≡ Subtract) × Follows line here Minus after → Got PastSums line at old n (set next m x) end (m + 1)
        minus f =
            record {
              tree = difference g.tree h.tree;
              reading = (
                λ k.
                    minus-read f.1 k
                    ∙ h.reading.0 (after_minus g.tree k)
                    ∙ have-minus (rest_of line end) h.tree g.tree k h.reading.1,
                h.reading.1,
              );
              further = omega (arith, g.further, f.1.past, h.further);
              within = h.within;
              short = omega (arith, g.short, f.1.past, h.short);
              program = grows Subtract f.0;
            }

-- an operator takes a byte at least
pub sign-past : (line : List ℕ) (at : ℕ) (o : Operator) (after : ℕ) → SumSign line at (Some (o, after)) → (at < after) × (after ≤ length line)
sign-past line at o after s = ⊎_elim (λ f. (f.1.past, f.1.within)) (λ f. (f.1.past, f.1.within)) s

module _ {past : Past} {line : List ℕ} {at : ℕ} {old : List ℕ} {n : ℕ} {code : List ℕ} {here filled after : ℕ}
    (behind : n ≤ at) (enough : length line ≤ length old) (g : Got past line at old n code here filled) (p : here < after)
    (e : after ≤ length line) (s : length code ≡ length old) where
  -- the program has room for an operator behind what is read on
  pub room_for : {past' : Past} (next : List ℕ) (end m : ℕ) → Got past' line after code filled next end m → length next ≡ length code
      → m < length next
  room_for next end m h k = omega (arith, g.short, h.short, h.within)

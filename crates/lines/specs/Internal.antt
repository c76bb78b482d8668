-- What the functions need and promise that read a line, in terms of the reader. A place is a number of bytes of the line; `old` and `new`
-- are a parser, or the program's bytes, before and after a call, n and m how many of these are written.
--     ends_term           no * comes next: a term ends here
--     ends_sum            no operator comes next: an expression ends here
--     rest_of             the tokens of the line from a place on
--     Skipped             r is the next place that is no space
--     Follows             this token comes next, and ends at this place
--     Begins              the token that comes next
--     SumSign             whether + or - comes next; where a term has ended, an expression ends if neither does
--     ProductSign         whether * comes next; a term ends if it does not
--     PastFactor, ..      the reader gets past the tokens s with the tree e, and is left with t: a factor; factors joined by *, and such a
--                         whole term; terms joined by + or -, and such a whole expression
--     Room                the program has room for what is still to be read
--     Same                the line, and where the program goes, are those from before
--     Wrote               the program has a byte more
--     Got                 what was read from a place on: its tree, where it ends, and the program that was written for it
--     Read                the same of a parser
--     said_factor, ..     what the method says that reads a factor, a term or an expression
-- Assumes nothing.
use Rattle.std.specs.Prelude.{◌≡◌, Bool, true, false, ◌⊎◌, List, [], ◌∷◌, ◌++◌, ℕ, ◌+◌, ◌<◌, ◌≤◌, length, get_or, take, drop, set, Option, Some, None}
use Rattle.lines.specs.declared.Token.{Token}
use Rattle.lines.specs.declared.Token.TheVariants.{Number, Plus, Minus, Times, Derive, Open, Close, Wrong}
use Rattle.lines.specs.declared.Operator.{Operator}
use Rattle.lines.specs.declared.Operator.TheVariants.{Add, Subtract}
use Rattle.lines.specs.declared.Parser.{Parser}
use Rattle.lines.specs.Grammar.{tokens, Tree}
use Rattle.lines.specs.Reader.{outside, SumPlace, TermPlace, FactorPlace, first_factor, first_term, want, have}
use Rattle.lines.specs.Program.{postfix}

abbrev pub ends_term : List Token → Bool
ends_term [] = true
ends_term (Number n ∷ ts) = true
ends_term (Plus ∷ ts) = true
ends_term (Minus ∷ ts) = true
ends_term (Times ∷ ts) = false
ends_term (Derive ∷ ts) = true
ends_term (Open ∷ ts) = true
ends_term (Close ∷ ts) = true
ends_term (Wrong ∷ ts) = true

abbrev pub ends_sum : List Token → Bool
ends_sum [] = true
ends_sum (Number n ∷ ts) = true
ends_sum (Plus ∷ ts) = false
ends_sum (Minus ∷ ts) = false
ends_sum (Times ∷ ts) = false
ends_sum (Derive ∷ ts) = true
ends_sum (Open ∷ ts) = true
ends_sum (Close ∷ ts) = true
ends_sum (Wrong ∷ ts) = true

abbrev pub rest_of : List ℕ → ℕ → List Token
rest_of line at = tokens (drop at line)

pub record Skipped (line : List ℕ) (at r : ℕ) : Type 0 where
  pub same : rest_of line at ≡ rest_of line r
  pub low : at ≤ r
  pub high : r ≤ length line
  pub found : r < length line → get_or line r 0 ≡ 32 → ⊥

pub record Follows (line : List ℕ) (at : ℕ) (token : Token) (after : ℕ) : Type 0 where
  pub is : rest_of line at ≡ token ∷ rest_of line after
  pub past : at < after
  pub within : after ≤ length line

abbrev pub Begins : List ℕ → ℕ → Option (Token × ℕ) → Type 0
Begins line at (Some (token, after)) = Follows line at token after
Begins line at None = rest_of line at ≡ []

abbrev pub SumSign : List ℕ → ℕ → Option (Operator × ℕ) → Type 0
SumSign line at (Some (operator, after)) =
    ((operator ≡ Add) × Follows line at Plus after) ⊎ ((operator ≡ Subtract) × Follows line at Minus after)
SumSign line at None = ends_term (rest_of line at) ≡ true → ends_sum (rest_of line at) ≡ true

abbrev pub ProductSign : List ℕ → ℕ → Option ℕ → Type 0
ProductSign line at (Some after) = Follows line at Times after
ProductSign line at None = ends_term (rest_of line at) ≡ true

abbrev pub Past : Type 1
Past = List Token → Tree → List Token → Type 0

abbrev pub PastFactor : Past
PastFactor s e t = (k : FactorPlace) → want s k ≡ have t e k

abbrev pub PastProducts : Past
PastProducts s e t = (k : TermPlace) → want s (first_factor k) ≡ have t e (first_factor k)

abbrev pub PastTerm : Past
PastTerm s e t = PastProducts s e t × (ends_term t ≡ true)

abbrev pub PastSums : Past
PastSums s e t = ((k : SumPlace) → want s (first_factor (first_term k)) ≡ have t e (first_factor (first_term k))) × (ends_term t ≡ true)

abbrev pub PastExpression : Past
PastExpression s e t = ((k : SumPlace) → want s (first_factor (first_term k)) ≡ have t e (first_factor (first_term k))) × (ends_sum t ≡ true)

pub record Room (p : Parser) : Type 0 where
  pub place : p.at ≤ length p.line.now
  pub behind : p.filled ≤ p.at
  pub enough : length p.line.now ≤ length p.code.now

pub record Same (old new : Parser) : Type 0 where
  pub line : new.line ≡ old.line
  pub code : new.code.ghost_name ≡ old.code.ghost_name
  pub room : length new.code.now ≡ length old.code.now

pub record Wrote (x : ℕ) (old new : Parser) : Type 0 where
  pub same : Same old new
  pub at : new.at ≡ old.at
  pub filled : new.filled ≡ old.filled + 1
  pub code : new.code.now ≡ set old.code.now old.filled x

pub record Got (past : Past) (line : List ℕ) (at : ℕ) (old : List ℕ) (n : ℕ) (new : List ℕ) (end m : ℕ) : Type 0 where
  pub tree : Tree
  pub reading : past (rest_of line at) tree (rest_of line end)
  pub further : at < end
  pub within : end ≤ length line
  pub short : m + at ≤ end + n
  pub program : take m new ≡ take n old ++ postfix tree

pub record Read (past : Past) (old new : Parser) : Type 0 where
  pub same : Same old new
  pub got : Got past old.line.now old.at old.code.now old.filled new.code.now new.at new.filled

abbrev pub said_factor : Parser → Parser → Option (Unit {0}) → Type 0
said_factor old new (Some done) = Read PastFactor old new
said_factor old new None = (k : FactorPlace) → want (rest_of old.line.now old.at) k ≡ outside

abbrev pub said_term : Parser → Parser → Option (Unit {0}) → Type 0
said_term old new (Some done) = Read PastTerm old new
said_term old new None = (k : TermPlace) → want (rest_of old.line.now old.at) (first_factor k) ≡ outside

abbrev pub said_expression : Parser → Parser → Option (Unit {0}) → Type 0
said_expression old new (Some done) = Read PastExpression old new
said_expression old new None = (k : SumPlace) → want (rest_of old.line.now old.at) (first_factor (first_term k)) ≡ outside

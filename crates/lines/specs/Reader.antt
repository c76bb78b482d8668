-- A reader of tokens from left to right, which computes. A place says what is open to the left of the next token.
--     Reading               the tree that tokens read as, or that they lie outside the grammar
--     SumPlace              where an expression stands: the whole line, or in parentheses at a factor's place
--     TermPlace             where a term stands: it begins an expression, or it comes after a tree and + or -
--     FactorPlace           where a factor stands: it begins a term, or it comes after a tree and *, or after D
--     term_place            the place of the term that a factor at this place ends, if no * follows
--     term_tree             the tree of that term
--     sum_place, sum_tree   the same of the expression that a term ends
--     want                  the reading of the tokens where a factor is wanted
--     have                  the reading of the tokens behind a factor of this tree
--     closed                behind a closing parenthesis what was read is the factor at the place of the opening one
--     ended                 behind the last token the tree is read only where nothing is open
--     reading_of           the reading of a line's tokens
-- Theorems (proofs/Readings), where `Reads expression s a` is the grammar's:
--     reading-complete    tokens that read as a tree are read as it
--     reading-sound       tokens are read only as a tree that they read as
--     outside-none        tokens that the reader finds outside the grammar read as no tree
--     none-outside        and those that read as no tree it finds outside
-- Assumes nothing.
use Rattle.std.specs.Prelude.{List, [], ◌∷◌}
use Rattle.lines.specs.declared.Token.{Token}
use Rattle.lines.specs.declared.Token.TheVariants.{Number, Plus, Minus, Times, Derive, Open, Close, Wrong}
use Rattle.lines.specs.Grammar.{Tree, list, sum, difference, product, derivative}

pub data Reading : Type 0 where
  reads : Tree → Reading
  outside : Reading

mutual
  pub data SumPlace : Type 0 where
    whole : SumPlace
    inside : FactorPlace → SumPlace

  pub data TermPlace : Type 0 where
    first_term : SumPlace → TermPlace
    after_plus : Tree → SumPlace → TermPlace
    after_minus : Tree → SumPlace → TermPlace

  pub data FactorPlace : Type 0 where
    first_factor : TermPlace → FactorPlace
    after_times : Tree → TermPlace → FactorPlace
    after_derive : FactorPlace → FactorPlace

unfoldable pub term_place : FactorPlace → TermPlace
term_place (first_factor k) = k
term_place (after_times a k) = k
term_place (after_derive k) = term_place k

unfoldable pub term_tree : Tree → FactorPlace → Tree
term_tree e (first_factor k) = e
term_tree e (after_times a k) = product a e
term_tree e (after_derive k) = term_tree (derivative e) k

unfoldable pub sum_place : TermPlace → SumPlace
sum_place (first_term k) = k
sum_place (after_plus a k) = k
sum_place (after_minus a k) = k

unfoldable pub sum_tree : Tree → TermPlace → Tree
sum_tree e (first_term k) = e
sum_tree e (after_plus a k) = sum a e
sum_tree e (after_minus a k) = difference a e

unfoldable pub closed : SumPlace → (FactorPlace → Reading) → Reading
closed whole next = outside
closed (inside k) next = next k

unfoldable pub ended : SumPlace → Tree → Reading
ended whole e = reads e
ended (inside k) e = outside

unfoldable mutual
  pub want : List Token → FactorPlace → Reading
  want [] k = outside
  want (Number n ∷ ts) k = have ts (list n) k
  want (Plus ∷ ts) k = outside
  want (Minus ∷ ts) k = outside
  want (Times ∷ ts) k = outside
  want (Derive ∷ ts) k = want ts (after_derive k)
  want (Open ∷ ts) k = want ts (first_factor (first_term (inside k)))
  want (Close ∷ ts) k = outside
  want (Wrong ∷ ts) k = outside

  pub have : List Token → Tree → FactorPlace → Reading
  have [] e k = ended (sum_place (term_place k)) (sum_tree (term_tree e k) (term_place k))
  have (Number n ∷ ts) e k = outside
  have (Plus ∷ ts) e k = want ts (first_factor (after_plus (sum_tree (term_tree e k) (term_place k)) (sum_place (term_place k))))
  have (Minus ∷ ts) e k = want ts (first_factor (after_minus (sum_tree (term_tree e k) (term_place k)) (sum_place (term_place k))))
  have (Times ∷ ts) e k = want ts (after_times (term_tree e k) (term_place k))
  have (Derive ∷ ts) e k = outside
  have (Open ∷ ts) e k = outside
  have (Close ∷ ts) e k = closed (sum_place (term_place k)) (λ j. have ts (sum_tree (term_tree e k) (term_place k)) j)
  have (Wrong ∷ ts) e k = outside

unfoldable pub reading_of : List Token → Reading
reading_of ts = want ts (first_factor (first_term whole))

-- What the three calls of a C host refuse, return and write. A list of an odd number of bytes is refused with 4, a result of an odd number
-- with 10; else the rows are those of the call on the words.
--     lists_refused                                                       4 and 5 for the lists of a call, given as bytes
--     misfit                                                              a result slice has not exactly n words
--     host_product_rows, host_division_rows, host_gcd_rows                the rows of each call, for lists of at most `most` words
--     host_product_answer k, host_division_answer k, host_gcd_answer k    the number of the refusal; 0 when the call completes
--     host_product_written k                                              the bytes of the product
--     host_quotient_written k, host_remainder_written k                   those of the quotient and of the remainder
--     host_gcd_written k, host_values_written k                           those of h, zeros after it, and of w, c and rounds
-- Assumes nothing.
use Rattle.std.specs.Prelude.{Bool, not, ◌||◌, List, [], ◌∷◌, ◌++◌, ℕ, suc, ◌+◌, eqb, ltb, length, get_or}
use Rattle.refusal.specs.Refusal.{outcome_number, written}
use Rattle.refusal.specs.Lowest.{Condition, ◌given-when◌, lowest}
use Rattle.refusal.specs.declared.Refusal.TheVariants.{Length, LooseWord, Over, Backwards, Vanishes, AllZero, Misfit}
use Rattle.field.specs.Fields.{modulus, field_at, longest}
use Rattle.lists.specs.Degrees.{naive_degree, significant}
use Rattle.lists.specs.Operations as of
use Rattle.lists.specs.Padded.{padded}
use Rattle.lists.specs.Refused.{wrong_length, has_loose}
use Rattle.lists.specs.Bytes.{odd_bytes, words_of, bytes_of}
use Rattle.euclid_theory.specs.Division.{steps, quotient_of, remainder_of}
use Rattle.euclid_theory.specs.Gcd.{gcd_of}
use Rattle.list_gcd.specs.Calls.{gcd_values}

unfoldable pub lists_refused : (p most : ℕ) → (f g : List ℕ) → List Condition
lists_refused p most f g =
    Length given-when (odd_bytes f || wrong_length most (words_of f) || (odd_bytes g || wrong_length most (words_of g))) ∷
    LooseWord given-when (has_loose p (words_of f) || has_loose p (words_of g)) ∷
    []

unfoldable pub misfit : ℕ → List ℕ → Bool
misfit n out = odd_bytes out || not (eqb (length (words_of out)) n)

unfoldable pub host_product_rows : (p most : ℕ) → (f g out : List ℕ) → List Condition
host_product_rows p most f g out =
    lists_refused p most f g ++
    (Over given-when ltb most (suc (naive_degree (words_of f) + naive_degree (words_of g))) ∷
    Misfit given-when misfit (suc (naive_degree (words_of f) + naive_degree (words_of g))) out ∷
    [])

unfoldable pub host_division_rows : (p most : ℕ) → (g f q r : List ℕ) → List Condition
host_division_rows p most g f q r =
    lists_refused p most g f ++
    (Backwards given-when ltb (length (words_of g)) (length (words_of f)) ∷
    Vanishes given-when eqb (get_or (words_of f) (naive_degree (words_of f)) 0) 0 ∷
    Misfit given-when (misfit (steps (words_of g) (words_of f)) q || misfit (naive_degree (words_of f)) r) ∷
    [])

unfoldable pub host_gcd_rows : (p most : ℕ) → (f g h answer : List ℕ) → List Condition
host_gcd_rows p most f g h answer =
    lists_refused p most f g ++
    (AllZero given-when eqb (significant (words_of f) + significant (words_of g)) 0 ∷
    Misfit given-when (misfit most h || misfit 3 answer) ∷
    [])

-- what each call returns and writes; k is the number of a field, 0 that of the calls
abbrev pub host_product_answer : (k : ℕ) → (f g out : List ℕ) → ℕ
host_product_answer k f g out = outcome_number (lowest (host_product_rows (modulus k) (longest k) f g out))

abbrev pub host_product_written : (k : ℕ) → (f g out : List ℕ) → List ℕ
host_product_written k f g out =
    written (lowest (host_product_rows (modulus k) (longest k) f g out)) (bytes_of (of.product (field_at k) (words_of f) (words_of g))) out

abbrev pub host_division_answer : (k : ℕ) → (g f q r : List ℕ) → ℕ
host_division_answer k g f q r = outcome_number (lowest (host_division_rows (modulus k) (longest k) g f q r))

abbrev pub host_quotient_written : (k : ℕ) → (g f q r : List ℕ) → List ℕ
host_quotient_written k g f q r =
    written (lowest (host_division_rows (modulus k) (longest k) g f q r)) (bytes_of (quotient_of (field_at k) (words_of g) (words_of f))) q

abbrev pub host_remainder_written : (k : ℕ) → (g f q r : List ℕ) → List ℕ
host_remainder_written k g f q r =
    written (lowest (host_division_rows (modulus k) (longest k) g f q r)) (bytes_of (remainder_of (field_at k) (words_of g) (words_of f))) r

abbrev pub host_gcd_answer : (k : ℕ) → (f g h answer : List ℕ) → ℕ
host_gcd_answer k f g h answer = outcome_number (lowest (host_gcd_rows (modulus k) (longest k) f g h answer))

abbrev pub host_gcd_written : (k : ℕ) → (f g h answer : List ℕ) → List ℕ
host_gcd_written k f g h answer =
    written
    (lowest (host_gcd_rows (modulus k) (longest k) f g h answer))
    (bytes_of (padded (longest k) (gcd_of (field_at k) (words_of f) (words_of g))))
    h

abbrev pub host_values_written : (k : ℕ) → (f g h answer : List ℕ) → List ℕ
host_values_written k f g h answer =
    written (lowest (host_gcd_rows (modulus k) (longest k) f g h answer)) (bytes_of (gcd_values (field_at k) (words_of f) (words_of g))) answer

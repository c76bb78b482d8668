-- Demand 2, call by call, of every call to which no refusal applies: `lowest` of the call's rows is Ok. What the calls then answer and
-- write are the definitions named here (their contracts say so); the demand says that they are the ones document 01 speaks of.
--     Demand2      the demand, over a prime field F with more elements than a list has words
-- Theorems (proofs/Demand2):
--     demand2      it holds over every such field
--     of-engine    it holds over the field of 65,521 elements
-- Assumes nothing.
use Rattle.std.specs.Prelude.{◌≡◌, false, List, ℕ, suc, ◌+◌, ◌*◌, ◌<◌, max, get_or, Ok}
use Rattle.algebra.specs.Derivative as D
use Rattle.algebra.specs.PrimeField.{PrimeField, scalars, residue}
use Rattle.refusal.specs.Limits.{max_lists, max_words}
use Rattle.refusal.specs.Lowest.{lowest}
use Rattle.field.specs.Field as field
use Rattle.lists.specs.Bytes.{byte_values, Bytes, words_of, bytes_of}
use Rattle.lists.specs.Degrees.{naive_degree, significant, extent}
use Rattle.lists.specs.Refused.{has_loose, any_of}
use Rattle.lists.specs.Lists.{meaning}
use Rattle.lists.specs.Operations.{product, raise, sum_of, difference_of, trim, derivative, evaluate}
use Rattle.euclid_theory.specs.Division.{quotient_of, remainder_of}
use Rattle.list_product.specs.Calls.{product_rows, raise_rows}
use Rattle.list_sum.specs.Calls.{sum_rows}
use Rattle.list_extent.specs.Calls.{trim_rows}
use Rattle.list_derivative.specs.Calls.{derivative_words, derivative_rows}
use Rattle.list_division.specs.Calls.{divide_rows, DividesSo}
use Rattle.ordinary_theory.specs.Ordinary.{ordinary_quotient, ordinary_remainder, OrdinarySo}
use Rattle.list_ordinary_division.specs.Calls.{ordinary_rows}
use Rattle.album_layout.specs.Layout.{wrong_count, broken_layout, lists_of}
use Rattle.album_layout.specs.Written.{album_of, Writable}
use Rattle.statement.specs.Contained.{Contained}
use Rattle.statement.specs.Meant.{IsExtent, TheWord, TheValue, TheList, TheTrim}

module _ (F : PrimeField) where
  open scalars F use {neg as ⊖◌, add as ◌⊕◌, mul as ◌⊗◌}
  open F.series.ring use {neg as -ˢ◌, add as ◌+ˢ◌, mul as ◌*ˢ◌}

  infixl 65 ◌⊕◌
  infixl 70 ◌⊗◌
  infix 80 ⊖◌
  infixl 65 ◌+ˢ◌
  infixl 70 ◌*ˢ◌
  infix 80 -ˢ◌
  pub record Demand2 : Type 0 where
    -- coefficients, as elements of the field
    pub of_coefficients : (a b : ℕ) → a < F.p → b < F.p
        → TheWord F (residue F a ⊕ residue F b) (field.sum_of F.p a b)
        × TheWord F (residue F a ⊕ ⊖ residue F b) (field.difference_of F.p a b)
        × TheWord F (residue F a ⊗ residue F b) (field.product_of F.p a b)
    pub of_inverse : (a : ℕ) → 0 < a → a < F.p → field.IsInverse F.p a (field.inverse_of F a)
    -- lists
    pub of_product : (f g out : List ℕ) → lowest (product_rows F.p max_words f g out) ≡ Ok tt
        → TheList F (suc (naive_degree f + naive_degree g)) (meaning F f *ˢ meaning F g) (product F f g)
    pub of_raise : (f : List ℕ) (n : ℕ) (out : List ℕ) → lowest (raise_rows F.p max_words f n out) ≡ Ok tt
        → TheList F (suc n) (meaning F f) (raise F n f)
    pub of_sum : (f g out : List ℕ) → lowest (sum_rows F.p max_words f g out) ≡ Ok tt
        → TheList F (suc (max (naive_degree f) (naive_degree g))) (meaning F f +ˢ meaning F g) (sum_of F f g)
    pub of_difference : (f g out : List ℕ) → lowest (sum_rows F.p max_words f g out) ≡ Ok tt
        → TheList F (suc (max (naive_degree f) (naive_degree g))) (meaning F f +ˢ -ˢ meaning F g) (difference_of F f g)
    -- the extent: the largest k with c_k not 0
    pub of_extent : (f : List ℕ) → 0 < significant f → IsExtent f (extent f)
    pub of_zero : (f : List ℕ) → significant f ≡ 0 → (k : ℕ) → get_or f k 0 ≡ 0
    -- top zeros removed: the same scaled form, naive degree equal to the extent
    pub of_trim : (f out : List ℕ) → lowest (trim_rows F.p max_words f out) ≡ Ok tt → TheTrim F f (trim F f)
    pub of_derivative : (f out : List ℕ) → lowest (derivative_rows F.p max_words f out) ≡ Ok tt
        → TheList F (derivative_words f) (D.derivative F.series (meaning F f)) (derivative F f)
    pub of_value : (f : List ℕ) (x : ℕ) → TheValue F f x (evaluate F f x)
    -- quotient and remainder
    pub of_division : (g f q r : List ℕ) → lowest (divide_rows F.p max_words g f q r) ≡ Ok tt
        → DividesSo F g f (quotient_of F g f) (remainder_of F g f)
    -- in the usual sense: g = q·f + r, r is 0 or has a smaller degree in t than f, and no other two lists of g's length are so
    pub of_ordinary_division : (g f q r : List ℕ) → lowest (ordinary_rows F.p max_words g f q r) ≡ Ok tt
        → OrdinarySo F g f (ordinary_quotient F g f) (ordinary_remainder F g f)
    -- an album of bytes that obeys the layout and has no loose word is read: it is the album of its lists, and these are handed out
    pub of_reading : (s : List ℕ) → Bytes s → wrong_count max_lists s ≡ false → broken_layout s ≡ false
        → any_of (has_loose F.p) (lists_of s) ≡ false → (album_of (lists_of s) ≡ s) × Contained F s (lists_of s)
    -- the layout's rules, as those of the albums that hold some lists: such an album is one of bytes, obeys the layout, and its lists are these
    pub of_albums : (lists : List (List ℕ)) → Writable lists → Bytes (album_of lists)
        × (wrong_count max_lists (album_of lists) ≡ false) × (broken_layout (album_of lists) ≡ false) × (lists_of (album_of lists) ≡ lists)
    -- the words of a list as the bytes of a host, and back
    pub of_bytes : (c : List ℕ) → ((k : ℕ) → get_or c k 0 < byte_values * byte_values) → Bytes (bytes_of c) × (words_of (bytes_of c) ≡ c)

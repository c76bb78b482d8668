-- The text of lists, and what it says.
-- Theorem:
--     text-read     the text of lists that each have a word says these lists
-- Worked examples: two-lines, spaces-and-zeros.
-- Assumes nothing.
use mathlib.Core.Path.{◌≡◌, refl, sym, ◌∙◌, ap, ap₂}
use mathlib.Core.Bool.{cond}
use mathlib.Core.List.{List, [], ◌∷◌, ◌++◌, map, append_assoc}
use Prim.Native.Nat.{ℕ, zero, suc, ◌+◌, ◌-◌, ◌*◌, ◌/◌, ◌%◌, ◌≤◌, ◌<◌}
use native.Mathlib.Decide.{dec_lt}
use native.Mathlib.Omega.{arith}
use lib.ListN.{length, get_or, length-append}
use borrow.Author.Tests.{eq-eqb, ne_eqb}
use Rattle.report_text.specs.Text.{digit, decimal, line}
use Rattle.report_text.proofs.Digits.{decimal-one, decimal-more}
use Rattle.bind_text.specs.Text.{⟨line-end⟩, ⟨space⟩, onto, parts, lines_of, filled_of, fields_of, value_from, value_of, list_of, lists_in, text_of}

-- ---- bytes with no b among them
abbrev Without : ℕ → List ℕ → Type 0
Without b [] = Unit {0}
Without b (x ∷ s) = (x ≡ b → ⊥) × Without b s

without-append : (b : ℕ) (s t : List ℕ) → Without b s → Without b t → Without b (s ++ t)
without-append b [] t v w = w
without-append b (x ∷ s) t v w = (v.0, without-append b s t v.1 w)

module _ (b : ℕ) where
  -- bytes before a b are a part
  part_then : (s rest : List ℕ) → Without b s → parts b (s ++ (b ∷ rest)) ≡ s ∷ parts b rest
  unfolding parts onto
  part_then [] rest w = ap (λ t. cond t ([] ∷ parts b rest) (onto b (parts b rest))) (eq-eqb b b refl)
  part_then (x ∷ s) rest w =
      ap (λ t. cond t ([] ∷ parts b (s ++ (b ∷ rest))) (onto x (parts b (s ++ (b ∷ rest))))) (ne_eqb x b w.0)
      ∙ ap (onto x) (part_then s rest w.1)

  -- and so are bytes after which nothing stands
  part-alone : (s : List ℕ) → 0 < length s → Without b s → parts b s ≡ s ∷ []
  unfolding parts onto
  part-alone [] l w = absurd (omega arith)
  part-alone (x ∷ []) l w = ap (λ t. cond t ([] ∷ []) (onto x [])) (ne_eqb x b w.0)
  part-alone (x ∷ y ∷ s) l w =
      ap (λ t. cond t ([] ∷ parts b (y ∷ s)) (onto x (parts b (y ∷ s)))) (ne_eqb x b w.0)
      ∙ ap (onto x) (part-alone (y ∷ s) (omega arith) w.1)

-- ---- a number in decimal
value-append : (n : ℕ) (s t : List ℕ) → value_from n (s ++ t) ≡ value_from (value_from n s) t
unfolding value_from
value-append n [] t = refl
value-append n (x ∷ s) t = value-append (10 * n + (x - 48)) s t

value-one : (n d : ℕ) → value_from n (digit d ∷ []) ≡ 10 * n + d
unfolding value_from
value-one n d = omega arith

record Says (s : List ℕ) (n : ℕ) : Type 0 where
  some : 0 < length s
  one_line : Without ⟨line-end⟩ s
  one_field : Without ⟨space⟩ s
  value : value_from 0 s ≡ n

one-digit : (d n : ℕ) → d ≡ n → Says (digit d ∷ []) n
one-digit d n e =
    record {
      some = omega arith;
      one_line = ((λ z. omega arith), tt);
      one_field = ((λ z. omega arith), tt);
      value = value-one 0 d ∙ omega arith;
    }

more-digits : (s : List ℕ) (m d n : ℕ) → Says s m → 10 * m + d ≡ n → Says (s ++ (digit d ∷ [])) n
more-digits s m d n w e =
    let last = one-digit d d refl in
    record {
      some = omega (arith, length-append s (digit d ∷ []));
      one_line = without-append ⟨line-end⟩ s _ w.one_line last.one_line;
      one_field = without-append ⟨space⟩ s _ w.one_field last.one_field;
      value = value-append 0 s (digit d ∷ []) ∙ ap (λ i. value_from i (digit d ∷ [])) w.value ∙ value-one m d ∙ e;
    }

decimal-says : (k n : ℕ) → n ≤ k → Says (decimal n) n
decimal-says zero n l = rw (decimal-one n (omega arith)) (one-digit n n refl)
decimal-says (suc k) n l = go (dec_lt n 10) (decimal-says k (n / 10))
  where
    go : Dec (n < 10) → (n / 10 ≤ k → Says (decimal (n / 10)) (n / 10)) → Says (decimal n) n
    go (yes h) ih = rw (decimal-one n h) (one-digit n n refl)
    go (no h) ih = rw (decimal-more n (omega arith)) (more-digits (decimal (n / 10)) (n / 10) (n % 10) n (ih (omega arith)) (omega arith))

says : (n : ℕ) → Says (decimal n) n
says n = decimal-says n n (omega arith)

-- ---- a line
abbrev spaced : List ℕ → List ℕ
spaced [] = []
spaced (n ∷ []) = decimal n
spaced (n ∷ m ∷ c) = decimal n ++ (⟨space⟩ ∷ spaced (m ∷ c))

line-is : (c : List ℕ) → line (map decimal c) ≡ spaced c ++ (⟨line-end⟩ ∷ [])
unfolding line
line-is [] = refl
line-is (n ∷ []) = refl
line-is (n ∷ m ∷ c) =
    ap (λ s. decimal n ++ (⟨space⟩ ∷ s)) (line-is (m ∷ c)) ∙ sym (append_assoc (decimal n) (⟨space⟩ ∷ spaced (m ∷ c)) (⟨line-end⟩ ∷ []))

spaced-line : (c : List ℕ) → Without ⟨line-end⟩ (spaced c)
spaced-line [] = tt
spaced-line (n ∷ []) = (says n).one_line
spaced-line (n ∷ m ∷ c) = without-append ⟨line-end⟩ (decimal n) _ (says n).one_line ((λ z. omega arith), spaced-line (m ∷ c))

-- a field in front of others
filled_more : (n : ℕ) (rest : List (List ℕ)) → map value_of (filled_of (decimal n ∷ rest)) ≡ n ∷ map value_of (filled_of rest)
unfolding filled_of value_of
filled_more n rest =
    let some = (says n).some in
    ap (λ t. map value_of (cond t (filled_of rest) (decimal n ∷ filled_of rest))) (ne_eqb (length (decimal n)) 0 (λ z. omega arith))
    ∙ ap (λ i. i ∷ map value_of (filled_of rest)) (says n).value

none_filled : map value_of (filled_of []) ≡ []
unfolding filled_of
none_filled = refl

line_read : (c : List ℕ) → 0 < length c → list_of (spaced c) ≡ c
unfolding list_of fields_of
line_read [] l = absurd (omega arith)
line_read (n ∷ []) l =
    ap (λ some. map value_of (filled_of some)) (part-alone ⟨space⟩ (decimal n) (says n).some (says n).one_field)
    ∙ filled_more n []
    ∙ ap (λ r. n ∷ r) none_filled
line_read (n ∷ m ∷ c) l =
    ap (λ some. map value_of (filled_of some)) (part_then ⟨space⟩ (decimal n) (spaced (m ∷ c)) (says n).one_field)
    ∙ filled_more n (parts ⟨space⟩ (spaced (m ∷ c)))
    ∙ ap (λ r. n ∷ r) (line_read (m ∷ c) (omega arith))

-- ---- the text
pub text-read : (lists : List (List ℕ)) → ((k : ℕ) → k < length lists → 0 < length (get_or lists k [])) → lists_in (text_of lists) ≡ lists
unfolding lists_in lines_of text_of parts
text-read [] h = refl
text-read (c ∷ lists) h =
    ap (λ s. map list_of (parts ⟨line-end⟩ s))
    (ap (λ s. s ++ text_of lists) (line-is c) ∙ append_assoc (spaced c) (⟨line-end⟩ ∷ []) (text_of lists))
    ∙ ap (map list_of) (part_then ⟨line-end⟩ (spaced c) (text_of lists) (spaced-line c))
    ∙ ap₂ ◌∷◌ (line_read c (h 0 (omega arith))) (text-read lists (λ k l. h (suc k) (omega arith)))

-- ---- worked examples
-- "0 1\n0 0 1\n"
pub two-lines : lists_in (48 ∷ 32 ∷ 49 ∷ 10 ∷ 48 ∷ 32 ∷ 48 ∷ 32 ∷ 49 ∷ 10 ∷ []) ≡ (0 ∷ 1 ∷ []) ∷ (0 ∷ 0 ∷ 1 ∷ []) ∷ []
unfolding lists_in lines_of list_of fields_of filled_of value_of value_from parts onto
two-lines = refl

-- " 7  08 \n\n5"
pub spaces-and-zeros : lists_in (32 ∷ 55 ∷ 32 ∷ 32 ∷ 48 ∷ 56 ∷ 32 ∷ 10 ∷ 10 ∷ 53 ∷ []) ≡ (7 ∷ 8 ∷ []) ∷ [] ∷ (5 ∷ []) ∷ []
unfolding lists_in lines_of list_of fields_of filled_of value_of value_from parts onto
spaces-and-zeros = refl

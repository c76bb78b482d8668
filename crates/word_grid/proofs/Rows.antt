-- Sums of rows: rows that have words at an output, and rows that have none.
--     term_at a y b k j                row b + j at its output k, where the second factor stands behind 15 zeros
--     rows_at a y k n                  word k of the sum of the first n rows
--     Framed y m                      y begins with 15 zeros, and is 0 from m on
--     sum-ext, sum-zero, sum-skip     sums of the same terms, of zeros, and of one part after another
--     sum_more                        terms that are 0 add nothing
--     more-in, more-out               sixteen rows more, at an output that they reach, and at one that they do not
-- Assumes nothing.
use Rattle.std.proofs.Common.{◌≡◌, ℕ, zero, suc, ◌+◌, ◌-◌, ◌*◌, ◌<◌, ◌≤◌, ◌⊎◌, List, get_or, sym, refl, ap, ◌∙◌, inl, inr, le_refl, add-zero, add-suc, mul-zero, zero-add, arith}
use Rattle.word_grid.specs.Grid.{sum_to}

unfoldable pub term_at : (a y : List ℕ) → (b k j : ℕ) → ℕ
term_at a y b k j = get_or a (b + j) 0 * get_or y (k + 15 - j) 0

unfoldable pub rows_at : (a y : List ℕ) → (k n : ℕ) → ℕ
rows_at a y k n = sum_to n (term_at a y 0 k)

pub record Framed (y : List ℕ) (m : ℕ) : Type 0 where
  pub lead : (q : ℕ) → q < 15 → get_or y q 0 ≡ 0
  pub tail : (q : ℕ) → m ≤ q → get_or y q 0 ≡ 0

pub sum-ext : (n : ℕ) {f g : ℕ → ℕ} → ((j : ℕ) → j < n → f j ≡ g j) → sum_to n f ≡ sum_to n g
unfolding sum_to
sum-ext zero h = refl
sum-ext (suc n) h = omega (arith, sum-ext n (λ j p. h j (omega arith)), h n (le_refl (suc n)))

pub sum-zero : (n : ℕ) (f : ℕ → ℕ) → ((j : ℕ) → j < n → f j ≡ 0) → sum_to n f ≡ 0
unfolding sum_to
sum-zero zero f h = refl
sum-zero (suc n) f h = omega (arith, sum-zero n f (λ j p. h j (omega arith)), h n (le_refl (suc n)))

pub sum-skip : (m n : ℕ) (f : ℕ → ℕ) → sum_to (m + n) f ≡ sum_to m f + sum_to n (λ j. f (m + j))
unfolding sum_to
sum-skip m zero f = ap (λ x. sum_to x f) (add-zero m) ∙ sym (add-zero (sum_to m f))
sum-skip m (suc n) f = ap (λ x. sum_to x f) (add-suc m n) ∙ omega (arith, sum-skip m n f)

-- terms that are 0 add nothing
pub sum_more : (n i : ℕ) (f : ℕ → ℕ) → n ≤ i → ((j : ℕ) → n ≤ j → j < i → f j ≡ 0) → sum_to n f ≡ sum_to i f
sum_more n i f l h =
    sym
    (ap (λ m. sum_to m f) (split n i l) ∙ sum-skip n (i - n) f
    ∙ ap (λ x. sum_to n f + x) (sum-zero (i - n) _ (λ j p. h (n + j) (omega arith) (omega arith)))
    ∙ add-zero _)
  where
    split : (n i : ℕ) → n ≤ i → i ≡ n + (i - n)
    split n i l = omega arith

module _ (a y : List ℕ) where
  sixteen : (g : ℕ) → 16 * suc g ≡ 16 * g + 16
  sixteen g = omega arith

  more : (k g : ℕ) → rows_at a y k (16 * suc g) ≡ rows_at a y k (16 * g) + sum_to 16 (λ j. term_at a y 0 k (16 * g + j))
  unfolding rows_at
  more k g = ap (λ x. sum_to x (term_at a y 0 k)) (sixteen g) ∙ sum-skip (16 * g) 16 (term_at a y 0 k)

  -- sixteen rows that have words at 16 g + k
  term_in : (k g j : ℕ) → term_at a y 0 (16 * g + k) (16 * g + j) ≡ term_at a y (16 * g) k j
  unfolding term_at
  term_in k g j = ap (λ i. get_or a (0 + (16 * g + j)) 0 * get_or y i 0) place ∙ ap (λ i. get_or a i 0 * get_or y (k + 15 - j) 0) (zero-add (16 * g + j))
    where
      place : 16 * g + k + 15 - (16 * g + j) ≡ k + 15 - j
      place = omega arith

  pub more-in : (k g : ℕ) → rows_at a y (16 * g + k) (16 * suc g) ≡ rows_at a y (16 * g + k) (16 * g) + sum_to 16 (term_at a y (16 * g) k)
  more-in k g =
      more (16 * g + k) g
      ∙ ap (λ x. rows_at a y (16 * g + k) (16 * g) + x) (sum-ext 16 (λ j h. term_in k g j))

  -- and none
  pub more-out : {m : ℕ} → Framed y m → (k g : ℕ) → (k < 16 * g) ⊎ (16 * g + m ≤ k) → rows_at a y k (16 * suc g) ≡ rows_at a y k (16 * g)
  unfolding term_at
  more-out {m} f k g o =
      more k g
      ∙ ap (λ x. rows_at a y k (16 * g) + x)
      (sum-zero 16 _ (λ j h. ap (λ i. get_or a (0 + (16 * g + j)) 0 * i) (none o j h) ∙ mul-zero _))
      ∙ add-zero _
    where
      none : (k < 16 * g) ⊎ (16 * g + m ≤ k) → (j : ℕ) → j < 16 → get_or y (k + 15 - (16 * g + j)) 0 ≡ 0
      none (inl l) j h = f.lead (k + 15 - (16 * g + j)) (omega arith)
      none (inr l) j h = f.tail (k + 15 - (16 * g + j)) (omega arith)

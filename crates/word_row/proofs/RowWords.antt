-- The words of a row, and of a row step from word k on.
--     row_within, row-beyond                        a word of a row, where y reaches and where it does not
--     row_cut                                       y need not be read where it is 0
--     row_from-low, row_from-at, row_from-above     a word of the row step from word k on: before k, where y reaches, and past y
--     row_from-below, tight-row_from                the words stay below p
-- Assumes nothing.
use Rattle.std.proofs.Common.{◌≡◌, ℕ, ◌+◌, ◌-◌, ◌*◌, ◌%◌, ◌<◌, ◌≤◌, List, ◌++◌, length, get_or, take, drop, sym, ap, ◌∙◌, add-zero, mod-lt, mod-eq_of_lt, mul-zero, arith, length-append, length-drop, length-take, length-take-le, get_or-drop, get_or-take, get_or-append-add, le-ltb, lt-ltb}
use native.Mathlib.Decide.{dec_lt}
use lib.ListN.{get_or-append, get_or-eq_default}
use Rattle.lists.proofs.Tabulate.{length-tabulate, get_or-tabulate, tabulate-ext}
use Rattle.lists.specs.Words.{ZeroFrom, Tight}
use Rattle.word_row.specs.Rows.{row_at, row, row_from}

pub length-row : (p : ℕ) (x : List ℕ) (m : ℕ) (y : List ℕ) → length (row p x m y) ≡ length x
unfolding row
length-row p x m y = length-tabulate (length x) (row_at p x m y)

pub row_within : (p : ℕ) (x : List ℕ) (m : ℕ) (y : List ℕ) (i : ℕ) → i < length x → i < length y
    → get_or (row p x m y) i 0 ≡ (get_or x i 0 + m * get_or y i 0) % p
unfolding row row_at
row_within p x m y i lx ly = get_or-tabulate (length x) (row_at p x m y) i lx ∙ simp (lt-ltb i (length y) ly)

pub row-beyond : (p : ℕ) (x : List ℕ) (m : ℕ) (y : List ℕ) (i : ℕ) → length y ≤ i → get_or (row p x m y) i 0 ≡ get_or x i 0
unfolding row row_at
row-beyond p x m y i ly = go (dec_lt i (length x))
  where
    go : Dec (i < length x) → get_or (row p x m y) i 0 ≡ get_or x i 0
    go (yes l) = get_or-tabulate (length x) (row_at p x m y) i l ∙ simp (le-ltb i (length y) ly)
    go (no l) =
        let e = length-tabulate (length x) (row_at p x m y) in
        get_or-eq_default (row p x m y) 0 (omega arith) ∙ sym (get_or-eq_default x 0 (omega arith))

pub row_cut : (p c : ℕ) (x : List ℕ) (m : ℕ) (y : List ℕ) → ((j : ℕ) → get_or x j 0 < p) → ZeroFrom c y → row p x m (take c y) ≡ row p x m y
unfolding row row_at
row_cut p c x m y below z = tabulate-ext (length x) _ _ (λ i l. go i (dec_lt i (length (take c y))) (dec_lt i (length y)))
  where
    cut : length (take c y) ≤ length y
    cut = rw length-take (omega arith)

    past-cut : (i : ℕ) → ¬ (i < length (take c y)) → i < length y → get_or y i 0 ≡ 0
    past-cut i l h = z.at i (let e = length-take c y in omega arith)

    go : (i : ℕ) → Dec (i < length (take c y)) → Dec (i < length y) → row_at p x m (take c y) i ≡ row_at p x m y i
    go i (yes l) h =
        simp (lt-ltb i (length (take c y)) l, lt-ltb i (length y) (omega (arith, cut)))
        (ap (λ b. (get_or x i 0 + m * b) % p) (get_or-take c y i 0 (let e = length-take c y in omega arith)))
    go i (no l) (no h) = simp (le-ltb i (length (take c y)) (omega arith), le-ltb i (length y) (omega arith))
    go i (no l) (yes h) =
        simp (le-ltb i (length (take c y)) (omega arith), lt-ltb i (length y) h)
        (sym (ap (λ b. (get_or x i 0 + m * b) % p) (past-cut i l h) ∙ ap (λ b. (get_or x i 0 + b) % p) (mul-zero m)
        ∙ ap (λ b. b % p) (add-zero (get_or x i 0)) ∙ mod-eq_of_lt (below i)))

pub length-row_from : (p k : ℕ) (x : List ℕ) (m : ℕ) (y : List ℕ) → length (row_from p k x m y) ≡ length x
unfolding row_from
length-row_from p k x m y = simp (length-append, length-row, length-take, length-drop) (omega arith)

-- past the end every word reads 0
past : (p k : ℕ) (x : List ℕ) (m : ℕ) (y : List ℕ) (j : ℕ) → length x ≤ j → get_or (row_from p k x m y) j 0 ≡ get_or x j 0
past p k x m y j l =
    let e = length-row_from p k x m y in
    get_or-eq_default (row_from p k x m y) 0 (omega arith) ∙ sym (get_or-eq_default x 0 l)

pub row_from-low : (p k : ℕ) (x : List ℕ) (m : ℕ) (y : List ℕ) (j : ℕ) → j < k → get_or (row_from p k x m y) j 0 ≡ get_or x j 0
unfolding row_from
row_from-low p k x m y j l = go (dec_lt j (length x))
  where
    go : Dec (j < length x) → get_or (row_from p k x m y) j 0 ≡ get_or x j 0
    go (yes h) = get_or-append (take k x) (row p (drop k x) m y) 0 j (simp length-take (omega arith)) ∙ get_or-take k x j 0 l
    go (no h) = past p k x m y j (omega arith)

-- from word k on
from : (p k : ℕ) (x : List ℕ) (m : ℕ) (y : List ℕ) (i : ℕ) → k ≤ length x → get_or (row_from p k x m y) (k + i) 0 ≡ get_or (row p (drop k x) m y) i 0
unfolding row_from
from p k x m y i l =
    ap (λ n. get_or (take k x ++ row p (drop k x) m y) (n + i) 0) (sym (length-take-le k x l))
    ∙ get_or-append-add (take k x) (row p (drop k x) m y) i 0

pub row_from-at : (p k : ℕ) (x : List ℕ) (m : ℕ) (y : List ℕ) (i : ℕ) → k + i < length x → i < length y
    → get_or (row_from p k x m y) (k + i) 0 ≡ (get_or x (k + i) 0 + m * get_or y i 0) % p
row_from-at p k x m y i lx ly =
    from p k x m y i (omega arith) ∙ row_within p (drop k x) m y i (simp length-drop (omega arith)) ly
    ∙ ap (λ a. (a + m * get_or y i 0) % p) (get_or-drop k x i 0)

pub row_from-above : (p k : ℕ) (x : List ℕ) (m : ℕ) (y : List ℕ) (i : ℕ) → length y ≤ i → get_or (row_from p k x m y) (k + i) 0 ≡ get_or x (k + i) 0
row_from-above p k x m y i ly = go (dec_lt (k + i) (length x))
  where
    go : Dec (k + i < length x) → get_or (row_from p k x m y) (k + i) 0 ≡ get_or x (k + i) 0
    go (yes h) = from p k x m y i (omega arith) ∙ row-beyond p (drop k x) m y i ly ∙ get_or-drop k x i 0
    go (no h) = past p k x m y (k + i) (omega arith)

-- every word is one of x, or reduced
pub row_from-below : (p k : ℕ) (x : List ℕ) (m : ℕ) (y : List ℕ) → 0 < p → ((j : ℕ) → get_or x j 0 < p) → (j : ℕ) → get_or (row_from p k x m y) j 0 < p
row_from-below p k x m y pos h j = go (dec_lt j k) (dec_lt j (length x)) (dec_lt (j - k) (length y))
  where
    go : Dec (j < k) → Dec (j < length x) → Dec (j - k < length y) → get_or (row_from p k x m y) j 0 < p
    go (yes l) lx ly = rw (row_from-low p k x m y j l) (h j)
    go (no l) (no lx) ly = rw (past p k x m y j (omega arith)) (h j)
    go (no l) (yes lx) ly = let e : j ≡ k + (j - k) = omega arith in rw e (at (j - k) (omega arith) ly)
      where
        at : (i : ℕ) → k + i < length x → Dec (i < length y) → get_or (row_from p k x m y) (k + i) 0 < p
        at i lx (yes ly) = rw (row_from-at p k x m y i lx ly) (mod-lt (get_or x (k + i) 0 + m * get_or y i 0) pos)
        at i lx (no ly) = rw (row_from-above p k x m y i (omega arith)) (h (k + i))

module _ (p : ℕ) (pos : 0 < p) where
  pub tight-row_from : (k : ℕ) (x : List ℕ) (m : ℕ) (y : List ℕ) {z : List ℕ} → Tight p x → z ≡ row_from p k x m y → Tight p z
  tight-row_from k x m y t e = rw e (record { at = row_from-below p k x m y pos t.at })

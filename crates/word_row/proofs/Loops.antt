-- Laws of the row's loops.
--     start, next, finish     the row word by word: its start, one turn and its end
--     Kept, kept-..           the words that the loop has not come to
--     upto                    its end at word n
--     part-row                the row step on the part of a list from word k on
--     joined                  a row by its first words and a row of the rest
-- Assumes nothing.
use Rattle.std.proofs.Common.{◌≡◌, ℕ, ◌+◌, ◌-◌, ◌*◌, ◌%◌, ◌<◌, ◌≤◌, min, List, ◌++◌, length, get_or, take, drop, set, sym, refl, ap, ◌∙◌, append-nil, le_refl, not-suc-le-zero, arith, length-drop, length-set, drop_of_length-le, get_or-drop, take_all, get_or-set_other, get_or-set_same, le-ltb, lt-ltb}
use native.Mathlib.Decide.{dec_lt, ℕ_discrete}
use Rattle.lists.proofs.Tabulate.{tabulated}
use Rattle.lists.specs.Words.{Tight}
use Rattle.word_row.proofs.RowWords.{length-row_from, row_from-low, row_from-at, row_from-above}
use Rattle.word_row.specs.Rows.{row_at, row, row_from, Partway}

pub start : (p : ℕ) (x : List ℕ) (m : ℕ) (y : List ℕ) → Partway p x m y x 0
start p x m y = record { size = refl; done = λ j l. absurd (not-suc-le-zero l); rest = λ j l. refl }

pub next : (p : ℕ) (old : List ℕ) (m : ℕ) (y x : List ℕ) (i : ℕ) {v : ℕ} → i < length old → i < length y → Partway p old m y x i
    → v ≡ (get_or x i 0 + m * get_or y i 0) % p → Partway p old m y (set x i v) (i + 1)
next p old m y x i {v} lx ly w e =
    record {
      size = length-set x i v ∙ w.size;
      done = λ j l. go j l (ℕ_discrete j i);
      rest = λ j l. get_or-set_other x i j v 0 (omega arith) ∙ w.rest j (omega arith);
    }
  where
    here : v ≡ row_at p old m y i
    here = unfold row_at in (e ∙ ap (λ a. (a + m * get_or y i 0) % p) (w.rest i (omega arith)) ∙ simp (lt-ltb i (length y) ly))

    go : (j : ℕ) → j < i + 1 → Dec (j ≡ i) → get_or (set x i v) j 0 ≡ row_at p old m y j
    go j l (yes q) = rw (q, get_or-set_same x i v 0 (let s = w.size in omega arith)) here
    go j l (no q) = get_or-set_other x i j v 0 q ∙ w.done j (omega arith)

-- what a loop has not come to is as it was
pub record Kept (old x : List ℕ) (i : ℕ) : Type 0 where
  pub size : length x ≡ length old
  pub rest : (j : ℕ) → i ≤ j → get_or x j 0 ≡ get_or old j 0

pub kept-start : (x : List ℕ) → Kept x x 0
kept-start x = record { size = refl; rest = λ j l. refl }

pub kept_next : {old x : List ℕ} {i : ℕ} (v : ℕ) → Kept old x i → Kept old (set x i v) (i + 1)
kept_next {x = x} {i} v k =
    record { size = length-set x i v ∙ k.size; rest = λ j l. get_or-set_other x i j v 0 (omega arith) ∙ k.rest j (omega arith) }

pub kept-below : {p i : ℕ} {old x : List ℕ} → Tight p old → Kept old x i → get_or x i 0 < p
kept-below {i = i} t k = rw (k.rest i (le_refl i)) (t.at i)

pub upto : {p m n i : ℕ} {old y x : List ℕ} → n ≤ i → i ≤ n → Partway p old m y x i → Partway p old m y x n
upto h g w = record { size = w.size; done = λ j l. w.done j (omega arith); rest = λ j l. w.rest j (omega arith) }

pub finish : (p : ℕ) (old : List ℕ) (m : ℕ) (y x : List ℕ) (n i : ℕ) → n ≡ min (length old) (length y) → n ≤ i → Partway p old m y x i
    → x ≡ row p old m y
unfolding row
finish p old m y x n i e l w = tabulated x (length old) (row_at p old m y) w.size (λ j h. go j h (dec_lt j i))
  where
    beyond : (j : ℕ) → length y ≤ j → row_at p old m y j ≡ get_or old j 0
    beyond j h = unfold row_at in simp (le-ltb j (length y) h)

    go : (j : ℕ) → j < length old → Dec (j < i) → get_or x j 0 ≡ row_at p old m y j
    go j h (yes q) = w.done j q
    go j h (no q) = w.rest j (omega arith) ∙ sym (beyond j (omega arith))

-- the row step on a part, put back into its list
pub part-row : (p k : ℕ) (x : List ℕ) (m : ℕ) (y : List ℕ) {z : List ℕ} → z ≡ row p (take (length x - k) (drop k x)) m y
    → take k x ++ (z ++ drop (length x - k) (drop k x)) ≡ row_from p k x m y
unfolding row_from
part-row p k x m y e =
    rw (e, take_all (length x - k) (drop k x) whole, drop_of_length-le (drop k x) whole, append-nil)
  where
    whole : length (drop k x) ≤ length x - k
    whole = simp length-drop (omega arith)

-- the row by its first w words and a row of the rest
pub joined : (p w : ℕ) (old : List ℕ) (m : ℕ) (y x : List ℕ) {z : List ℕ} → Partway p old m y x w → w ≤ length y
    → z ≡ row p (take (length x - w) (drop w x)) m (take (length y - w) (drop w y))
    → take w x ++ (z ++ drop (length x - w) (drop w x)) ≡ row p old m y
unfolding row
joined p w old m y x part lw e =
    part-row p w x m (take (length y - w) (drop w y)) e
    ∙ ap (λ v. row_from p w x m v) (take_all (length y - w) (drop w y) (simp length-drop (omega arith)))
    ∙ tabulated (row_from p w x m (drop w y)) (length old) (row_at p old m y) (length-row_from p w x m (drop w y) ∙ part.size) (λ j h. go j h (dec_lt j w))
  where
    from : (i : ℕ) → w + i < length old → Dec (i < length (drop w y)) → get_or (row_from p w x m (drop w y)) (w + i) 0 ≡ row_at p old m y (w + i)
    from i h (yes l) =
        row_from-at p w x m (drop w y) i (let s = part.size in omega arith) l
        ∙ rw (part.rest (w + i) (omega arith), get_or-drop w y i 0) (unfold row_at in simp (lt-ltb (w + i) (length y) (let k = length-drop w y in omega arith)))
    from i h (no l) =
        row_from-above p w x m (drop w y) i (omega arith) ∙ part.rest (w + i) (omega arith)
        ∙ unfold row_at in simp (le-ltb (w + i) (length y) (let k = length-drop w y in omega arith))

    go : (j : ℕ) → j < length old → Dec (j < w) → get_or (row_from p w x m (drop w y)) j 0 ≡ row_at p old m y j
    go j h (yes l) = row_from-low p w x m (drop w y) j l ∙ part.done j l
    go j h (no l) = let e : j ≡ w + (j - w) = omega arith in rw e (from (j - w) (omega arith) (dec_lt (j - w) (length (drop w y))))

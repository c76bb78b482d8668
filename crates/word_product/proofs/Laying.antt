-- The factors in their buffers, and the words of the product.
--     front_lead, front_at, front-end     a list behind 15 zeros
--     framed                              it begins and ends with zeros
-- Theorems:
--     ready        what the layout loops leave is laid
--     rows_are     the rows of what is laid, sixteen after sixteen, are the words of the product
--     reduced-is   so the sums of the groups, reduced, are the product
-- Assumes nothing.
use mathlib.Core.Path.{◌≡◌, sym, ap, ap₂, ◌∙◌, subst}
use mathlib.Core.List.{List}
use Prim.Native.Nat.{ℕ, suc, ◌+◌, ◌-◌, ◌*◌, ◌/◌, ◌%◌, ◌≤◌, ◌<◌}
use native.Mathlib.Nat.{zero-add, mul-zero}
use native.Mathlib.Decide.{ℕ_discrete, dec_lt}
use native.Mathlib.Omega.{arith}
use lib.ListN.{length, get_or, replicate, get_or-append, get_or-eq_default}
use lib.Seq.{get_or-append-add}
use Rattle.lists.specs.Words.{ZeroFrom}
use Rattle.lists.proofs.Tabulate.{tabulate-ext}
use Rattle.lists.proofs.Words.{zeros-are}
use Rattle.word_pairs.specs.Pairs.{up}
use Rattle.word_layout.specs.Layout.{Stand, Centred, Woven}
use Rattle.word_layout.proofs.Loops.{stand-zero, odd-zero}
use Rattle.word_grid.specs.Grid.{Grid, reduced_words, sum_to}
use Rattle.word_grid.proofs.Rows.{term_at, rows_at, Framed, sum-ext, sum_more}
use Rattle.word_grid.proofs.Steps.{grid-near}
use Rattle.word_product.specs.Sums.{term_of, word_sum, remainders, front, Ready}
use Rattle.word_product.proofs.RowSums.{first_out}

split : (n i : ℕ) → n ≤ i → n + (i - n) ≡ i
split n i l = omega arith

module _ (b : List ℕ) where
  front_lead : (k : ℕ) → k < 15 → get_or (front b) k 0 ≡ 0
  unfolding front
  front_lead k l = get_or-append (replicate 15 0) b 0 k l ∙ (zeros-are 15).at k (omega arith)

  front_at : (k : ℕ) → get_or (front b) (15 + k) 0 ≡ get_or b k 0
  unfolding front
  front_at k = get_or-append-add (replicate 15 0) b k 0

  front-end : (k : ℕ) → length b + 15 ≤ k → get_or (front b) k 0 ≡ 0
  front-end k l =
      ap (λ j. get_or (front b) j 0) (sym (split 15 k (omega arith))) ∙ front_at (k - 15) ∙ get_or-eq_default b 0 (omega arith)

  pub framed : (m : ℕ) → length b + 15 ≤ m → Framed (front b) m
  framed m h = record { lead = λ q l. front_lead q l; tail = λ q l. front-end q (omega arith) }

-- words that stand for those of a list
stand-at : {p d : ℕ} {l s : List ℕ} → Centred p d l s (length l) → (k : ℕ) → Stand p (get_or l k 0) (get_or s (d + k) 0)
stand-at {p} {d} {l} {s} c k = go (dec_lt k (length l))
  where
    go : Dec (k < length l) → Stand p (get_or l k 0) (get_or s (d + k) 0)
    go (yes h) = c.done k h
    go (no h) = rw (get_or-eq_default l 0 {n = k} (omega arith), c.rest (d + k) (omega arith)) (stand-zero p)

stand-front : {p : ℕ} {b y : List ℕ} → Centred p 15 b y (length b) → (k : ℕ) → Stand p (get_or (front b) k 0) (get_or y k 0)
stand-front {p} {b} {y} c k = go (dec_lt k 15)
  where
    go : Dec (k < 15) → Stand p (get_or (front b) k 0) (get_or y k 0)
    go (yes h) = rw (front_lead b k h, c.low k h) (stand-zero p)
    go (no h) =
        subst (λ i. Stand p (get_or (front b) i 0) (get_or y i 0)) (split 15 k (omega arith)) (rw (front_at b (k - 15)) (stand-at c (k - 15)))

module _ {p : ℕ} {a b x y w : List ℕ} (n : ℕ) (ca : Centred p 0 a x (length a)) (cb : Centred p 15 b y (length b)) (wo : Woven y w (16 * n + 16))
    (lb : length b + 15 ≤ 16 * n) where
  first : (k : ℕ) → Stand p (get_or a k 0) (get_or x k 0)
  first k = subst (λ i. Stand p (get_or a k 0) (get_or x i 0)) (zero-add k) (stand-at ca k)

  upper : (q : ℕ) → Dec (q < 16 * n + 16) → Stand p (get_or (front b) (q + 1) 0) (get_or w (2 * q) 0)
  upper q (yes h) = rw (wo.upper q h) (stand-front cb (q + 1))
  upper q (no h) = rw (front-end b (q + 1) (omega (arith, lb)), wo.rest (2 * q) (omega arith)) (stand-zero p)

  lower : (q : ℕ) → Dec (q < 16 * n + 16) → Stand p (get_or (front b) q 0) (get_or w (2 * q + 1) 0)
  lower q (yes h) = rw (wo.lower q h) (stand-front cb q)
  lower q (no h) = rw (front-end b q (omega (arith, lb)), wo.rest (2 * q + 1) (omega arith)) (stand-zero p)

  odd_even : (i : ℕ) → Dec (i < 16 * n + 16) → 0 < up (get_or w (2 * i) 0)
  odd_even i (yes h) = rw (wo.upper i h) (cb.odd.at (i + 1))
  odd_even i (no h) = rw (wo.rest (2 * i) (omega arith)) odd-zero

  odd-odd : (i : ℕ) → Dec (i < 16 * n + 16) → 0 < up (get_or w (2 * i + 1) 0)
  odd-odd i (yes h) = rw (wo.lower i h) (cb.odd.at i)
  odd-odd i (no h) = rw (wo.rest (2 * i + 1) (omega arith)) odd-zero

  half : (k : ℕ) → k % 2 ≡ 0 → 2 * (k / 2) ≡ k
  half k e = omega (arith, e)

  half-odd : (k : ℕ) → ¬ (k % 2 ≡ 0) → 2 * (k / 2) + 1 ≡ k
  half-odd k e = omega (arith, e)

  odd-all : (k : ℕ) → Dec (k % 2 ≡ 0) → 0 < up (get_or w k 0)
  odd-all k (yes e) = subst (λ i. 0 < up (get_or w i 0)) (half k e) (odd_even (k / 2) (dec_lt (k / 2) (16 * n + 16)))
  odd-all k (no e) = subst (λ i. 0 < up (get_or w i 0)) (half-odd k e) (odd-odd (k / 2) (dec_lt (k / 2) (16 * n + 16)))

  pub ready : Ready p a b w x
  ready = record {
    odd = record { at = λ k. odd-all k (ℕ_discrete (k % 2) 0) };
    laid = record {
      first = first;
      upper = λ q. upper q (dec_lt q (16 * n + 16));
      lower = λ q. lower q (dec_lt q (16 * n + 16));
    };
    zero = record { at = λ k h. ca.rest k (omega arith) };
  }

module _ (a b : List ℕ) where
  -- a row that has a word at k, and one that has none
  row_in : (k j : ℕ) → j ≤ k → term_at a (front b) 0 k j ≡ term_of a b k j
  unfolding term_at term_of
  row_in k j h =
      ap₂ (λ i u. get_or a i 0 * u) (zero-add j) (ap (λ i. get_or (front b) i 0) (place k j h) ∙ front_at b (k - j))
    where
      place : (k j : ℕ) → j ≤ k → k + 15 - j ≡ 15 + (k - j)
      place k j h = omega arith

  row_out : (k j : ℕ) → k < j → term_at a (front b) 0 k j ≡ 0
  unfolding term_at
  row_out k j h = ap (λ u. get_or a (0 + j) 0 * u) (front_lead b (k + 15 - j) (omega arith)) ∙ mul-zero _

  pub rows_are : (k n : ℕ) → length a ≤ n → rows_at a (front b) k n ≡ word_sum a b k
  unfolding rows_at word_sum
  rows_are k n l = go (dec_lt k n)
    where
      go : Dec (k < n) → sum_to n (term_at a (front b) 0 k) ≡ sum_to (suc k) (term_of a b k)
      go (yes h) =
          sym (sum_more (suc k) n _ h (λ j p q. row_out k j p)) ∙ sum-ext (suc k) (λ j p. row_in k j (omega arith))
      go (no h) =
          sum-ext n (λ j p. row_in k j (omega arith)) ∙ sum_more n (suc k) _ (omega arith) (λ j p q. first_out a b k j (omega arith))

  pub reduced-is : {p : ℕ} → 65497 ≤ p → p ≤ 65521 → {w x lo₀ hi₀ lo hi : List ℕ} (g n m : ℕ) → Ready p a b w x → length a ≤ 16 * g → g ≤ 64
      → length b + 15 ≤ 16 * n → ZeroFrom 0 lo₀ → ZeroFrom 0 hi₀ → Grid w x n lo₀ hi₀ g lo hi → reduced_words p m lo hi ≡ remainders p m a b
  unfolding reduced_words remainders
  reduced-is {p} lp hp {w} {x} {lo₀} {hi₀} {lo} {hi} g n m r la lg lb u v t =
      tabulate-ext m _ _
      (λ k h. grid-near lp hp r.laid (framed b (16 * n) lb) u v lg t k ∙ ap (λ i. i % p) (rows_are k (16 * g) la))

-- A product taken off, where the second factor is 0 from word c on.
--     row_from-cut          so in one row
--     less_product-cut      its words from c on need not be read
--     less-below            the words stay below p
--     less_product-zero     where s is 0 from word c on, too, s - q · t is 0 from word c + length q - 1 on
-- Assumes nothing.
use mathlib.Core.Path.{◌≡◌, refl, ◌∙◌, ap, ap₂}
use mathlib.Core.List.{List, ◌++◌}
use Prim.Native.Nat.{ℕ, zero, suc, ◌+◌, ◌-◌, ◌*◌, ◌%◌, ◌≤◌, ◌<◌}
use native.Mathlib.Decide.{dec_lt}
use native.Mathlib.Omega.{arith}
use native.Mathlib.Nat.{mod-eq_of_lt, mul-zero}
use lib.ListN.{length, get_or, take, drop, get_or-eq_default}
use lib.Seq.{get_or-drop}
use Rattle.lists.specs.Words.{ZeroFrom}
use Rattle.word_row.specs.Rows.{row_from}
use Rattle.word_row.proofs.RowWords.{row_cut, length-row_from, row_from-at, row_from-above, row_from-below}
use Rattle.word_division.specs.Reduction.{negated, less_product_to, less_product}

module _ (p : ℕ) (pos : 0 < p) (c : ℕ) {t : List ℕ} (zt : ZeroFrom c t) where
  pub row_from-cut : (k : ℕ) (x : List ℕ) (m : ℕ) → ((j : ℕ) → get_or x j 0 < p) → row_from p k x m (take c t) ≡ row_from p k x m t
  unfolding row_from
  row_from-cut k x m below =
      ap (λ l. take k x ++ l) (row_cut p c (drop k x) m t (λ j. rw (get_or-drop k x j 0) (below (k + j))) zt)

  module _ (s q : List ℕ) where
    pub less-below : ((j : ℕ) → get_or s j 0 < p) → (k j : ℕ) → get_or (less_product_to p k s q t) j 0 < p
    unfolding less_product_to
    less-below below zero j = below j
    less-below below (suc k) j =
        row_from-below p k (less_product_to p k s q t) (negated p (get_or q k 0)) t pos (less-below below k) j

    less-cut : ((j : ℕ) → get_or s j 0 < p) → (k : ℕ) → less_product_to p k s q (take c t) ≡ less_product_to p k s q t
    unfolding less_product_to
    less-cut below zero = refl
    less-cut below (suc k) =
        ap (λ l. row_from p k l (negated p (get_or q k 0)) (take c t)) (less-cut below k)
        ∙ row_from-cut k (less_product_to p k s q t) (negated p (get_or q k 0)) (less-below below k)

    pub less_product-cut : ((j : ℕ) → get_or s j 0 < p) → less_product p s q (take c t) ≡ less_product p s q t
    unfolding less_product
    less_product-cut below = less-cut below (length q)

    -- one row more: from word c + k on both are 0
    row_zero : (k m : ℕ) (x : List ℕ) → ((j : ℕ) → c + k ≤ j → get_or x j 0 ≡ 0) → (j : ℕ) → c + k ≤ j → get_or (row_from p k x m t) j 0 ≡ 0
    row_zero k m x h j l = let e : j ≡ k + (j - k) = omega arith in rw e (at (j - k) (omega arith) (dec_lt (k + (j - k)) (length x)) (dec_lt (j - k) (length t)))
      where
        at : (i : ℕ) → c ≤ i → Dec (k + i < length x) → Dec (i < length t) → get_or (row_from p k x m t) (k + i) 0 ≡ 0
        at i b (no lx) lt = get_or-eq_default (row_from p k x m t) 0 (let e = length-row_from p k x m t in omega arith)
        at i b (yes lx) (no lt) = row_from-above p k x m t i (omega arith) ∙ h (k + i) (omega arith)
        at i b (yes lx) (yes lt) =
            row_from-at p k x m t i lx lt
            ∙ ap₂ (λ a b. (a + m * b) % p) (h (k + i) (omega arith)) (zt.at i b) ∙ ap (λ b. (0 + b) % p) (mul-zero m) ∙ mod-eq_of_lt pos

    less_zero : ZeroFrom c s → (k j : ℕ) → c + (k - 1) ≤ j → get_or (less_product_to p k s q t) j 0 ≡ 0
    unfolding less_product_to
    less_zero zs zero j l = zs.at j (omega arith)
    less_zero zs (suc k) j l =
        row_zero k (negated p (get_or q k 0)) (less_product_to p k s q t) (λ i b. less_zero zs k i (omega arith)) j (omega arith)

    pub less_product-zero : ZeroFrom c s → ZeroFrom (c + (length q - 1)) (less_product p s q t)
    unfolding less_product
    less_product-zero zs = record { at = less_zero zs (length q) }

-- Three products of halves make up the whole product, for every prime field F.
--     apart         words that are two products side by side, with a 0 between them
--     tight-parts, tight-product     the words of products are below p
-- Theorems:
--     karatsuba     the three products, joined, are the whole product
-- Assumes nothing.
use mathlib.Core.Path.{◌≡◌, refl, sym, ◌∙◌, ap, ap₂, subst}
use mathlib.Core.List.{List}
use Prim.Native.Nat.{ℕ, zero, suc, ◌+◌, ◌-◌, ◌*◌, ◌≤◌, ◌<◌}
use native.Mathlib.Decide.{dec_lt, ℕ_discrete}
use native.Mathlib.Nat.{zero-add, suc-add}
use native.Mathlib.Omega.{arith}
use lib.ListN.{length, get_or, take, drop, length-take, length-drop, get_or-eq_default}
use lib.Seq.{get_or-take, get_or-drop}
use Rattle.algebra.specs.RingLaws as R
use Rattle.algebra.specs.RingLaws.{RING}
use Rattle.algebra.specs.Series.{t}
use Rattle.algebra.proofs.Series.{coeff-0, C-one}
use Rattle.algebra.specs.Polynomial.{monomial}
use Rattle.algebra.specs.PrimeField.{PrimeField, scalars, positive, residue}
use Rattle.algebra.proofs.PrimeField.{residue-0, residue-1}
use Rattle.lists.specs.Words.{ZeroFrom, series_of, Tight}
use Rattle.lists.proofs.Words.{Carries, series_of-carries, carries-zero}
use Rattle.word_row.specs.Rows.{row, row_from}
use Rattle.word_row.proofs.RowWords.{length-row, length-row_from}
use Rattle.word_product.specs.Convolution.{convolution}
use Rattle.word_division.specs.Reduction.{negated}
use Rattle.word_division.proofs.Rows.{row-series}
use Rattle.word_karatsuba.specs.Halves.{Cut, Apart, halves_added, products_joined}
use Rattle.word_karatsuba.proofs.Products.{convolution-carries, carries-convolution, row-plus, row-minus, coeff-low, coeff-high, split-series}

module _ (F : PrimeField) where
  open scalars F use {Carrier as K, zero as 𝟘, one as 𝟙}
  open F.series.ring use {Carrier as S, zero as 0ˢ, one as 1ˢ, neg as -ˢ◌, add as ◌+ˢ◌, mul as ◌*ˢ◌}

  infixl 65 ◌+ˢ◌
  infixl 70 ◌*ˢ◌
  infix 80 -ˢ◌
  -- u^k
  abbrev power : ℕ → S
  power k = monomial F.series 𝟙 k

  pub power-add : (k n : ℕ) → power k *ˢ power n ≡ power (k + n)
  unfolding monomial
  power-add zero n = ap (λ z. z *ˢ power n) (C-one F.series) ∙ R.one-mul F.series.ring _ ∙ ap power (sym (zero-add n))
  power-add (suc k) n =
      R.mul_assoc F.series.ring _ _ _ ∙ ap (λ z. t F.series *ˢ z) (power-add k n) ∙ ap power (sym (suc-add k n))

  -- the identity
  middle : (a0 a1 b0 b1 : S) → (a0 +ˢ a1) *ˢ (b0 +ˢ b1) +ˢ -ˢ (a0 *ˢ b0) +ˢ -ˢ (a1 *ˢ b1) ≡ a0 *ˢ b1 +ˢ a1 *ˢ b0
  middle a0 a1 b0 b1 = simp RING

  whole : (u a0 a1 b0 b1 : S) → a0 *ˢ b0 +ˢ u *ˢ u *ˢ (a1 *ˢ b1) +ˢ u *ˢ (a0 *ˢ b1 +ˢ a1 *ˢ b0) ≡ (a0 +ˢ u *ˢ a1) *ˢ (b0 +ˢ u *ˢ b1)
  whole u a0 a1 b0 b1 = simp RING

  -- a list of zeros
  zero-carries : {x : List ℕ} → ZeroFrom 0 x → Carries F x 0ˢ
  zero-carries {x} z =
      record {
        below = λ k. rw (z.at k (omega arith)) (positive F);
        at = λ k. ap (residue F) (z.at k (omega arith)) ∙ residue-0 F ∙ sym (coeff-0 F.series k);
      }

  -- the sum of the parts of l
  halves-series : (h : ℕ) (l : List ℕ) {x : List ℕ} → h ≤ length x → length l ≤ h + length x → ZeroFrom 0 x
      → Carries F (halves_added F.p h l x) (series_of F (take h l) +ˢ series_of F (drop h l))
  unfolding halves_added
  halves-series h l {x} f r z =
      subst (λ s. Carries F (row F.p (row F.p x 1 (take h l)) 1 (drop h l)) (s +ˢ series_of F (drop h l))) (R.zero-add F.series.ring _)
      (row-plus F (drop h l)
      (let e = length-row F.p x 1 (take h l) in let g = length-drop h l in omega arith)
      (row-plus F (take h l) (let e = length-take h l in omega arith) (zero-carries z)))

  pub length-halves : (p h : ℕ) (l x : List ℕ) → length (halves_added p h l x) ≡ length x
  unfolding halves_added
  length-halves p h l x = length-row p (row p x 1 (take h l)) 1 (drop h l) ∙ length-row p x 1 (take h l)

  -- two products taken off
  taken-off : (s l r : List ℕ) {z u v : S} → length l ≤ length s → length r ≤ length s → Carries F s z → Carries F l u → Carries F r v
      → Carries F (row F.p (row F.p s (negated F.p 1) l) (negated F.p 1) r) (z +ˢ -ˢ u +ˢ -ˢ v)
  taken-off s l r {z} {u} {v} fl fr cs cl cr =
      subst (λ i. Carries F (row F.p (row F.p s (negated F.p 1) l) (negated F.p 1) r) i)
      (ap₂ (λ i j. z +ˢ -ˢ i +ˢ -ˢ j) (series_of-carries F cl) (series_of-carries F cr))
      (row-minus F r (let e = length-row F.p s (negated F.p 1) l in omega arith) (row-minus F l fl cs))

  module _ (n : ℕ) (o : List ℕ) {l r : S} (cl : Carries F (take n o) l) (gap : get_or o n 0 ≡ 0) (cr : Carries F (drop (suc n) o) r) where
    -- from word n on the first is 0
    low_end : (j : ℕ) → n ≤ j → F.series.coeff l j ≡ 𝟘
    low_end j i = carries-zero F cl j (get_or-eq_default (take n o) 0 (let e = length-take n o in omega arith))

    word : (j : ℕ) → Dec (j < n) → Dec (j ≡ n)
        → (get_or o j 0 < F.p) × (residue F (get_or o j 0) ≡ F.series.coeff (l +ˢ power (suc n) *ˢ r) j)
    word j (yes i) d =
        let e = get_or-take n o j 0 i in
        (rw (← e) (cl.below j), ap (residue F) (sym e) ∙ cl.at j ∙ sym (coeff-low F (suc n) l r j (omega arith)))
    word j (no i) (yes d) =
        let e : get_or o j 0 ≡ 0 = ap (λ k. get_or o k 0) d ∙ gap in
        (rw e (positive F), ap (residue F) e ∙ residue-0 F ∙ sym (coeff-low F (suc n) l r j (omega arith) ∙ low_end j (omega arith)))
    word j (no i) (no d) = let q : j ≡ suc n + (j - suc n) = omega arith in rw q (from (j - suc n))
      where
        from : (i : ℕ) → (get_or o (suc n + i) 0 < F.p) × (residue F (get_or o (suc n + i) 0) ≡ F.series.coeff (l +ˢ power (suc n) *ˢ r) (suc n + i))
        from i =
            let e = get_or-drop (suc n) o i 0 in
            (rw (← e) (cr.below i), ap (residue F) (sym e) ∙ cr.at i ∙ sym (coeff-high F (suc n) l r i (low_end (suc n + i) (omega arith))))

    pub apart : Carries F o (l +ˢ power (suc n) *ˢ r)
    apart = record { below = λ j. (word j (dec_lt j n) (ℕ_discrete j n)).0; at = λ j. (word j (dec_lt j n) (ℕ_discrete j n)).1 }

  -- the product's series by the three products
  series-joined : (h : ℕ) (a b : List ℕ) {a0 a1 b0 b1 : S} → series_of F (take h a) ≡ a0 → series_of F (drop h a) ≡ a1
      → series_of F (take h b) ≡ b0 → series_of F (drop h b) ≡ b1
      → a0 *ˢ b0 +ˢ power (2 * h) *ˢ (a1 *ˢ b1)
      +ˢ monomial F.series (residue F 1) h *ˢ ((a0 +ˢ a1) *ˢ (b0 +ˢ b1) +ˢ -ˢ (a0 *ˢ b0) +ˢ -ˢ (a1 *ˢ b1))
      ≡ series_of F a *ˢ series_of F b
  series-joined h a b {a0} {a1} {b0} {b1} e0 e1 f0 f1 =
      ap₂ (λ u v. a0 *ˢ b0 +ˢ u *ˢ (a1 *ˢ b1) +ˢ v) (ap power twice ∙ sym (power-add h h))
      (ap₂ (λ u v. monomial F.series u h *ˢ v) (residue-1 F) (middle a0 a1 b0 b1))
      ∙ whole (power h) a0 a1 b0 b1
      ∙ sym (ap₂ (λ u v. u *ˢ v) (split-series F h a ∙ ap₂ (λ u v. u +ˢ power h *ˢ v) e0 e1) (split-series F h b ∙ ap₂ (λ u v. u +ˢ power h *ˢ v) f0 f1))
    where
      twice : 2 * h ≡ h + h
      twice = omega arith

  -- two products of the parts side by side
  module _ (h : ℕ) (a b o : List ℕ) (cut : Cut (length a) (length b) h) (parts : Apart F h a b o) where
    low : Carries F (take (2 * h - 1) o) (series_of F (take h a) *ˢ series_of F (take h b))
    low = rw parts.first (convolution-carries F (take h a) (take h b) (let e = length-take h a in omega arith))

    high : Carries F (drop (2 * h) o) (series_of F (drop h a) *ˢ series_of F (drop h b))
    high = rw parts.second (convolution-carries F (drop h a) (drop h b) (let e = length-drop h a in omega arith))

    both : Carries F o (series_of F (take h a) *ˢ series_of F (take h b) +ˢ power (2 * h) *ˢ (series_of F (drop h a) *ˢ series_of F (drop h b)))
    both =
        let next : suc (2 * h - 1) ≡ 2 * h = omega arith in
        subst (λ i. Carries F o (series_of F (take h a) *ˢ series_of F (take h b) +ˢ power i *ˢ (series_of F (drop h a) *ˢ series_of F (drop h b)))) next
        (apart (2 * h - 1) o low parts.gap (rw next high))

    pub tight-parts : {p : ℕ} → F.p ≡ p → Tight p o
    tight-parts e = rw (← e) (record { at = both.below })

  pub tight-product : {p : ℕ} → F.p ≡ p → (a b : List ℕ) {s : List ℕ} → 1 ≤ length a → s ≡ convolution F a b → Tight p s
  tight-product e a b l f = rw (← e, f) (record { at = (convolution-carries F a b l).below })

  module _ (h : ℕ) (a b : List ℕ) {x y : List ℕ} (s o : List ℕ)
      (cut : Cut (length a) (length b) h)
      (sizes : (length x ≡ h) × (length y ≡ h + 1) × (length s ≡ 2 * h)) (room : length o + 1 ≡ length a + length b)
      (zx : ZeroFrom 0 x) (zy : ZeroFrom 0 y) (mid : s ≡ convolution F (halves_added F.p h a x) (halves_added F.p h b y))
      (parts : Apart F h a b o) where
    abbrev a0 : S
    a0 = series_of F (take h a)

    abbrev a1 : S
    a1 = series_of F (drop h a)

    abbrev b0 : S
    b0 = series_of F (take h b)

    abbrev b1 : S
    b1 = series_of F (drop h b)

    sums : Carries F s ((a0 +ˢ a1) *ˢ (b0 +ˢ b1))
    sums =
        subst (λ w. Carries F w ((a0 +ˢ a1) *ˢ (b0 +ˢ b1))) (sym mid)
        (subst (λ z. Carries F (convolution F (halves_added F.p h a x) (halves_added F.p h b y)) z)
        (ap₂ (λ u v. u *ˢ v) (series_of-carries F (halves-series h a (omega arith) (omega arith) zx)) (series_of-carries F (halves-series h b (omega arith) (omega arith) zy)))
        (convolution-carries F (halves_added F.p h a x) (halves_added F.p h b y) (let e = length-halves F.p h a x in omega arith)))

    -- the product of the sums, less the other two
    abbrev less : List ℕ
    less = row F.p (row F.p s (negated F.p 1) (take (2 * h - 1) o)) (negated F.p 1) (drop (2 * h) o)

    middles : Carries F less ((a0 +ˢ a1) *ˢ (b0 +ˢ b1) +ˢ -ˢ (a0 *ˢ b0) +ˢ -ˢ (a1 *ˢ b1))
    middles =
        let l = length-take (2 * h - 1) o in
        let r = length-drop (2 * h) o in
        taken-off s (take (2 * h - 1) o) (drop (2 * h) o) (omega arith) (omega arith) sums (low h a b o cut parts) (high h a b o cut parts)

    fits : length less ≤ length o - h
    fits =
        let l = length-row F.p (row F.p s (negated F.p 1) (take (2 * h - 1) o)) (negated F.p 1) (drop (2 * h) o) in
        let r = length-row F.p s (negated F.p 1) (take (2 * h - 1) o) in
        omega arith

    pub karatsuba : products_joined F.p h s o ≡ convolution F a b
    unfolding products_joined
    karatsuba =
        carries-convolution F a b
        (let e = length-row_from F.p h o 1 less in omega arith)
        (subst (λ z. Carries F (row_from F.p h o 1 less) z) (series-joined h a b refl refl refl refl) (row-series F h 1 (both h a b o cut parts) middles fits))

  -- the same as the code has it
  pub karatsuba-is : {p : ℕ} → F.p ≡ p → (h : ℕ) (a b x y s o : List ℕ) {x1 y1 r : List ℕ} → Cut (length a) (length b) h
      → (length x ≡ h) × (length y ≡ h + 1) × (length s ≡ 2 * h) → length o + 1 ≡ length a + length b → ZeroFrom 0 x → ZeroFrom 0 y
      → x1 ≡ halves_added p h a x → y1 ≡ halves_added p h b y → s ≡ convolution F x1 y1 → Apart F h a b o → r ≡ products_joined p h s o
      → r ≡ convolution F a b
  karatsuba-is {p} q h a b x y s o {x1} {y1} {r} cut sizes room zx zy =
      subst (λ i. x1 ≡ halves_added i h a x → y1 ≡ halves_added i h b y → s ≡ convolution F x1 y1 → Apart F h a b o → r ≡ products_joined i h s o
      → r ≡ convolution F a b) q
      (λ ex ey es parts er. er ∙ karatsuba h a b s o cut sizes room zx zy (es ∙ ap₂ (convolution F) ex ey) parts)

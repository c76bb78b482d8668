-- Blocks on words, for every prime field F.
--     reciprocal_is      the quotient of u^(2 e - 2), row by row, is a reciprocal
--     block-is           what a block writes
--     begun-start, begun-turn, begun-end     the blocks from the top: the loop's start, one turn, its end
-- Assumes nothing.
use mathlib.Core.Path.{◌≡◌, refl, sym, ◌∙◌, ap, ap₂, subst}
use mathlib.Core.List.{List, [], ◌++◌}
use Prim.Native.Nat.{ℕ, zero, suc, ◌+◌, ◌-◌, ◌*◌, ◌≤◌, ◌<◌}
use native.Mathlib.Decide.{dec_lt, ℕ_discrete}
use native.Mathlib.Omega.{arith}
use lib.ListN.{length, get_or, take, drop, set, length-take, length-drop, length-set, get_or-eq_default, take-append-drop}
use lib.Seq.{get_or-drop, get_or-set_same, get_or-set_other, take_at, drop_at, drop-length, drop-drop, length-take-le}
use Rattle.algebra.specs.RingLaws as R
use Rattle.algebra.specs.RingLaws.{RING}
use Rattle.algebra.proofs.Series.{ext, coeff-0, C-one}
use Rattle.algebra.specs.Polynomial.{Below, monomial}
use Rattle.algebra.proofs.Polynomial.{below-mono, below-monomial, coeff-monomial}
use Rattle.algebra.specs.Degree.{Degree}
use Rattle.algebra.proofs.Division.{division, remainder-below, coeff-monomial-low}
use Rattle.algebra.specs.Division.{quotient, remainder}
use Rattle.algebra.specs.PrimeField.{PrimeField, scalars, scalar_field, positive, residue}
use Rattle.algebra.proofs.PrimeField.{residue-0, residue-1, residue-mul-mod, residue-nonzero}
use Rattle.refusal.specs.Limits.{max_words}
use Rattle.lists.specs.Words.{ZeroFrom, series_of, Tight}
use Rattle.lists.proofs.Words.{Carries, carries-series_of, series_of-carries, coeff-series_of}
use Rattle.lists.proofs.Parts.{get_or-then-zeros}
use Rattle.lists.proofs.Tight.{tight-append, tight-drop, tight-take}
use Rattle.word_row.specs.Rows.{row}
use Rattle.word_product.specs.Convolution.{convolution, convolved_into}
use Rattle.word_product.proofs.Convolution.{length-convolution, convolve-is}
use Rattle.word_division.specs.Reduction.{negated, digits, words_of_quotient}
use Rattle.word_division.proofs.Loops.{reduce-fits}
use Rattle.word_division.proofs.Steps.{digits-quotient, length_digits}
use Rattle.word_karatsuba.proofs.Products.{below-series_of, convolution-carries, row-minus, split-series}
use Rattle.word_karatsuba.proofs.Karatsuba.{power-add, tight-product}
use Rattle.word_karatsuba.proofs.Parts.{rest-is}
use Rattle.word_block_division.specs.Blocks.{Inverts, power, Reciprocal, Divided, Begun}
use Rattle.word_block_division.proofs.Reciprocals.{block-rest}

-- the length of a part
part_length : (k n m : ℕ) (l : List ℕ) → m ≡ n → k + n ≤ length l → length (take m (drop k l)) ≡ n
part_length k n m l e h = length-take m (drop k l) ∙ omega (arith, length-drop k l)

module _ (F : PrimeField) where
  open scalars F use {Carrier as K, zero as 𝟘, one as 𝟙, mul as ◌⊗◌}

  infixl 70 ◌⊗◌
  open F.series.ring use {Carrier as S, zero as 0ˢ, one as 1ˢ, neg as -ˢ◌, add as ◌+ˢ◌, mul as ◌*ˢ◌}

  infixl 65 ◌+ˢ◌
  infixl 70 ◌*ˢ◌
  infix 80 -ˢ◌
  -- the last coefficient of a divisor, its inverse and its degree
  module _ (inv : ℕ) (y : List ℕ) (i : Inverts F.p inv y) where
    abbrev last : K
    last = F.series.coeff (series_of F y) (length y - 1)

    product-one : residue F inv ⊗ last ≡ 𝟙
    product-one =
        ap (λ z. residue F inv ⊗ z) (coeff-series_of F y (length y - 1))
        ∙ sym (residue-mul-mod F inv (get_or y (length y - 1) 0)) ∙ ap (residue F) i.inverse ∙ residue-1 F

    nonzero : ¬ (last ≡ 𝟘)
    nonzero e = (scalar_field F).one≢zero (sym product-one ∙ ap (λ z. residue F inv ⊗ z) e ∙ R.mul-zero (scalars F) _)

    pub top-inverse : residue F inv ≡ (scalar_field F).inv last
    top-inverse =
        sym (R.mul-one (scalars F) _) ∙ ap (λ z. residue F inv ⊗ z) (sym ((scalar_field F).mul-inv last nonzero))
        ∙ sym (R.mul_assoc (scalars F) _ _ _) ∙ ap (λ z. z ⊗ (scalar_field F).inv last) product-one ∙ R.one-mul (scalars F) _

    pub divisor-degree : Degree F.series (length y - 1) (series_of F y)
    divisor-degree = record { below = below-mono F.series (let s = i.some in omega arith) (below-series_of F y); top = nonzero }

    pub divisor-words : length y ≡ suc (length y - 1)
    divisor-words = let s = i.some in omega arith

    pub divisor-carries : Carries F y (series_of F y)
    divisor-carries = carries-series_of F i.tight.at

  -- u^(n-1), n words being given
  module _ (z : List ℕ) (zs : ZeroFrom 0 z) (n : ℕ) (l : length z ≡ suc n) where
    word : (j : ℕ) → Dec (j ≡ n) → Dec (j < n) → residue F (get_or (set z n 1) j 0) ≡ F.series.coeff (power F n) j
    word j (yes e) d = rw (e, get_or-set_same z n 1 0 (omega arith)) (residue-1 F ∙ sym (coeff-monomial F.series 𝟙 n))
    word j (no e) (yes d) =
        ap (residue F) (get_or-set_other z n j 1 0 e ∙ zs.at j (omega arith)) ∙ residue-0 F ∙ sym (coeff-monomial-low F.series 𝟙 n j d)
    word j (no e) (no d) =
        ap (residue F) (get_or-set_other z n j 1 0 e ∙ zs.at j (omega arith)) ∙ residue-0 F
        ∙ sym ((below-monomial F.series 𝟙 n).at j (omega arith))

    small : (j : ℕ) → Dec (j ≡ n) → get_or (set z n 1) j 0 < F.p
    small j (yes e) = rw (e, get_or-set_same z n 1 0 (omega arith)) F.prime.big
    small j (no e) = rw (get_or-set_other z n j 1 0 e ∙ zs.at j (omega arith)) (positive F)

    power-carries : Carries F (set z n 1) (power F n)
    power-carries = record { below = λ j. small j (ℕ_discrete j n); at = λ j. word j (ℕ_discrete j n) (dec_lt j n) }

  -- the reciprocal of a divisor's top
  module _ (inv : ℕ) (top z s : List ℕ) {s' : List ℕ} (i : Inverts F.p inv top) (ls : length s ≡ length top)
      (lz : length z + 1 ≡ 2 * length top) (zs : ZeroFrom 0 z) (e : s' ≡ digits F.p inv top (length s) (set z (length z - 1) 1)) where
    steps : length z - 1 ≡ 2 * (length top - 1)
    steps = let some = i.some in omega arith

    abbrev quotient-top : S
    quotient-top = quotient F.series (scalar_field F) (length s) (length top - 1) (power F (length z - 1)) (series_of F top)

    abbrev rest-top : S
    rest-top = remainder F.series (scalar_field F) (length s) (length top - 1) (power F (length z - 1)) (series_of F top)

    words : length s' ≡ length s
    words = ap length e ∙ length_digits F.p inv top (length s) (set z (length z - 1) 1)

    carried : Carries F s' quotient-top
    carried =
        rw e
        (digits-quotient F inv (length top - 1) (divisor-carries inv top i) (divisor-words inv top i) (top-inverse inv top i) (length s)
        (power-carries z zs (length z - 1) (let some = i.some in omega arith))
        (let some = i.some in let l = length-set z (length z - 1) 1 in omega arith))

    taken : (a b r : S) → a ≡ b +ˢ r → a +ˢ -ˢ b ≡ r
    taken a b r h = ap (λ c. c +ˢ -ˢ b) h ∙ back b r
      where
        back : (b r : S) → b +ˢ r +ˢ -ˢ b ≡ r
        back b r = simp RING

    left : power F (2 * (length s' - 1)) +ˢ -ˢ (series_of F s' *ˢ series_of F top) ≡ rest-top
    left =
        let same : 2 * (length s' - 1) ≡ length z - 1 = omega (arith, steps, words) in
        ap₂ (λ k q. power F k +ˢ -ˢ (q *ˢ series_of F top)) same (series_of-carries F carried)
        ∙ taken _ _ _ (division F.series (scalar_field F) (length s) (length top - 1) (power F (length z - 1)) (series_of F top))

    low : Below F.series (length top - 1) rest-top
    low =
        remainder-below F.series (scalar_field F) (length s) (length top - 1) (divisor-degree inv top i)
        (below-mono F.series (let some = i.some in omega (arith, steps)) (below-monomial F.series 𝟙 (length z - 1)))

    pub reciprocal_is : Reciprocal F top s'
    reciprocal_is =
        record {
          some = let some = i.some in omega (arith, words);
          size = words ∙ ls;
          rest =
              subst (λ r. Below F.series (length s' - 1) r) (sym left)
              (subst (λ k. Below F.series (k - 1) rest-top) (sym (words ∙ ls)) low);
        }

  pub reciprocal-at : {p : ℕ} → F.p ≡ p → (inv : ℕ) (top z s : List ℕ) {s' : List ℕ} → Inverts p inv top → length s ≡ length top
      → length z + 1 ≡ 2 * length top → ZeroFrom 0 z → s' ≡ words_of_quotient p inv (set z (length z - 1) 1) top s → Reciprocal F top s'
  reciprocal-at {p} h inv top z s i ls lz zs e =
      reciprocal_is inv top z s (rw h i) ls lz zs (e ∙ rw (reduce-fits (set z (length z - 1) 1) top s i.some fits, h) refl)
    where
      fits : length (set z (length z - 1) 1) + 1 ≡ length top + length s
      fits = ap (λ n. n + 1) (length-set z (length z - 1) 1) ∙ omega arith

  -- words that stand for 0 are 0
  zero_word : {l : List ℕ} {r : S} → Carries F l r → (k : ℕ) → F.series.coeff r k ≡ 𝟘 → get_or l k 0 ≡ 0
  zero_word {l} c k e = go (ℕ_discrete (get_or l k 0) 0)
    where
      go : Dec (get_or l k 0 ≡ 0) → get_or l k 0 ≡ 0
      go (yes h) = h
      go (no h) = absurd (residue-nonzero F _ (c.below k) h (c.at k ∙ e))

  restored : (a b : S) → a ≡ b +ˢ (a +ˢ -ˢ b)
  restored a b = simp RING

  -- one block
  module _ (x y s q : List ℕ) {t' q' v' x' : List ℕ} (r : Reciprocal F (drop (length y - length s) y) s) (tx : Tight F.p x)
      (fits : length s ≤ length y) (some : 1 ≤ length q) (short : length q ≤ length s) (lx : length x + 1 ≡ length y + length q)
      (et : t' ≡ convolution F (drop (length y - 1) x) s) (eq : q' ≡ drop (length s - 1) t') (ev : v' ≡ convolution F q' y)
      (ex : x' ≡ row F.p x (negated F.p 1) v') where
    abbrev d : ℕ
    d = length y - 1

    abbrev e : ℕ
    e = length s

    abbrev c : ℕ
    c = length y - e

    one : 1 ≤ e
    one = r.some

    seam : c + (e - 1) ≡ d
    seam = omega (arith, one)

    length-v : length (drop d x) ≡ length q
    length-v = length-drop d x ∙ omega (arith, one)

    product-carries : Carries F t' (series_of F (drop d x) *ˢ series_of F s)
    product-carries = rw et (convolution-carries F (drop d x) s (omega (arith, length-v)))

    length-t : length t' ≡ length q + e - 1
    length-t = ap length et ∙ length-convolution F (drop d x) s ∙ ap (λ n. n + e - 1) length-v

    length-q : length q' ≡ length q
    length-q = ap length eq ∙ length-drop (e - 1) t' ∙ omega (arith, length-t, one)

    product : series_of F (drop d x) *ˢ series_of F s ≡ series_of F (take (e - 1) t') +ˢ power F (e - 1) *ˢ series_of F q'
    product =
        sym (series_of-carries F product-carries) ∙ split-series F (e - 1) t'
        ∙ ap (λ l. series_of F (take (e - 1) t') +ˢ power F (e - 1) *ˢ series_of F l) (sym eq)

    below-part : (n : ℕ) (l : List ℕ) → length l ≤ n → Below F.series n (series_of F l)
    below-part n l h = below-mono F.series h (below-series_of F l)

    cleared : Below F.series d (series_of F x +ˢ -ˢ (series_of F q' *ˢ series_of F y))
    cleared =
        subst (λ z. Below F.series d z)
        (sym (ap₂ (λ a b. a +ˢ -ˢ (series_of F q' *ˢ b)) (split-series F d x) (split-series F c y)))
        (subst
        (λ n. Below F.series n (series_of F (take d x) +ˢ power F n *ˢ series_of F (drop d x) +ˢ -ˢ (series_of F q' *ˢ (series_of F (take c y) +ˢ power F c *ˢ series_of F (drop c y)))))
        seam
        (block-rest F c e (length q) one some short
        (below-part (c + (e - 1)) (take d x) (let l = length-take d x in omega (arith, seam)))
        (below-part (length q) (drop d x) (omega (arith, length-v)))
        (below-part c (take c y) (let l = length-take c y in omega arith))
        (below-part e (drop c y) (let l = length-drop c y in omega arith))
        (below-part (length q) q' (omega (arith, length-q)))
        (below-part (e - 1) (take (e - 1) t') (let l = length-take (e - 1) t' in omega arith))
        r.rest
        (restored _ _)
        product))

    taken-carries : Carries F v' (series_of F q' *ˢ series_of F y)
    taken-carries = rw ev (convolution-carries F q' y (omega (arith, length-q)))

    length_taken : length v' ≡ length x
    length_taken = ap length ev ∙ length-convolution F q' y ∙ omega (arith, length-q, one)

    left-carries : Carries F x' (series_of F x +ˢ -ˢ (series_of F q' *ˢ series_of F y))
    left-carries =
        rw ex
        (subst (λ z. Carries F (row F.p x (negated F.p 1) v') (series_of F x +ˢ -ˢ z)) (series_of-carries F taken-carries)
        (row-minus F v' (omega (arith, length_taken)) (carries-series_of F tx.at)))

    pub block-is : Divided F y x q' x'
    block-is =
        record {
          tight-quotient = rw eq (tight-drop (e - 1) (record { at = product-carries.below }));
          tight-rest = record { at = left-carries.below };
          rest = record { at = λ k l. zero_word left-carries k (cleared.at k l) };
          whole = restored _ _ ∙ ap (λ z. series_of F q' *ˢ series_of F y +ˢ z) (sym (series_of-carries F left-carries));
        }

  -- the same as the code has it
  module _ {p : ℕ} (is : F.p ≡ p) (x y s q t v : List ℕ) {t' q' v' : List ℕ} (r : Reciprocal F (drop (length y - length s) y) s)
      (small : length y ≤ max_words) (fits : length s ≤ length y) (some : 1 ≤ length q) (short : length q ≤ length s)
      (lx : length x + 1 ≡ length y + length q) (lt : length t + 1 ≡ length q + length s) (lv : length v ≡ length x)
      (et : t' ≡ convolved_into F max_words (take (length x - (length y - 1)) (drop (length y - 1) x)) s t)
      (eq : q' ≡ take (length t' - (length s - 1)) (drop (length s - 1) t'))
      (ev : v' ≡ convolved_into F max_words q' y v) where
    one_word : 1 ≤ length s
    one_word = r.some

    cleared-words : length (drop (length y - 1) x) ≡ length q
    cleared-words = length-drop (length y - 1) x ∙ omega (arith, one_word)

    product_is : t' ≡ convolution F (drop (length y - 1) x) s
    product_is =
        convolve-is F max_words (drop (length y - 1) x) s t (omega (arith, cleared-words)) (omega arith) (omega (arith, cleared-words))
        (et ∙ ap (λ l. convolved_into F max_words l s t) (rest-is (length y - 1) x))

    product-words : length t' ≡ length q + length s - 1
    product-words = ap length product_is ∙ length-convolution F (drop (length y - 1) x) s ∙ ap (λ n. n + length s - 1) cleared-words

    quotient-words : length (drop (length s - 1) t') ≡ length q
    quotient-words = length-drop (length s - 1) t' ∙ omega (arith, product-words, one_word)

    quotient_is : q' ≡ drop (length s - 1) t'
    quotient_is = eq ∙ rest-is (length s - 1) t'

    quotient-some : length q' ≡ length q
    quotient-some = ap length quotient_is ∙ quotient-words

    taken_is : v' ≡ convolution F q' y
    taken_is =
        convolve-is F max_words q' y v (omega (arith, quotient-some)) small (omega (arith, quotient-some, one_word)) ev

    pub taken-tight : Tight p v'
    taken-tight = tight-product F is q' y (omega (arith, quotient-some)) taken_is

    pub block_at : {x' : List ℕ} → Tight p x → x' ≡ row p x (negated p 1) v' → Divided F y x q' x'
    block_at tx ex = block-is x y s q r (rw is tx) fits some short lx product_is quotient_is taken_is (rw is ex)

  -- lists with zeros after them stand for the same
  series-of-words : (a b : List ℕ) → ((k : ℕ) → get_or a k 0 ≡ get_or b k 0) → series_of F a ≡ series_of F b
  series-of-words a b h =
      ext F.series _ _ (λ k. coeff-series_of F a k ∙ ap (residue F) (h k) ∙ sym (coeff-series_of F b k))

  none-at : (k : ℕ) → get_or {A = ℕ} [] k 0 ≡ 0
  none-at k = get_or-eq_default {A = ℕ} [] 0 {n = k} (omega arith)

  series-none : series_of F [] ≡ 0ˢ
  series-none = ext F.series _ _ (λ k. coeff-series_of F [] k ∙ ap (residue F) (none-at k) ∙ residue-0 F ∙ sym (coeff-0 F.series k))

  pub begun-start : (y x q : List ℕ) → Tight F.p x → 1 ≤ length y → length x + 1 ≡ length y + length q → Begun F y x (length q) x q
  begun-start y x q tx l e =
      record {
        tight-quotient = record { at = λ k. subst (λ i. i < F.p) (sym (ap (λ l. get_or l k 0) (drop-length q) ∙ none-at k)) (positive F) };
        tight-rest = tx;
        rest = record { at = λ k h. get_or-eq_default x 0 (omega arith) };
        whole = sym (ap (λ z. power F (length q) *ˢ z *ˢ series_of F y +ˢ series_of F x) (ap (series_of F) (drop-length q) ∙ series-none) ∙ none (power F (length q)) (series_of F y) (series_of F x));
      }
    where
      none : (a b c : S) → a *ˢ 0ˢ *ˢ b +ˢ c ≡ c
      none a b c = simp RING

  -- one turn: a block of n words at k, m being the words of x that it reaches
  module _ (y x₀ x q : List ℕ) (k n m i : ℕ) {b w : List ℕ} (begun : Begun F y x₀ (k + n) x q) (reach : m ≡ n + length y - 1) (words : i ≡ n)
      (some : 1 ≤ length y) (lx : k + m ≤ length x) (lq : k + n ≤ length q) (kept : length b ≡ length (take i (drop k q)))
      (block : Divided F y (take m (drop k x)) b w) where
    lb : length b ≡ n
    lb = kept ∙ part_length k n i q words lq

    abbrev x' : List ℕ
    x' = take k x ++ (w ++ drop m (drop k x))

    abbrev q' : List ℕ
    q' = take k q ++ (b ++ drop i (drop k q))

    beyond : (j : ℕ) → get_or (drop m (drop k x)) j 0 ≡ 0
    beyond j = get_or-drop m (drop k x) j 0 ∙ get_or-drop k x (m + j) 0 ∙ begun.rest.at (k + (m + j)) (omega arith)

    rest-words : drop i (drop k q) ≡ drop (k + n) q
    rest-words = drop-drop i k q ∙ ap (λ j. drop (k + j) q) words

    front : drop k x' ≡ w ++ drop m (drop k x)
    front = drop_at (take k x) _ k (length-take-le k x (omega arith))

    front-quotient : drop k q' ≡ b ++ drop i (drop k q)
    front-quotient = drop_at (take k q) _ k (length-take-le k q (omega arith))

    -- the window stands for all of x from k on, before and after
    window : series_of F (drop k x) ≡ series_of F (take m (drop k x))
    window = ap (series_of F) (sym (take-append-drop m (drop k x))) ∙ series-of-words _ _ (get_or-then-zeros (take m (drop k x)) _ beyond)

    window-left : series_of F (drop k x') ≡ series_of F w
    window-left = ap (series_of F) front ∙ series-of-words _ _ (get_or-then-zeros w _ beyond)

    before : series_of F x ≡ series_of F (take k x) +ˢ power F k *ˢ series_of F (take m (drop k x))
    before = split-series F k x ∙ ap (λ z. series_of F (take k x) +ˢ power F k *ˢ z) window

    after : series_of F x' ≡ series_of F (take k x) +ˢ power F k *ˢ series_of F w
    after =
        split-series F k x'
        ∙ ap₂ (λ l z. series_of F l +ˢ power F k *ˢ z) (take_at (take k x) _ k (length-take-le k x (omega arith))) window-left

    all_words : series_of F (drop k q') ≡ series_of F b +ˢ power F n *ˢ series_of F (drop (k + n) q)
    all_words =
        ap (series_of F) front-quotient ∙ split-series F n (b ++ drop i (drop k q))
        ∙ ap₂ (λ l r. series_of F l +ˢ power F n *ˢ series_of F r) (take_at b _ n lb) (drop_at b _ n lb ∙ rest-words)

    gathered : (a u v g h y w : S) → u *ˢ v *ˢ g *ˢ y +ˢ (a +ˢ u *ˢ (h *ˢ y +ˢ w)) ≡ u *ˢ (h +ˢ v *ˢ g) *ˢ y +ˢ (a +ˢ u *ˢ w)
    gathered a u v g h y w = simp RING

    pub begun-turn : Begun F y x₀ k x' q'
    begun-turn =
        record {
          tight-quotient =
              rw front-quotient
              (tight-append block.tight-quotient (rw (rest-words) begun.tight-quotient));
          tight-rest =
              tight-append (tight-take k begun.tight-rest)
              (tight-append block.tight-rest (record { at = λ j. rw (beyond j) (positive F) }));
          rest = record { at = λ j l. let e : j ≡ k + (j - k) = omega arith in rw e (zero (j - k) (omega arith)) };
          whole =
              begun.whole
              ∙ ap₂ (λ u z. u *ˢ series_of F (drop (k + n) q) *ˢ series_of F y +ˢ z) (sym (power-add F k n)) (before ∙ ap (λ z. series_of F (take k x) +ˢ power F k *ˢ z) block.whole)
              ∙ gathered (series_of F (take k x)) (power F k) (power F n) (series_of F (drop (k + n) q)) (series_of F b) (series_of F y) (series_of F w)
              ∙ sym (ap₂ (λ z r. power F k *ˢ z *ˢ series_of F y +ˢ r) all_words after);
        }
      where
        zero : (i : ℕ) → length y - 1 ≤ i → get_or x' (k + i) 0 ≡ 0
        zero i l = sym (get_or-drop k x' i 0) ∙ ap (λ l. get_or l i 0) front ∙ get_or-then-zeros w _ beyond i ∙ block.rest.at i l

  power-none : power F 0 ≡ 1ˢ
  unfolding monomial
  power-none = C-one F.series

  pub begun-end : (y x₀ x q : List ℕ) (k : ℕ) → k ≤ 0 → Begun F y x₀ k x q → Divided F y x₀ q x
  begun-end y x₀ x q zero l b =
      record {
        tight-quotient = b.tight-quotient;
        tight-rest = b.tight-rest;
        rest = record { at = λ j h. b.rest.at j (omega arith) };
        whole = b.whole ∙ ap (λ z. z *ˢ series_of F q *ˢ series_of F y +ˢ series_of F x) power-none ∙ once (series_of F q) (series_of F y) (series_of F x);
      }
    where
      once : (a b c : S) → 1ˢ *ˢ a *ˢ b +ˢ c ≡ a *ˢ b +ˢ c
      once a b c = simp RING
  begun-end y x₀ x q (suc k) l b = absurd (omega arith)

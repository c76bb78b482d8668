-- Horner's rule over two parts of the words.
--     factor m, pow_t k               1 + m·t, and t^k
--     base-is                         1 + t and 1 - t are 1 + m·t with m the sign
--     joined-carries                  words that stand for the sum of both parts, as many as there are, are `joined`
--     parts-tight                     the two parts, expanded, are tight one after the other
--     zeros-expanded                  words that are all 0 stay so, with p as the code has it
--     parts-expanded                  what the code leaves is all words expanded, with p as the code has it
-- Theorems:
--     split               for series: (1 + m·t)^(j+1) times the sum over the first h + 1 terms plus t^(h+1) times that over the other j + 1
--     expanded-joined     for words: the two parts, expanded and joined, are all words expanded
--     expanded-zeros      words that are all 0 stay so
-- Assumes nothing.
use mathlib.Core.Path.{◌≡◌, refl, sym, ◌∙◌, ap, ap₂, subst}
use mathlib.Core.Bool.{Bool, true, false}
use mathlib.Core.List.{List, ◌++◌}
use Prim.Native.Nat.{ℕ, zero, suc, ◌+◌, ◌-◌, ◌≤◌, ◌<◌}
use native.Mathlib.Omega.{arith}
use lib.ListN.{length, get_or, take, drop, length-append, length-drop}
use lib.Seq.{length-take-le, get_or-take, get_or-drop, ext_get_or, take_at, drop_at}
use Rattle.algebra.specs.RingLaws as R
use Rattle.algebra.specs.Ring.{pow}
use Rattle.algebra.specs.RingLaws.{RING}
use Rattle.algebra.proofs.Ring.{pow-zero, pow-suc, pow-add}
use Rattle.algebra.specs.Series.{C, t}
use Rattle.algebra.proofs.Series.{coeff-0, C-zero}
use Rattle.algebra.specs.Homogenise.{hom}
use Rattle.algebra.specs.PrimeField.{PrimeField, scalars, positive, residue}
use Rattle.algebra.proofs.PrimeField.{residue-0}
use Rattle.lists.specs.Degrees.{significant}
use Rattle.lists.proofs.Extents.{after-significant}
use Rattle.lists.proofs.Tabulate.{tabulated}
use Rattle.lists.specs.Words.{series_of, Tight}
use Rattle.lists.proofs.Words.{Carries, coeff-series_of, carries-series_of, series_of-carries, value-is}
use Rattle.lists.proofs.Tight.{tight-append, tight-drop, tight-take}
use Rattle.ordinary_theory.specs.Form.{form}
use Rattle.word_expansion.specs.Expansion.{expanded}
use Rattle.word_expansion.proofs.Loops.{length-expanded}
use Rattle.word_expansion.proofs.Horner.{sign, less-t, plus-t, Horner, horner-hom, horner-form, expanded-horner}
use Rattle.word_expansion_halves.specs.Halves.{base, joined_series, joined}

module _ (F : PrimeField) where
  open scalars F use {Carrier as K}
  open F.series.ring use {Carrier as S, one as 1ˢ, add as ◌+ˢ◌, mul as ◌*ˢ◌}

  infixl 65 ◌+ˢ◌
  infixl 70 ◌*ˢ◌
  abbrev pub factor : K → S
  factor m = 1ˢ +ˢ C F.series m *ˢ t F.series

  abbrev pub pow_t : ℕ → S
  pow_t k = pow F.series.ring (t F.series) k

  pub base-is : (plus : Bool) → base F plus ≡ factor (sign F plus)
  unfolding base
  base-is true = plus-t F
  base-is false = less-t F

  -- only the first k + 1 coefficients count
  agree : (m : K) {s r : S} {T U : ℕ → S} → Horner F m s T → Horner F m r U → (k : ℕ)
      → ((i : ℕ) → i ≤ k → F.series.coeff s i ≡ F.series.coeff r i) → T k ≡ U k
  agree m a b zero e = a.start ∙ ap (C F.series) (e 0 (omega arith)) ∙ sym b.start
  agree m a b (suc k) e =
      a.next k
      ∙ ap₂ (λ u c. factor m *ˢ u +ˢ pow_t (suc k) *ˢ C F.series c) (agree m a b k (λ i l. e i (omega arith))) (e (suc k) (omega arith))
      ∙ sym (b.next k)

  module _ (m : K) {s r q : S} {T U W : ℕ → S} (a : Horner F m s T) (b : Horner F m r U) (c : Horner F m q W) (h : ℕ)
      (low : (i : ℕ) → i ≤ h → F.series.coeff s i ≡ F.series.coeff r i) (high : (i : ℕ) → F.series.coeff s (suc h + i) ≡ F.series.coeff q i) where
    pub split : (j : ℕ) → T (suc h + j) ≡ pow F.series.ring (factor m) (suc j) *ˢ U h +ˢ pow_t (suc h) *ˢ W j
    split zero =
        let e : suc h + 0 ≡ suc h = omega arith in
        ap T e ∙ a.next h
        ∙ ap₂ (λ u v. factor m *ˢ u +ˢ pow_t (suc h) *ˢ C F.series v) (agree m a b h low) (sym (ap (F.series.coeff s) e) ∙ high 0)
        ∙ ap₂ (λ u v. u *ˢ U h +ˢ pow_t (suc h) *ˢ v)
        (sym (pow-suc F.series.ring (factor m) 0 ∙ ap (λ z. factor m *ˢ z) (pow-zero F.series.ring (factor m)) ∙ R.mul-one F.series.ring _))
        (sym c.start)
    split (suc j) =
        let e : suc h + suc j ≡ suc (suc h + j) = omega arith in
        ap T e ∙ a.next (suc h + j)
        ∙ ap₂ (λ u v. factor m *ˢ u +ˢ v) (split j)
        (ap₂ (λ u v. u *ˢ C F.series v) (ap pow_t (sym e) ∙ pow-add F.series.ring (t F.series) (suc h) (suc j))
        (sym (ap (F.series.coeff s) e) ∙ high (suc j)))
        ∙ regroup (factor m) (pow F.series.ring (factor m) (suc j)) (U h) (pow_t (suc h)) (W j) (pow_t (suc j)) (C F.series (F.series.coeff q (suc j)))
        ∙ ap₂ (λ u v. u *ˢ U h +ˢ pow_t (suc h) *ˢ v) (sym (pow-suc F.series.ring (factor m) (suc j))) (sym (c.next j))
      where
        regroup : (f p u x v y d : S) → f *ˢ (p *ˢ u +ˢ x *ˢ v) +ˢ x *ˢ y *ˢ d ≡ f *ˢ p *ˢ u +ˢ x *ˢ (f *ˢ v +ˢ y *ˢ d)
        regroup f p u x v y d = simp RING

  -- the sums of Horner's rule
  steps : Bool → S → ℕ → S
  steps true s k = form F.series k s
  steps false s k = hom F.series k s

  horner : (plus : Bool) (s : S) → Horner F (sign F plus) s (steps plus s)
  unfolding steps
  horner true s = horner-form F s
  horner false s = horner-hom F s

  expanded-steps : (plus : Bool) {x : List ℕ} → Tight F.p x → Carries F (expanded F.p plus x) (steps plus (series_of F x) (length x - 1))
  expanded-steps plus {x} h =
      expanded-horner F plus (series_of F x) (steps plus (series_of F x)) (horner plus (series_of F x)) x (carries-series_of F h.at)

  -- words that stand for the sum of both parts
  pub joined-carries : (plus : Bool) (h : ℕ) (x : List ℕ) {y : List ℕ} → length y ≡ length x → Carries F y (joined_series F plus h x) → y ≡ joined F plus h x
  unfolding joined
  joined-carries plus h x {y} e c = tabulated y (length x) _ e (λ k l. value-is F (get_or y k 0) _ (c.below k) (c.at k))

  -- the first h + 1 words and the other j + 1
  module _ (plus : Bool) (h j : ℕ) (x : List ℕ) (n : length x ≡ suc h + suc j) (tight : Tight F.p x) where
    abbrev first : List ℕ
    first = expanded F.p plus (take (suc h) x)

    abbrev second : List ℕ
    second = expanded F.p plus (drop (suc h) x)

    first-length : length first ≡ suc h
    first-length = length-expanded F.p plus (take (suc h) x) ∙ length-take-le (suc h) x (omega arith)

    second-length : length second ≡ suc j
    second-length = length-expanded F.p plus (drop (suc h) x) ∙ length-drop (suc h) x ∙ omega arith

    both-length : length (first ++ second) ≡ length x
    both-length = length-append first second ∙ omega (arith, first-length, second-length, n)

    first-is : series_of F first ≡ steps plus (series_of F (take (suc h) x)) h
    first-is =
        let e : length (take (suc h) x) - 1 ≡ h = omega (arith, length-take-le (suc h) x (omega arith)) in
        series_of-carries F (expanded-steps plus (tight-take (suc h) tight)) ∙ ap (steps plus (series_of F (take (suc h) x))) e

    second_is : series_of F second ≡ steps plus (series_of F (drop (suc h) x)) j
    second_is =
        let e : length (drop (suc h) x) - 1 ≡ j = omega (arith, length-drop (suc h) x, n) in
        series_of-carries F (expanded-steps plus (tight-drop (suc h) tight)) ∙ ap (steps plus (series_of F (drop (suc h) x))) e

    sum_is : joined_series F plus (suc h) (first ++ second) ≡ steps plus (series_of F x) (length x - 1)
    unfolding joined_series
    sum_is =
        let size : length (first ++ second) - suc h ≡ suc j = omega (arith, both-length, n) in
        let last : suc h + j ≡ length x - 1 = omega (arith, n) in
        ap₂ (λ u v. u *ˢ v +ˢ pow_t (suc h) *ˢ series_of F (drop (suc h) (first ++ second)))
        (ap₂ (λ u i. pow F.series.ring u i) (base-is plus) size)
        (ap (series_of F) (take_at first second (suc h) first-length) ∙ first-is)
        ∙ ap (λ v. pow F.series.ring (factor (sign F plus)) (suc j) *ˢ steps plus (series_of F (take (suc h) x)) h +ˢ pow_t (suc h) *ˢ v)
        (ap (series_of F) (drop_at first second (suc h) first-length) ∙ second_is)
        ∙ sym (split (sign F plus) (horner plus _) (horner plus _) (horner plus _) h low high j)
        ∙ ap (steps plus (series_of F x)) last
      where
        low : (i : ℕ) → i ≤ h → F.series.coeff (series_of F x) i ≡ F.series.coeff (series_of F (take (suc h) x)) i
        low i l = coeff-series_of F x i ∙ ap (residue F) (sym (get_or-take (suc h) x i 0 (omega arith))) ∙ sym (coeff-series_of F (take (suc h) x) i)

        high : (i : ℕ) → F.series.coeff (series_of F x) (suc h + i) ≡ F.series.coeff (series_of F (drop (suc h) x)) i
        high i = coeff-series_of F x (suc h + i) ∙ ap (residue F) (sym (get_or-drop (suc h) x i 0)) ∙ sym (coeff-series_of F (drop (suc h) x) i)

    both-joined : joined F plus (suc h) (first ++ second) ≡ expanded F.p plus x
    both-joined =
        sym (joined-carries plus (suc h) (first ++ second) (length-expanded F.p plus x ∙ sym both-length)
        (subst (Carries F (expanded F.p plus x)) (sym sum_is) (expanded-steps plus tight)))

  pub expanded-joined : (plus : Bool) (h : ℕ) (x : List ℕ) → 1 ≤ h → h < length x → Tight F.p x
      → joined F plus h (expanded F.p plus (take h x) ++ expanded F.p plus (drop h x)) ≡ expanded F.p plus x
  expanded-joined plus zero x some l tight = absurd (omega arith)
  expanded-joined plus (suc h) x some l tight = both-joined plus h (length x - suc h - 1) x (omega arith) tight

  -- 0 throughout
  steps-zero : (plus : Bool) (s : S) → ((i : ℕ) → F.series.coeff s i ≡ (scalars F).zero) → (k : ℕ) → steps plus s k ≡ F.series.ring.zero
  steps-zero plus s z zero = (horner plus s).start ∙ ap (C F.series) (z 0) ∙ C-zero F.series
  steps-zero plus s z (suc k) =
      (horner plus s).next k
      ∙ ap₂ (λ u c. factor (sign F plus) *ˢ u +ˢ pow_t (suc k) *ˢ C F.series c) (steps-zero plus s z k) (z (suc k))
      ∙ ap (λ u. factor (sign F plus) *ˢ F.series.ring.zero +ˢ pow_t (suc k) *ˢ u) (C-zero F.series)
      ∙ none (factor (sign F plus)) (pow_t (suc k))
    where
      none : (a b : S) → a *ˢ F.series.ring.zero +ˢ b *ˢ F.series.ring.zero ≡ F.series.ring.zero
      none a b = simp RING

  pub expanded-zeros : (plus : Bool) (x : List ℕ) → Tight F.p x → significant x ≡ 0 → x ≡ expanded F.p plus x
  expanded-zeros plus x tight e =
      ext_get_or 0 x (expanded F.p plus x) (sym (length-expanded F.p plus x)) (λ k l. here k ∙ sym (there k))
    where
      here : (k : ℕ) → get_or x k 0 ≡ 0
      here k = after-significant x k (omega (arith, e))

      all : (i : ℕ) → F.series.coeff (series_of F x) i ≡ (scalars F).zero
      all i = coeff-series_of F x i ∙ ap (residue F) (here i) ∙ residue-0 F

      carries : Carries F (expanded F.p plus x) (steps plus (series_of F x) (length x - 1))
      carries = expanded-steps plus tight

      there : (k : ℕ) → get_or (expanded F.p plus x) k 0 ≡ 0
      there k =
          value-is F _ _ (carries.below k)
          (carries.at k ∙ ap (λ s. F.series.coeff s k) (steps-zero plus (series_of F x) all (length x - 1)) ∙ coeff-0 F.series k ∙ sym (residue-0 F))
          ∙ sym (value-is F 0 (residue F 0) (positive F) refl)

-- with p by another name, as the code has it
module _ (F : PrimeField) {m : ℕ} (e : F.p ≡ m) (plus : Bool) (x : List ℕ) (tight : Tight m x) where
  tight-here : Tight F.p x
  tight-here = subst (λ p. Tight p x) (sym e) tight

  pub zeros-expanded : significant x ≡ 0 → x ≡ expanded m plus x
  zeros-expanded z = expanded-zeros F plus x tight-here z ∙ ap (λ p. expanded p plus x) e

  module _ (h : ℕ) {a b z w : List ℕ} (front : a ≡ take h x) (back : b ≡ drop h x) (first : z ≡ expanded m plus a) (second : w ≡ expanded m plus b) where
    pub parts-tight : Tight m (z ++ w)
    parts-tight =
        rw (first, second, front, back)
        (tight-append (tight-expanded (take h x) (tight-take h tight)) (tight-expanded (drop h x) (tight-drop h tight)))
      where
        tight-expanded : (y : List ℕ) → Tight m y → Tight m (expanded m plus y)
        tight-expanded y t =
            subst (λ p. Tight p (expanded p plus y)) e (record { at = (expanded-steps F plus (subst (λ p. Tight p y) (sym e) t)).below })

    pub parts-expanded : {y : List ℕ} → 1 ≤ h → h < length x → y ≡ joined F plus h (z ++ w) → y ≡ expanded m plus x
    parts-expanded some l q =
        q ∙ ap (joined F plus h) (ap₂ (λ u v. u ++ v) (first ∙ ap₂ (λ p y. expanded p plus y) (sym e) front) (second ∙ ap₂ (λ p y. expanded p plus y) (sym e) back))
        ∙ expanded-joined F plus h x some l tight-here ∙ ap (λ p. expanded p plus x) e

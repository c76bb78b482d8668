-- From the quotients back to the cofactors.
--     Last           the quotient that is laid last, and those before it
--     Reached        s and t are the cofactors of the pair that the quotients laid in the words have led to
--     Back           the same of whatever pair the rounds began with, as a loop has it: c words can differ from 0
--     Undone         the same after a step of the code
-- Theorems:
--     last-count, last-quotient, last_rest     what is read at the end of laid quotients, and what stands before it
--     none-laid, some-laid                     no words, no quotients; and where there are words, there are quotients
--     last_of, laid-less                       the same of whatever quotients are laid
--     back_start                               before the first step, where s is 1 and t is 0
--     step_fits                                the words of the quotient stand where they are read
--     back_on                                  a step: t and s - q·t are the cofactors of the pair before
--     back-tight, back-fits, back-round        what a step of the code wants, and what it makes
--     back_end                                 where no word is left: the cofactors
-- Assumes nothing.
use mathlib.Core.Path.{◌≡◌, refl, sym, ◌∙◌, ap, ap₂, subst}
use mathlib.Core.List.{List, [], ◌∷◌, ◌++◌, append_assoc}
use Prim.Native.Nat.{ℕ, zero, suc, min, ◌+◌, ◌-◌, ◌≤◌, ◌<◌}
use native.Mathlib.Decide.{dec_le}
use native.Mathlib.Omega.{arith}
use lib.ListN.{get_or, length, set, take, length-append, length-set, get_or-eq_default}
use lib.Seq.{get_or-take, get_or-append-add, get_or-set_same, get_or-set_other, length-take-le}
use Rattle.algebra.specs.RingLaws.{RING}
use Rattle.algebra.proofs.Series.{coeff-0, coeff-1_zero, coeff-1_suc}
use Rattle.algebra.specs.Euclid.{Euclid, next, done}
use Rattle.algebra.specs.PrimeField.{PrimeField, scalar_field, positive, residue}
use Rattle.algebra.proofs.PrimeField.{residue-0, residue-1}
use Rattle.field.specs.Fields.{modulus, field_at}
use Rattle.field.proofs.Fields.{p-at}
use Rattle.lists.specs.Words.{series_of, Low, ZeroFrom, Tight}
use Rattle.lists.proofs.Words.{carries-series_of, zero-later}
use Rattle.lists.proofs.Parts.{front_of, part_of}
use Rattle.word_division.specs.Reduction.{less_product}
use Rattle.word_division.proofs.LessProduct.{less-product-low, length-less_product}
use Rattle.word_division.proofs.Cut.{less-below, less_product-cut, less_product-zero}
use Rattle.list_gcd.specs.Quotients.{laid, before, Each, Quotient, Laid, Trail}
use Rattle.list_cofactors.specs.Internal.{ZeroPair, last_count, last_quotient, Substituted}

-- the quotient q is laid last, after qs
module _ (words q : List ℕ) (qs : List (List ℕ)) (at : ℕ) (inside : at ≤ length words) (e : take at words ≡ laid (q ∷ qs)) where
  as-laid : take at words ≡ laid qs ++ (q ++ (length q ∷ []))
  unfolding laid
  as-laid = e

  place : at ≡ length (laid qs) + (length q + 1)
  place =
      sym (length-take-le at words inside) ∙ ap length as-laid ∙ length-append (laid qs) (q ++ (length q ∷ []))
      ∙ ap (λ i. length (laid qs) + i) (length-append q (length q ∷ []))

  last-count : last_count at words ≡ length q
  unfolding last_count
  last-count =
      sym (get_or-take at words (at - 1) 0 (let p = place in omega arith))
      ∙ ap₂ (λ l i. get_or l i 0) (as-laid ∙ sym (append_assoc (laid qs) q (length q ∷ []))) end
      ∙ get_or-append-add (laid qs ++ q) (length q ∷ []) 0 0
    where
      end : at - 1 ≡ length (laid qs ++ q) + 0
      end = rw (length-append (laid qs) q) (let p = place in omega arith)

  last-quotient : last_quotient at words ≡ q
  unfolding last_quotient
  last-quotient =
      part_of words (laid qs) q (length q ∷ []) at (at - 1 - last_count at words) (last_count at words) as-laid
      (let p = place in omega (arith, last-count)) last-count

  last_rest : take (at - (length q + 1)) words ≡ laid qs
  last_rest = front_of words (laid qs) (q ++ (length q ∷ [])) at (at - (length q + 1)) as-laid (let p = place in omega arith)

  last_fits : length q < at
  last_fits = let p = place in omega arith

-- no words, no quotients
none-laid : (qs : List (List ℕ)) → [] ≡ laid qs → qs ≡ []
unfolding laid
none-laid [] e = refl
none-laid (q ∷ qs) e =
    absurd (omega (arith, ap length e ∙ length-append (laid qs) (q ++ (length q ∷ [])), length-append q (length q ∷ [])))

some-laid : (words : List ℕ) (qs : List (List ℕ)) (at : ℕ) → 0 < at → at ≤ length words → take at words ≡ laid qs
    → (q : List ℕ) × (rest : List (List ℕ)) × (qs ≡ q ∷ rest)
unfolding laid
some-laid words [] at some inside e = absurd (omega (arith, sym (length-take-le at words inside) ∙ ap length e))
some-laid words (q ∷ qs) at some inside e = (q, qs, refl)

module _ (F : PrimeField) (n : ℕ) where
  open F.series.ring use {Carrier as S, zero as 0ˢ, one as 1ˢ, neg as -ˢ◌, add as ◌+ˢ◌, mul as ◌*ˢ◌}

  infixl 65 ◌+ˢ◌
  infixl 70 ◌*ˢ◌
  infix 80 -ˢ◌
  -- what Euclid's rounds answer on a pair
  abbrev Answer : Type 0
  Answer = Euclid F.series (scalar_field F)

  pub record Reached (z₀ : Answer) (words s t : List ℕ) : Type 0 where
    pub z : Answer
    pub trail : Trail F n z₀ z words
    pub low-s : Low F n s z.by_x
    pub low-t : Low F n t z.by_y

  pub record Back (words₀ words s t : List ℕ) (c : ℕ) : Type 0 where
    pub kept : Laid F n words
    pub size_s : length s ≡ n
    pub size_t : length t ≡ n
    pub below-s : (k : ℕ) → get_or s k 0 < F.p
    pub below-t : (k : ℕ) → get_or t k 0 < F.p
    pub short-s : ZeroFrom c s
    pub short-t : ZeroFrom c t
    pub few : c ≤ n
    pub reached : (z₀ : Answer) (x : S) → Trail F n z₀ (done F.series (scalar_field F) x) words₀ → Reached z₀ words s t

  -- words that stand for 0 and for 1
  low-zero : (l : List ℕ) → ((k : ℕ) → get_or l k 0 ≡ 0) → Low F n l 0ˢ
  low-zero l h =
      record {
        below = λ k. rw (h k) (positive F);
        at = λ k i. ap (residue F) (h k) ∙ residue-0 F ∙ sym (coeff-0 F.series k);
      }

  low-one : (l : List ℕ) → get_or l 0 0 ≡ 1 → ((k : ℕ) → get_or l (suc k) 0 ≡ 0) → Low F n l 1ˢ
  low-one l e h = record { below = small; at = λ k i. at k }
    where
      small : (k : ℕ) → get_or l k 0 < F.p
      small zero = rw e F.prime.big
      small (suc k) = rw (h k) (positive F)

      at : (k : ℕ) → residue F (get_or l k 0) ≡ F.series.coeff 1ˢ k
      at zero = ap (residue F) e ∙ residue-1 F ∙ sym (coeff-1_zero F.series)
      at (suc k) = ap (residue F) (h k) ∙ residue-0 F ∙ sym (coeff-1_suc F.series k)

  module _ (words s t : List ℕ) (z : ZeroPair n s t) (some : 0 < n) where
    -- s after its first word was set
    one : Low F n (set s 0 1) 1ˢ
    one =
        low-one (set s 0 1) (get_or-set_same s 0 1 0 (let e = z.size_s in omega arith))
        (λ k. get_or-set_other s 0 (suc k) 1 0 (λ e. omega arith) ∙ z.zeros_s (suc k))

    none : Low F n t 0ˢ
    none = low-zero t z.zeros_t

    pub back_start : Laid F n words → Back words words (set s 0 1) t 1
    unfolding done
    back_start l =
        record {
          kept = l;
          size_s = length-set s 0 1 ∙ z.size_s;
          size_t = z.size_t;
          below-s = one.below;
          below-t = none.below;
          short-s = record { at = λ k l. get_or-set_other s 0 k 1 0 (λ e. omega arith) ∙ z.zeros_s k };
          short-t = record { at = λ k l. z.zeros_t k };
          few = some;
          reached = λ z₀ x tr. record { z = done F.series (scalar_field F) x; trail = tr; low-s = one; low-t = none };
        }

  -- the quotient that is laid last in the first words, and those before it
  record Last (words : List ℕ) (at : ℕ) (quotients : List (List ℕ)) : Type 0 where
    pub q : List ℕ
    pub rest : List (List ℕ)
    pub split : quotients ≡ q ∷ rest
    pub quotient : Quotient F n q
    pub others : Each F n rest
    pub count : last_count at words ≡ length q
    pub words_are : last_quotient at words ≡ q
    pub fits : length q < at
    pub before-it : take (at - (length q + 1)) words ≡ laid rest

  last_of : (words : List ℕ) (at : ℕ) → 0 < at → at ≤ length words → (l : Laid F n (take at words)) → Last words at l.quotients
  last_of words at some inside l =
      let one = some-laid words l.quotients at some inside l.words_are in
      let as-laid = l.words_are ∙ ap laid one.2 in
      let each = subst (Each F n) one.2 l.each in
      record {
        q = one.0;
        rest = one.1;
        split = one.2;
        quotient = each.0;
        others = each.1;
        count = last-count words one.0 one.1 at inside as-laid;
        words_are = last-quotient words one.0 one.1 at inside as-laid;
        fits = last_fits words one.0 one.1 at inside as-laid;
        before-it = last_rest words one.0 one.1 at inside as-laid;
      }

  -- without it
  laid-less : {words : List ℕ} {at : ℕ} {qs : List (List ℕ)} (l : Last words at qs) (at' : ℕ) → at' + (last_count at words + 1) ≡ at
      → Laid F n (take at' words)
  laid-less {words} {at} l at' e =
      let same : at' ≡ at - (length l.q + 1) = omega (arith, l.count) in
      record { quotients = l.rest; each = l.others; words_are = ap (λ i. take i words) same ∙ l.before-it }

  -- one quotient less
  module _ (words₀ words s t : List ℕ) (at c : ℕ) (b : Back words₀ (take at words) s t c) (some : 0 < at) (inside : at ≤ length words) where
    known : Last words at b.kept.quotients
    known = last_of words at some inside b.kept

    pub step_fits : (last_count at words < at) × (last_count at words ≤ n)
    step_fits =
        let e = known.count in
        let l = known.fits in
        let m = known.quotient.few in
        (omega arith, omega arith)

    module _ (read at' : ℕ) (c_read : c ≤ read) {s' : List ℕ} {c' : ℕ} (es : s' ≡ less_product F.p s (last_quotient at words) (take read t))
        (ea : at' + (last_count at words + 1) ≡ at) (ec : c' ≡ min n (c + (last_count at words - 1))) where
      quotient-long : length (last_quotient at words) ≡ last_count at words
      quotient-long = ap length known.words_are ∙ sym known.count

      -- all words of t
      whole : s' ≡ less_product F.p s (last_quotient at words) t
      whole =
          es ∙ less_product-cut F.p (positive F) read (zero-later c_read b.short-t) s (last_quotient at words) b.below-s

      size-s' : length s' ≡ n
      size-s' = ap length whole ∙ length-less_product F.p s (last_quotient at words) t ∙ b.size_s

      below-s' : (k : ℕ) → get_or s' k 0 < F.p
      below-s' k =
          rw whole
          (unfold less_product in less-below F.p (positive F) c b.short-t s (last_quotient at words) b.below-s (length (last_quotient at words)) k)

      short-s' : ZeroFrom c' s'
      short-s' = record { at = λ k l. go k l (dec_le n k) }
        where
          zeros : ZeroFrom (c + (length (last_quotient at words) - 1)) s'
          zeros = rw whole (less_product-zero F.p (positive F) c b.short-t s (last_quotient at words) b.short-s)

          go : (k : ℕ) → c' ≤ k → Dec (n ≤ k) → get_or s' k 0 ≡ 0
          go k l (yes h) = get_or-eq_default s' 0 (let e = size-s' in omega arith)
          go k l (no h) = zeros.at k (let e = quotient-long in omega arith)

      -- the cofactors of the pair before, where q is laid last
      module _ {z₀ : Answer} (r : Reached z₀ (take at words) s t) where
        found : Last words at r.trail.kept.quotients
        found = last_of words at some inside r.trail.kept

        from : z₀ ≡ before F found.rest (next F.series (scalar_field F) (series_of F found.q) r.z)
        unfolding before
        from = r.trail.from ∙ ap (λ l. before F l r.z) found.split

        low : Low F n s' (r.z.by_x +ˢ -ˢ (r.z.by_y *ˢ series_of F found.q))
        low =
            subst (λ l. Low F n l (r.z.by_x +ˢ -ˢ (r.z.by_y *ˢ series_of F found.q))) (sym (whole ∙ ap (λ q. less_product F.p s q t) found.words_are))
            (subst (λ a. Low F n (less_product F.p s found.q t) a) (turn r.z.by_x r.z.by_y (series_of F found.q))
            (less-product-low F n r.low-s r.low-t (carries-series_of F found.quotient.below) (let e = b.size_s in omega arith) (let e = b.size_t in omega arith)))
          where
            turn : (a b q : S) → a +ˢ -ˢ (q *ˢ b) ≡ a +ˢ -ˢ (b *ˢ q)
            turn a b q = simp RING

        reached-on : Reached z₀ (take at' words) t s'
        unfolding next laid-less
        reached-on =
            record {
              z = next F.series (scalar_field F) (series_of F found.q) r.z;
              trail = record { kept = laid-less found at' ea; from = from };
              low-s = r.low-t;
              low-t = low;
            }

      back_on : Back words₀ (take at' words) t s' c'
      back_on =
          record {
            kept = laid-less known at' ea;
            size_s = b.size_t;
            size_t = size-s';
            below-s = b.below-t;
            below-t = below-s';
            short-s = record { at = λ k l. short-t' k l (dec_le n k) };
            short-t = short-s';
            few = omega arith;
            reached = λ z₀ x tr. reached-on (b.reached z₀ x tr);
          }
        where
          short-t' : (k : ℕ) → c' ≤ k → Dec (n ≤ k) → get_or t k 0 ≡ 0
          short-t' k l (yes h) = get_or-eq_default t 0 (let e = b.size_t in omega arith)
          short-t' k l (no h) = b.short-t.at k (omega arith)

  pub back_end : (words : List ℕ) {words₀ s t : List ℕ} {c at : ℕ} → at ≡ 0 → Back words₀ (take at words) s t c → Substituted F n words₀ s t
  unfolding before
  back_end words {words₀} {s} {t} {c} {at} e b =
      record { size_s = b.size_s; size_t = b.size_t; cofactors = λ z₀ x tr. ends (b.reached z₀ x tr) }
    where
      empty : take at words ≡ []
      empty = ap (λ i. take i words) e

      ends : {z₀ : Answer} → Reached z₀ (take at words) s t → Low F n s z₀.by_x × Low F n t z₀.by_y
      ends {z₀} r = rw same (r.low-s, r.low-t)
        where
          same : z₀ ≡ r.z
          same =
              r.trail.from
              ∙ ap (λ l. before F l r.z) (none-laid r.trail.kept.quotients (sym empty ∙ r.trail.kept.words_are))

-- a step undone, as the code has it over the field k: so many words are left, and these were those of the quotient and the number of its words
pub record Undone (k n : ℕ) (words₀ words s t : List ℕ) (at steps c : ℕ) : Type 0 where
  pub back : Back (field_at k) n words₀ (take (at - (steps + 1)) words) s t c
  pub inside : at - (steps + 1) ≤ length words
  pub less : steps < at
  pub few : steps ≤ n

module _ (k n : ℕ) (words : List ℕ) {words₀ s t : List ℕ} (at : ℕ) {c : ℕ} (b : Back (field_at k) n words₀ (take at words) s t c) where
  pub back-tight : Tight (modulus k) s
  back-tight = record { at = λ i. rw (p-at k) at (b.below-s i) }

  pub back-fits : ¬ (at ≡ 0) → at ≤ length words → (last_count at words < at) × (last_count at words ≤ n)
  back-fits some inside = step_fits (field_at k) n words₀ words s t at c b (omega arith) inside

  pub back-round : {read steps c' : ℕ} {s' : List ℕ} → ¬ (at ≡ 0) → at ≤ length words → c ≤ read → steps ≡ last_count at words
      → s' ≡ less_product (modulus k) s (last_quotient at words) (take read t) → c' ≡ min n (c + (steps - 1)) → Undone k n words₀ words t s' at steps c'
  back-round {read} {steps} some inside far e es ec =
      record {
        back =
            back_on (field_at k) n words₀ words s t at c b (omega arith) inside read (at - (steps + 1)) far
            (es ∙ ap (λ p. less_product p s (last_quotient at words) (take read t)) (sym (p-at k)))
            (omega (arith, fits)) (ec ∙ ap (λ i. min n (c + (i - 1))) e);
        inside = omega arith;
        less = omega (arith, fits);
        few = omega (arith, fits);
      }
    where
      fits : (last_count at words < at) × (last_count at words ≤ n)
      fits = back-fits some inside

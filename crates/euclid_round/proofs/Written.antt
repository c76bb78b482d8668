-- The writing of a result: its guard, the words times m, and the zeros after the list.
-- Assumes nothing.
use mathlib.Core.Path.{◌≡◌, sym, ◌∙◌, ap, ap₂}
use mathlib.Core.Bool.{true, cond}
use mathlib.Core.List.{List, ◌++◌}
use Prim.Native.Nat.{ℕ, min, ◌-◌, ◌*◌, ◌%◌, ◌≤◌, ◌<◌}
use native.Mathlib.Decide.{dec_lt}
use native.Mathlib.Omega.{arith}
use lib.Dec.{ltb}
use lib.ListN.{length, get_or, take, drop, replicate, length-append, length-take, length-drop, get_or-append, get_or-eq_default}
use lib.Seq.{get_or-take, length-take-le}
use borrow.Author.Tests.{le-leb, lt-ltb, le-ltb}
use Rattle.algebra.specs.RingLaws as R
use Rattle.algebra.specs.Series.{C}
use Rattle.algebra.proofs.Series.{ext, coeff-C-mul}
use Rattle.algebra.specs.PrimeField.{PrimeField, scalars, residue}
use Rattle.algebra.proofs.PrimeField.{residue-0, residue-mul-mod}
use Rattle.lists.proofs.Parts.{get_or-zeros, get_or-then-zeros}
use Rattle.lists.proofs.Tabulate.{tabulated, length-tabulate, get_or-tabulate}
use Rattle.lists.specs.Lists.{unscaled}
use Rattle.lists.specs.Words.{series_of}
use Rattle.lists.proofs.Words.{coeff-series_of}
use Rattle.field_tables.specs.Factorials.{Tables}
use Rattle.word_scaling.specs.Scaling.{weighted, weigh_fits}
use Rattle.word_scaling.proofs.Weights.{length-weighted, unscaled-is}
use Rattle.lists.specs.Padded.{padded}
use Rattle.lists.proofs.Padded.{padded-is}
use Rattle.words.proofs.Transfer.{cleared, length-cleared}
use Rattle.euclid_round.specs.Round.{multiplied, zeroed_from, write_fits, written_words, written_list}

pub write-fits : (words : ℕ) (whole part form out : List ℕ) → words ≤ length form → words ≤ length out → words ≤ length whole → words ≤ length part
    → write_fits words whole part form out ≡ true
unfolding write_fits
write-fits words whole part form out f o w p =
    rw (le-leb words (length form) f, le-leb words (length out) o, le-leb words (length whole) w, le-leb words (length part) p)

-- zeros from a word on
pub zeroed : (from : ℕ) (x z : List ℕ) (n : ℕ) → n ≡ min from (length x) → z ≡ replicate (length (take (length x - n) (drop n x))) 0
    → take n x ++ (z ++ drop (length x - n) (drop n x)) ≡ zeroed_from from x
unfolding zeroed_from
zeroed from x z n e h = cleared x z n h ∙ tabulated _ (length x) _ (length-cleared x n (omega arith)) (λ k l.
    get_or-then-zeros (take n x) (replicate (length x - n) 0) (get_or-zeros (length x - n)) k ∙ go k l (dec_lt k n))
  where
    go : (k : ℕ) → k < length x → Dec (k < n) → get_or (take n x) k 0 ≡ cond (ltb k from) (get_or x k 0) 0
    go k l (yes p) = get_or-take n x k 0 p ∙ simp (lt-ltb k from (omega arith))
    go k l (no p) = get_or-eq_default (take n x) 0 (simp length-take (omega arith)) ∙ simp (le-ltb k from (omega arith))

-- zeros after a part
zeros-after : (w rest : List ℕ) → zeroed_from (length w) (w ++ rest) ≡ padded (length (w ++ rest)) w
unfolding zeroed_from
zeros-after w rest =
    padded-is (length (w ++ rest)) w _ (rw (length-append w rest) (omega arith)) (length-tabulate _ _)
    (λ k l. get_or-tabulate (length (w ++ rest)) _ k l ∙ go k (dec_lt k (length w)))
  where
    go : (k : ℕ) → Dec (k < length w) → cond (ltb k (length w)) (get_or (w ++ rest) k 0) 0 ≡ get_or w k 0
    go k (yes l) = rw (lt-ltb k (length w) l) (get_or-append w rest 0 k l)
    go k (no l) = rw (le-ltb k (length w) (omega arith)) (sym (get_or-eq_default w 0 (omega arith)))

module _ (F : PrimeField) where
  open scalars F use {mul as ◌⊗◌}
  open F.series.ring use {mul as ◌*ˢ◌}

  infixl 70 ◌⊗◌
  infixl 70 ◌*ˢ◌
  multiplied-series : (m : ℕ) (x : List ℕ) → series_of F (multiplied F.p m x) ≡ C F.series (residue F m) *ˢ series_of F x
  unfolding multiplied
  multiplied-series m x =
      ext F.series _ _ λ k. coeff-series_of F (multiplied F.p m x) k ∙ go k (dec_lt k (length x))
      ∙ R.mul_comm (scalars F) _ _ ∙ ap (λ a. residue F m ⊗ a) (sym (coeff-series_of F x k))
      ∙ sym (coeff-C-mul F.series (residue F m) (series_of F x) k)
    where
      go : (k : ℕ) → Dec (k < length x) → residue F (get_or (multiplied F.p m x) k 0) ≡ residue F (get_or x k 0) ⊗ residue F m
      go k (yes l) = ap (residue F) (get_or-tabulate (length x) _ k l) ∙ residue-mul-mod F (get_or x k 0) m
      go k (no l) =
          let e = length-tabulate (length x) (λ i. (get_or x i 0 * m) % F.p) in
          ap (residue F) (get_or-eq_default (multiplied F.p m x) 0 {n = k} (omega arith)) ∙ residue-0 F
          ∙ sym (ap (λ a. a ⊗ residue F m) (ap (residue F) (get_or-eq_default x 0 (omega arith)) ∙ residue-0 F) ∙ R.zero-mul (scalars F) _)

-- what is written, word by word
pub written : (p : ℕ) (whole part : List ℕ) (words m : ℕ) (form out : List ℕ) {form' w out' : List ℕ} → words ≤ length form
    → words ≤ length out → words ≤ length whole → words ≤ length part → form' ≡ multiplied p m form
    → w ≡ cond (weigh_fits form' part whole (take words out)) (weighted p part whole (length (take words out)) form') (take words out)
    → out' ≡ zeroed_from words (w ++ drop words out) → out' ≡ written_words p whole part words m form out
unfolding written_words
written p whole part words m form out {form'} {w} {out'} lf lo lw lp ef ew eo =
    eo ∙ ap (λ n. zeroed_from n (w ++ drop words out)) (sym length-w) ∙ zeros-after w (drop words out) ∙ ap₂ padded whole_length is-list
  where
    part_length : length (take words out) ≡ words
    part_length = length-take-le words out lo

    size : length form' ≡ length form
    size = ap length ef ∙ unfold multiplied in length-tabulate (length form) _

    fits : weigh_fits form' part whole (take words out) ≡ true
    fits = unfold weigh_fits in rw (part_length, size, le-leb words (length form) lf, le-leb words (length whole) lw, le-leb words (length part) lp)

    is-list : w ≡ weighted p part whole words (multiplied p m form)
    is-list = (rw fits at ew) ∙ ap₂ (weighted p part whole) part_length ef

    length-w : length w ≡ words
    length-w = ap length is-list ∙ length-weighted p part whole words (multiplied p m form)

    whole_length : length (w ++ drop words out) ≡ length out
    whole_length = length-append w (drop words out) ∙ rw (length-w, length-drop words out) (omega arith)

-- with the tables of factorials: the list
pub write-is : (F : PrimeField) {p : ℕ} → F.p ≡ p → (n : ℕ) → n ≤ F.p → (whole part : List ℕ) → Tables F n whole part
    → (words m : ℕ) (form out : List ℕ) {form' out' : List ℕ} → words ≤ n → words ≤ length form → words ≤ length out
    → (form' ≡ cond (write_fits words whole part form out) (multiplied p m form) form)
    × (out' ≡ cond (write_fits words whole part form out) (written_words p whole part words m form out) out)
    → (form' ≡ multiplied p m form) × (out' ≡ written_list F words m form out)
unfolding written_words written_list
write-is F {p} e n short whole part t words m form out lw lf lo h =
    let hw = t.factorials.long in
    let hp = t.inverses.long in
    let fits = write-fits words whole part form out lf lo (omega arith) (omega arith) in (
      rw fits at h.0,
      (rw fits at h.1) ∙ ap (padded (length out))
          (unscaled-is F e n short whole part t (multiplied p m form) words lw
          ∙ ap (unscaled F words) (ap (λ q. series_of F (multiplied q m form)) (sym e) ∙ multiplied-series F m form)),
    )

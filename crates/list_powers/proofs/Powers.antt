-- A list's polynomial in powers of t, and back: what the words say, for every prime field F and with the tables of factorials.
--     powers-at, list-at               the words of a scaled form, expanded, and the list of an expanded form; length-form, its length
--     powers-are                       the words are the list's power_words
--     list-is                          from words that stand for a polynomial: the list that means it
--     weighed-front, weighed-short     only the first words of a list are weighed, and none where it has too few
--     powers-written, list-written     what the code writes with the tables of field k, whatever the lengths
--     powers-found, list-found         what it writes where the lengths fit: the power_words, and the list that means the polynomial
--     degree-found                     the extent of the power_words is the degree in t
--     not-long                         what is handed back for a list that is not too long
-- Assumes nothing.
use mathlib.Core.Path.{◌≡◌, refl, sym, ◌∙◌, ap, ap₂, subst}
use mathlib.Core.Bool.{true, false, cond, ◌&&◌}
use mathlib.Core.List.{List}
use Prim.Native.Nat.{ℕ, ◌-◌, ◌*◌, ◌%◌, ◌≤◌, ◌<◌}
use native.Mathlib.Decide.{dec_le}
use native.Mathlib.Omega.{arith}
use lib.Dec.{leb}
use lib.ListN.{length, get_or, take}
use lib.Seq.{length-take-le, get_or-take, take_all}
use borrow.Author.Tests.{le-leb, lt-leb}
use Rattle.algebra.specs.Homogenise.{hom}
use Rattle.algebra.specs.PrimeField.{PrimeField, value}
use Rattle.field.specs.Fields.{modulus, field_at}
use Rattle.field.proofs.Fields.{p-at, longest-in}
use Rattle.lists.specs.Tabulate.{tabulate}
use Rattle.lists.proofs.Tabulate.{tabulated, tabulate-ext}
use Rattle.lists.specs.Degrees.{naive_degree, extent}
use Rattle.lists.specs.Lists.{meaning, scaled, unscaled}
use Rattle.lists.proofs.Scaled.{meaning-hom-at}
use Rattle.lists.specs.Words.{series_of}
use Rattle.lists.proofs.Words.{value-is, scaled_words, length-scaled_words, Carries, carries-scaled, series_of-carries}
use Rattle.field_tables.specs.Factorials.{Tables, TablesFor}
use Rattle.word_scaling.specs.Scaling.{weighted_at, weighted, weigh_fits, weighed_into}
use Rattle.word_scaling.proofs.Weights.{scale-is, unscale-is}
use Rattle.word_expansion.specs.Expansion.{expanded, expanded_into}
use Rattle.word_expansion.proofs.Loops.{length-expanded, into-tight}
use Rattle.word_expansion.proofs.Horner.{expanded-hom, expanded-form}
use Rattle.ordinary_theory.specs.Form.{form}
use Rattle.ordinary_theory.specs.InT.{degree_in_t, list_of, power_words}
use Rattle.ordinary_theory.proofs.InT.{significant-powers}
use Rattle.list_powers.specs.Powers.{powers_into, powers_written, list_written}

-- a list that is not too long
pub not-long : (most n : ℕ) {r s : ℕ} → n ≤ most → r ≡ s → r ≡ cond (leb n most) s 0
not-long most n h q = q ∙ rw (le-leb n most h)

module _ (F : PrimeField) where
  open F.series.ring use {Carrier as S}

  -- words that stand for a series, as a list
  words_are : {w : List ℕ} {s : S} (n : ℕ) → Carries F w s → length w ≡ n → w ≡ tabulate n (λ k. value F (F.series.coeff s k))
  words_are {w} n c e = tabulated w n _ e (λ k l. value-is F _ _ (c.below k) (c.at k))

  -- the words of a scaled form, expanded
  powers : (c : List ℕ) → expanded F.p false (scaled_words F c) ≡ power_words F c
  unfolding power_words
  powers c =
      words_are (length c) (subst (λ s. Carries F (expanded F.p false (scaled_words F c)) s) polynomial (expanded-hom F (carries-scaled F c)))
      (length-expanded F.p false (scaled_words F c) ∙ length-scaled_words F c)
    where
      polynomial : hom F.series (length (scaled_words F c) - 1) (scaled F c) ≡ meaning F c
      polynomial =
          ap (λ n. hom F.series (n - 1) (scaled F c)) (length-scaled_words F c)
          ∙ sym (meaning-hom-at F (length c - 1) c (unfold naive_degree in refl))

  pub degree-found : (c : List ℕ) → extent (power_words F c) ≡ degree_in_t F c
  unfolding extent degree_in_t
  degree-found c = ap (λ n. n - 1) (significant-powers F c)

  -- the same words as the code has them, with p
  module _ {p : ℕ} (is : F.p ≡ p) where
    pub powers-at : (list : List ℕ) → expanded_into p false (scaled_words F list) ≡ power_words F list
    powers-at list =
        into-tight (scaled_words F list) (λ k. rw (← is) ((carries-scaled F list).below k)) false
        ∙ ap (λ n. expanded n false (scaled_words F list)) (sym is) ∙ powers list

    module _ (words : List ℕ) {s : S} (c : Carries F words s) where
      same : expanded_into p true words ≡ expanded F.p true words
      same = into-tight words (λ k. rw (← is) (c.below k)) true ∙ ap (λ n. expanded n true words) (sym is)

      pub length-form : length (expanded_into p true words) ≡ length words
      length-form = ap length same ∙ length-expanded F.p true words

      pub list-at : (n : ℕ) → length words ≡ n → 0 < n → unscaled F n (series_of F (expanded_into p true words)) ≡ list_of F (n - 1) s
      unfolding list_of
      list-at n e some =
          ap₂ (unscaled F) (omega arith)
          (ap (series_of F) same ∙ series_of-carries F (expanded-form F c) ∙ ap (λ i. form F.series (i - 1) s) e)

  module _ {p : ℕ} (is : F.p ≡ p) (most : ℕ) (wide : most ≤ F.p) (whole part : List ℕ) (tables : Tables F most whole part) where
    pub powers-are : (list out : List ℕ) {out' : List ℕ} → length out ≡ length list → length list ≤ most
        → out' ≡ powers_into p whole part list out → out' ≡ power_words F list
    powers-are list out e l q =
        q ∙ ap (expanded_into p false) (scale-is F is most wide whole part tables list out e l refl) ∙ powers-at is list

    pub list-is : (words out : List ℕ) {s : S} {out' : List ℕ} → Carries F words s → length words ≡ length out → 0 < length out → length out ≤ most
        → out' ≡ weighed_into p (expanded_into p true words) part whole out → out' ≡ list_of F (length out - 1) s
    list-is words out {s} c e some l q =
        unscale-is F is most wide whole part tables (expanded_into p true words) out (omega (arith, length-form is words c)) l q
        ∙ list-at is words c (length out) e some

-- only the words are weighed that there is room for, and none where there are too few
module _ (p : ℕ) (list whole part out : List ℕ) where
  weighed-front : length out ≤ length list → weighed_into p list whole part out ≡ weighed_into p (take (length out) list) whole part out
  unfolding weigh_fits weighted weighted_at
  weighed-front l =
      ap₂ (λ b w. cond (b && (leb (length out) (length whole) && leb (length out) (length part))) w out)
      (le-leb (length out) (length list) l ∙ sym (le-leb (length out) (length (take (length out) list)) (omega (arith, length-take-le (length out) list l))))
      (tabulate-ext (length out) _ _ (λ k h. ap (λ i. (i * get_or whole (length out - 1) 0 * get_or part k 0 * get_or part (length out - 1 - k) 0) % p) (sym (get_or-take (length out) list k 0 h))))

  weighed-short : length list < length out → weighed_into p list whole part out ≡ out
  unfolding weigh_fits
  weighed-short l = rw (lt-leb (length out) (length list) l)

-- the tables of a field
module _ (k : ℕ) {whole part : List ℕ} (t : TablesFor k whole part) where
  wide : length whole ≤ (field_at k).p
  wide = omega (arith, t.few, longest-in k)

  pub powers-written : (list out : List ℕ) → length out ≤ length whole → powers_into (modulus k) whole part list out ≡ powers_written k list out
  powers-written list out l = go (dec_le (length out) (length list))
    where
      go : Dec (length out ≤ length list) → powers_into (modulus k) whole part list out ≡ powers_written k list out
      go (yes h) =
          let n = length-take-le (length out) list h in
          rw (le-leb (length out) (length list) h)
          (powers-are (field_at k) (p-at k) (length whole) wide whole part t.tables (take (length out) list) out (sym n) (omega arith)
          (ap (expanded_into (modulus k) false) (weighed-front (modulus k) list whole part out h)))
      go (no h) =
          rw (lt-leb (length out) (length list) (omega arith))
          (ap (expanded_into (modulus k) false) (weighed-short (modulus k) list whole part out (omega arith)))

  pub list-written : (words out : List ℕ) → length words ≤ length whole → weighed_into (modulus k) words part whole out ≡ list_written k words out
  list-written words out l = go (dec_le (length out) (length words))
    where
      go : Dec (length out ≤ length words) → weighed_into (modulus k) words part whole out ≡ list_written k words out
      go (yes h) =
          rw (le-leb (length out) (length words) h)
          (unscale-is (field_at k) (p-at k) (length whole) wide whole part t.tables words out h (omega arith) refl)
      go (no h) = rw (lt-leb (length out) (length words) (omega arith)) (weighed-short (modulus k) words part whole out (omega arith))

-- the same without tables, where the lengths fit
pub powers-found : (k : ℕ) (list out : List ℕ) {out' : List ℕ} → length out ≡ length list → out' ≡ powers_written k list out → out' ≡ power_words (field_at k) list
powers-found k list out e q =
    q ∙ rw (le-leb (length out) (length list) (omega arith)) (ap (power_words (field_at k)) (take_all (length out) list (omega arith)))

pub list-found : (k : ℕ) (words out : List ℕ) {s : (field_at k).series.ring.Carrier} {out' : List ℕ} → Carries (field_at k) words s → length words ≡ length out → 0 < length out
    → out' ≡ list_written k (expanded_into (modulus k) true words) out → out' ≡ list_of (field_at k) (length out - 1) s
list-found k words out c e some q =
    let n = length-form (field_at k) (p-at k) words c in
    q
    ∙ rw (le-leb (length out) (length (expanded_into (modulus k) true words)) (omega (arith, n))) (list-at (field_at k) (p-at k) words c (length out) e some)

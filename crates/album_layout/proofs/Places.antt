-- Laws of the layout.
--     start-next, start-low, start_up, start-high     where the bodies start
--     agree-next, agree_at                            the entries that name those places
--     fit_next, fit_at                                those that name degrees of at most the limit
--     words-next                                      words one after the other, the first apart
--     length-list, length-lists, list_at              the lists, by their number
--     obeys                                           an album that the tests do not refuse obeys its layout
--     right-count, right-layout                       an album that obeys its layout is not refused
--     entry-inside, body-inside                       its contents and its bodies lie in it
-- Assumes nothing.
use mathlib.Core.Path.{◌≡◌, refl, sym, ◌∙◌, ap, ap₂}
use mathlib.Core.Bool.{Bool, true, false, ◌&&◌, ◌||◌}
use mathlib.Core.List.{List, [], ◌∷◌}
use Prim.Native.Nat.{ℕ, zero, suc, ◌+◌, ◌*◌, ◌≤◌, ◌<◌}
use native.Mathlib.Nat.{zero-add, add-zero}
use native.Mathlib.Decide.{ℕ_discrete}
use native.Mathlib.Omega.{arith}
use lib.Dec.{eqb, leb, ltb}
use lib.ListN.{length, get_or}
use borrow.Author.Tests.{eqb-true, eqb-false, leb-true, ltb-false, not-false, eq-eqb, ne_eqb, le-leb, le-ltb}
use Rattle.refusal.specs.Limits.{max_degree, max_lists, max_words}
use Rattle.refusal.proofs.First.{or-false}
use Rattle.lists.specs.Tabulate.{tabulate}
use Rattle.lists.proofs.Tabulate.{length-tabulate, tabulate-ext}
use Rattle.lists.specs.Bytes.{word_at, words_at}
use Rattle.album_layout.specs.Layout.{count, entry_at, degree_at, offset_at, start_at, offsets_agree, degrees_fit, wrong_count, broken_layout, nth_list, lists_from, lists_of}
use Rattle.album_layout.specs.Internal.{Obeys}

and-true : (a b : Bool) → (a && b) ≡ true → (a ≡ true) × (b ≡ true)
and-true true b e = (refl, e)
and-true false b e = (e, cc)

module _ (s : List ℕ) where
  pub start-next : (k : ℕ) → start_at s (suc k) ≡ start_at s k + 2 * (degree_at s k + 1)
  unfolding start_at
  start-next k = refl

  pub start-low : (k : ℕ) → entry_at (count s) ≤ start_at s k
  unfolding start_at
  start-low zero = omega arith
  start-low (suc k) = omega (arith, start-low k)

  -- body i ends where a later one starts, or before
  pub start_up : (i k : ℕ) → i < k → start_at s i + 2 * (degree_at s i + 1) ≤ start_at s k
  start_up i zero h = absurd (omega arith)
  start_up i (suc k) h = go (ℕ_discrete i k) (start_up i k)
    where
      go : Dec (i ≡ k) → (i < k → start_at s i + 2 * (degree_at s i + 1) ≤ start_at s k) → start_at s i + 2 * (degree_at s i + 1) ≤ start_at s (suc k)
      go (yes e) up = omega (arith, start-next k, ap (λ j. start_at s j + 2 * (degree_at s j + 1)) e)
      go (no f) up = omega (arith, start-next k, up (omega arith))

  -- the entries before name degrees of at most the limit
  pub start-high : (k : ℕ) → ((i : ℕ) → i < k → degree_at s i ≤ max_degree) → start_at s k ≤ entry_at (count s) + 2 * max_words * k
  unfolding start_at
  start-high zero short = omega arith
  start-high (suc k) short = omega (arith, start-high k (λ i l. short i (omega arith)), short k (omega arith))

  pub agree-next : (k : ℕ) → offsets_agree s k ≡ true → offset_at s k ≡ start_at s k → offsets_agree s (suc k) ≡ true
  unfolding offsets_agree
  agree-next k t e = rw (eq-eqb (offset_at s k) (start_at s k) e) t

  pub agree_at : (i k : ℕ) → i < k → offsets_agree s k ≡ true → offset_at s i ≡ start_at s i
  unfolding offsets_agree
  agree_at i zero h t = absurd (omega arith)
  agree_at i (suc k) h t =
      let a = and-true (eqb (offset_at s k) (start_at s k)) (offsets_agree s k) t in
      go (ℕ_discrete i k) (eqb-true (offset_at s k) (start_at s k) a.0) (λ l. agree_at i k l a.1)
    where
      go : Dec (i ≡ k) → offset_at s k ≡ start_at s k → (i < k → offset_at s i ≡ start_at s i) → offset_at s i ≡ start_at s i
      go (yes e) here below = rw e here
      go (no f) here below = below (omega arith)

  module _ (most : ℕ) where
    pub fit_next : (k : ℕ) → degrees_fit most s k ≡ true → degree_at s k ≤ most → degrees_fit most s (suc k) ≡ true
    unfolding degrees_fit
    fit_next k t l = rw (le-leb (degree_at s k) most l) t

    pub fit_at : (i k : ℕ) → i < k → degrees_fit most s k ≡ true → degree_at s i ≤ most
    unfolding degrees_fit
    fit_at i zero h t = absurd (omega arith)
    fit_at i (suc k) h t =
        let a = and-true (leb (degree_at s k) most) (degrees_fit most s k) t in
        go (ℕ_discrete i k) (leb-true (degree_at s k) most a.0) (λ l. fit_at i k l a.1)
      where
        go : Dec (i ≡ k) → degree_at s k ≤ most → (i < k → degree_at s i ≤ most) → degree_at s i ≤ most
        go (yes e) here below = rw e here
        go (no f) here below = below (omega arith)

  pub words-next : (at n : ℕ) → words_at s at (suc n) ≡ word_at s at ∷ words_at s (at + 2) n
  unfolding words_at tabulate
  words-next at n = ap₂ (λ i c. word_at s i ∷ c) first (tabulate-ext n _ _ (λ k l. ap (word_at s) (second k)))
    where
      first : at + 2 * 0 ≡ at
      first = omega arith

      second : (k : ℕ) → at + 2 * suc k ≡ at + 2 + 2 * k
      second k = omega arith

  pub length-list : (k : ℕ) → length (nth_list s k) ≡ degree_at s k + 1
  unfolding nth_list words_at
  length-list k = length-tabulate (degree_at s k + 1) _

  length_from : (n k : ℕ) → length (lists_from s k n) ≡ n
  unfolding lists_from
  length_from zero k = refl
  length_from (suc n) k = ap suc (length_from n (suc k))

  pub length-lists : length (lists_of s) ≡ count s
  unfolding lists_of
  length-lists = length_from (count s) 0

  at_from : (n k i : ℕ) → i < n → get_or (lists_from s k n) i [] ≡ nth_list s (k + i)
  unfolding lists_from
  at_from zero k i l = absurd (omega arith)
  at_from (suc n) k zero l = ap (nth_list s) (sym (add-zero k))
  at_from (suc n) k (suc i) l = at_from n (suc k) i (omega arith) ∙ ap (nth_list s) (next k i)
    where
      next : (k i : ℕ) → suc k + i ≡ k + suc i
      next k i = omega arith

  pub list_at : (i : ℕ) → i < count s → get_or (lists_of s) i [] ≡ nth_list s i
  unfolding lists_of
  list_at i l = at_from (count s) 0 i l ∙ ap (nth_list s) (zero-add i)

  pub obeys : wrong_count max_lists s ≡ false → broken_layout s ≡ false → Obeys s
  unfolding wrong_count broken_layout
  obeys w b =
      let h = or-false (eqb (length s) 0) (eqb (count s) 0 || ltb max_lists (count s)) w in
      let g = or-false (eqb (count s) 0) (ltb max_lists (count s)) h.1 in
      let d = and-true (eqb (length s) (start_at s (count s))) (offsets_agree s (count s) && degrees_fit max_degree s (count s)) (not-false _ b) in
      let a = and-true (offsets_agree s (count s)) (degrees_fit max_degree s (count s)) d.1 in
      let y = eqb-false (length s) 0 h.0 in
      let z = eqb-false (count s) 0 g.0 in
      record {
        some = omega arith;
        low = omega arith;
        few = ltb-false max_lists (count s) g.1;
        whole = eqb-true (length s) (start_at s (count s)) d.0;
        placed = λ i l. agree_at i (count s) l a.0;
        short = λ i l. fit_at max_degree i (count s) l a.1;
      }

  module _ (some : 0 < length s) (low : 0 < count s) (few : count s ≤ max_lists) where
    pub right-count : wrong_count max_lists s ≡ false
    unfolding wrong_count
    right-count =
        simp (ne_eqb (length s) 0 (λ e. omega arith), ne_eqb (count s) 0 (λ e. omega arith), le-ltb max_lists (count s) few)

  pub right-layout : length s ≡ start_at s (count s) → offsets_agree s (count s) ≡ true → degrees_fit max_degree s (count s) ≡ true → broken_layout s ≡ false
  unfolding broken_layout
  right-layout e t d = simp (eq-eqb (length s) (start_at s (count s)) e, t, d)

  -- list i lies in the album
  pub entry-inside : Obeys s → entry_at (count s) ≤ length s
  entry-inside o = omega (arith, o.whole, start-low (count s))

  pub body-inside : Obeys s → (i : ℕ) → i < count s → offset_at s i + 2 * (degree_at s i + 1) ≤ length s
  body-inside o i l = omega (arith, o.whole, o.placed i l, start_up i (count s) l)

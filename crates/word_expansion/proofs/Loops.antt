-- Laws of the loops that expand a sum of powers, and of the words that they leave.
--     before-below                                  the word before a word is below p
--     length-gained, get_or-gained                  the words of a list times 1 + t or 1 - t
--     Gaining, gain-next, gain-end                  the loop over them: what holds before word i, one turn and its end
--     last-below                                    the word before that of a turn is below p
--     stepped p plus n x                            the words of x, the first n of them multiplied so
--     length-stepped, stepped-low, stepped-high     its words
--     length-expanded_to, length-expanded           as many words as before
--     tight-stepped, tight-expanded_to              no word becomes loose
--     expand-start, expand-turn, expand-end         the loop over the steps: its start, one turn and its end
--     expand-tight                                  what a turn hands on is tight
--     into-tight                                    what a slice holds where no word is loose
-- Assumes nothing.
use mathlib.Core.Path.{◌≡◌, refl, sym, ◌∙◌, ap, ap₂}
use mathlib.Core.Bool.{Bool, true, false, cond}
use mathlib.Core.List.{List, ◌∷◌, ◌++◌}
use Prim.Native.Nat.{ℕ, zero, suc, ◌+◌, ◌-◌, ◌%◌, ◌≤◌, ◌<◌}
use native.Mathlib.Nat.{mod-lt, le_refl}
use native.Mathlib.Numerals.{add-one}
use native.Mathlib.Decide.{dec_lt}
use native.Mathlib.Omega.{arith}
use lib.ListN.{length, get_or, take, drop, set, get_or-append}
use lib.Seq.{length-take-le, length_front, get_or-take, get_or-drop, get_or-append-add, get_or-set_other}
use Rattle.lists.proofs.Filled.{Filled, fill_step, fill_end}
use Rattle.lists.proofs.Tabulate.{length-tabulate, get_or-tabulate}
use Rattle.lists.proofs.Search.{tight}
use Rattle.lists.specs.Words.{Tight}
use Rattle.lists.proofs.Tight.{tight-take}
use Rattle.word_expansion.specs.Expansion.{signed, gained, expanded_to, expanded, expanded_into}

-- what is taken off has the other sign
taken-signed : (p a b : ℕ) (plus : Bool) → b ≤ p → (a + (p - cond plus (p - b) b)) % p ≡ (a + signed p plus b) % p
unfolding signed
taken-signed p a b true l = let e : p - (p - b) ≡ b = omega arith in ap (λ n. (a + n) % p) e
taken-signed p a b false l = refl

-- the word before a word is below p
pub before-below : {p : ℕ} {x : List ℕ} → Tight p x → (i : ℕ) → get_or (0 ∷ x) i 0 < p
before-below h zero = let l = h.at 0 in omega arith
before-below h (suc i) = h.at i

before-take : (n : ℕ) (x : List ℕ) (i : ℕ) → i < n → get_or (0 ∷ take n x) i 0 ≡ get_or (0 ∷ x) i 0
before-take n x zero l = refl
before-take n x (suc i) l = get_or-take n x i 0 (omega arith)

module _ (p : ℕ) (plus : Bool) where
  pub length-gained : (x : List ℕ) → length (gained p plus x) ≡ length x
  unfolding gained
  length-gained x = length-tabulate (length x) _

  pub get_or-gained : (x : List ℕ) (i : ℕ) → i < length x → get_or (gained p plus x) i 0 ≡ (get_or x i 0 + signed p plus (get_or (0 ∷ x) i 0)) % p
  unfolding gained
  get_or-gained x i l = get_or-tabulate (length x) _ i l

  -- the words below i are written, the others are as they were, and the old word before word i is at hand
  pub record Gaining (old x : List ℕ) (i before : ℕ) : Type 0 where
    pub done : Filled x i (gained p plus old)
    pub rest : (k : ℕ) → i ≤ k → get_or x k 0 ≡ get_or old k 0
    pub last : before ≡ get_or (0 ∷ old) i 0

  pub gain-next : {old x : List ℕ} {i before off v : ℕ} → length x ≡ length old → i < length x → before < p → Gaining old x i before
      → off ≡ cond plus (p - before) before → v ≡ (get_or x i 0 + (p - off)) % p → Gaining old (set x i v) (i + 1) (get_or x i 0)
  gain-next {old} {x} {i} {before} {off} {v} n l b g eo ev =
      record {
        done = fill_step v g.done l word;
        rest = λ k h. get_or-set_other x i k v 0 (omega arith) ∙ g.rest k (omega arith);
        last = g.rest i (le_refl i) ∙ sym (ap (λ k. get_or (0 ∷ old) k 0) (add-one i));
      }
    where
      word : v ≡ get_or (gained p plus old) i 0
      word =
          ev ∙ ap (λ o. (get_or x i 0 + (p - o)) % p) eo ∙ taken-signed p (get_or x i 0) before plus (omega arith)
          ∙ ap₂ (λ a c. (a + signed p plus c) % p) (g.rest i (le_refl i)) g.last ∙ sym (get_or-gained old i (omega arith))

  pub last-below : {old x : List ℕ} {i before : ℕ} → Tight p old → Gaining old x i before → before < p
  last-below {i = i} h g = rw g.last (before-below h i)

  pub gain-end : {old x : List ℕ} {i before : ℕ} → length x ≡ length old → length x ≤ i → Gaining old x i before → x ≡ gained p plus old
  gain-end {old} n l g = fill_end g.done (n ∙ sym (length-gained old)) l

  abbrev pub stepped : ℕ → List ℕ → List ℕ
  stepped n x = gained p plus (take n x) ++ drop n x

  pub length-stepped : (n : ℕ) (x : List ℕ) → length (stepped n x) ≡ length x
  length-stepped n x = length_front x (gained p plus (take n x)) n (length-gained (take n x))

  module _ (n : ℕ) (x : List ℕ) (fits : n ≤ length x) where
    size : length (gained p plus (take n x)) ≡ n
    size = length-gained (take n x) ∙ length-take-le n x fits

    pub stepped-low : (i : ℕ) → i < n → get_or (stepped n x) i 0 ≡ (get_or x i 0 + signed p plus (get_or (0 ∷ x) i 0)) % p
    stepped-low i l =
        get_or-append (gained p plus (take n x)) (drop n x) 0 i (let e = size in omega arith)
        ∙ get_or-gained (take n x) i (let e = length-take-le n x fits in omega arith)
        ∙ ap₂ (λ a b. (a + signed p plus b) % p) (get_or-take n x i 0 l) (before-take n x i l)

    pub stepped-high : (i : ℕ) → n ≤ i → get_or (stepped n x) i 0 ≡ get_or x i 0
    stepped-high i l =
        let e = size in
        let there : i ≡ length (gained p plus (take n x)) + (i - n) = omega arith in
        let back : n + (i - n) ≡ i = omega arith in
        ap (λ k. get_or (stepped n x) k 0) there
        ∙ get_or-append-add (gained p plus (take n x)) (drop n x) (i - n) 0 ∙ get_or-drop n x (i - n) 0 ∙ ap (λ k. get_or x k 0) back

    pub tight-stepped : Tight p x → Tight p (stepped n x)
    tight-stepped h = record { at = λ i. go i (dec_lt i n) }
      where
        go : (i : ℕ) → Dec (i < n) → get_or (stepped n x) i 0 < p
        go i (yes l) = rw (stepped-low i l) (mod-lt _ (before-below h 0))
        go i (no l) = rw (stepped-high i (omega arith)) (h.at i)

  pub expanded_to-zero : (x : List ℕ) → expanded_to p plus 0 x ≡ x
  unfolding expanded_to
  expanded_to-zero x = refl

  pub expanded_to-suc : (k : ℕ) (x : List ℕ) → expanded_to p plus (suc k) x ≡ stepped (suc (suc k)) (expanded_to p plus k x)
  unfolding expanded_to
  expanded_to-suc k x = refl

  pub length-expanded_to : (k : ℕ) (x : List ℕ) → length (expanded_to p plus k x) ≡ length x
  length-expanded_to zero x = ap length (expanded_to-zero x)
  length-expanded_to (suc k) x = ap length (expanded_to-suc k x) ∙ length-stepped (suc (suc k)) (expanded_to p plus k x) ∙ length-expanded_to k x

  pub length-expanded : (x : List ℕ) → length (expanded p plus x) ≡ length x
  unfolding expanded
  length-expanded x = length-expanded_to (length x - 1) x

  pub tight-expanded_to : (k : ℕ) {x : List ℕ} → k ≤ length x - 1 → Tight p x → Tight p (expanded_to p plus k x)
  tight-expanded_to zero {x} l h = rw (expanded_to-zero x) h
  tight-expanded_to (suc k) {x} l h =
      let e = length-expanded_to k x in
      rw (expanded_to-suc k x) (tight-stepped (suc (suc k)) (expanded_to p plus k x) (omega arith) (tight-expanded_to k (omega arith) h))

  pub expand-start : (x : List ℕ) → x ≡ expanded_to p plus (1 - 1) x
  unfolding expanded_to
  expand-start x = refl

  -- the loop stands before word k
  pub expand-tight : {k : ℕ} {old x : List ℕ} → k < length x → length x ≡ length old → Tight p old → x ≡ expanded_to p plus (k - 1) old → Tight p (take (k + 1) x)
  expand-tight {k} {old} l n h e = tight-take (k + 1) (rw e (tight-expanded_to (k - 1) (omega arith) h))

  pub expand-turn : (k : ℕ) (old x : List ℕ) {z : List ℕ} → 1 ≤ k → x ≡ expanded_to p plus (k - 1) old → z ≡ gained p plus (take (k + 1) x)
      → z ++ drop (k + 1) x ≡ expanded_to p plus (k + 1 - 1) old
  expand-turn k old x l e f =
      let now : k + 1 ≡ suc (suc (k - 1)) = omega arith in
      let then : k + 1 - 1 ≡ suc (k - 1) = omega arith in
      ap (λ w. w ++ drop (k + 1) x) f ∙ ap₂ stepped now e ∙ sym (ap (λ i. expanded_to p plus i old) then ∙ expanded_to-suc (k - 1) old)

  -- it ends with k = 1, or with k the number of words
  pub expand-end : (k : ℕ) (old x : List ℕ) → 1 ≤ k → k ≤ 1 + (length old - 1) → length x ≡ length old → length x ≤ k
      → x ≡ expanded_to p plus (k - 1) old → x ≡ expanded p plus old
  unfolding expanded
  expand-end k old x l h n t e = let q : k - 1 ≡ length old - 1 = omega arith in e ∙ ap (λ i. expanded_to p plus i old) q

-- the guard
pub into-tight : {p : ℕ} (x : List ℕ) → ((k : ℕ) → get_or x k 0 < p) → (plus : Bool) → expanded_into p plus x ≡ expanded p plus x
into-tight {p} x h plus = ap (λ b. cond b x (expanded p plus x)) (tight p x h)

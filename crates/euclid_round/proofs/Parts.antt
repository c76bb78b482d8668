-- Top zeros left out: the first n words of a list, n being at least the number of its significant words, say all that the list says.
--     Rounded                                the round on x and y: its steps, and x and q after it
-- Theorems:
--     steps-part, fits-part, quotient-part   one of Euclid's rounds on such parts is the round on the lists
--     shortened                              so is `shorten`, given the numbers of significant words
-- Assumes nothing.
use mathlib.Core.Path.{◌≡◌, sym, ◌∙◌, ap, ap₂}
use mathlib.Core.Bool.{Bool, true, false, cond}
use mathlib.Core.List.{List, ◌++◌, append_assoc}
use Prim.Native.Nat.{ℕ, ◌+◌, ◌-◌, ◌≤◌, ◌<◌}
use native.Mathlib.Decide.{dec_le, dec_lt}
use native.Mathlib.Omega.{arith}
use lib.ListN.{length, get_or, take, drop, length-append, length-take, length-drop, take-append-drop, get_or-eq_default}
use lib.Seq.{take-take, take_at, drop-append-le, get_or-take, get_or-drop}
use Rattle.algebra.specs.PrimeField.{PrimeField}
use Rattle.field.specs.Fields.{modulus, field_at}
use Rattle.lists.specs.Degrees.{significant, extent}
use Rattle.lists.proofs.Extents.{significant-le, after-significant, extent-largest}
use Rattle.lists.proofs.Parts.{get_or-then-zeros}
use Rattle.euclid_round.specs.Round.{last_word, round_steps, round_fits, remaining, quotient_words, steps_made, words_left, quotient_left}

significant-most : (a b : List ℕ) → ((k : ℕ) → get_or a k 0 ≡ get_or b k 0) → significant a ≤ significant b
significant-most a b h = go (dec_le (significant a) (significant b))
  where
    go : Dec (significant a ≤ significant b) → significant a ≤ significant b
    go (yes l) = l
    go (no l) =
        absurd ((extent-largest a (omega arith)).0 (unfold extent in h (significant a - 1) ∙ after-significant b (significant a - 1) (omega arith)))

significant-same : (a b : List ℕ) → ((k : ℕ) → get_or a k 0 ≡ get_or b k 0) → significant a ≡ significant b
significant-same a b h = omega (arith, significant-most a b h, significant-most b a (λ k. sym (h k)))

module _ (n : ℕ) (x : List ℕ) (l : significant x ≤ n) where
  get_or-part : (k : ℕ) → get_or (take n x) k 0 ≡ get_or x k 0
  get_or-part k = go (dec_lt k n)
    where
      go : Dec (k < n) → get_or (take n x) k 0 ≡ get_or x k 0
      go (yes h) = get_or-take n x k 0 h
      go (no h) =
          get_or-eq_default (take n x) 0 (simp length-take (omega arith)) ∙ sym (after-significant x k (omega arith))

  significant-part : significant (take n x) ≡ significant x
  significant-part = significant-same (take n x) x get_or-part

  words-part : take (significant (take n x)) (take n x) ≡ take (significant x) x
  words-part = ap (λ i. take i (take n x)) significant-part ∙ take-take (significant x) n x l

  last-part : last_word (take n x) ≡ last_word x
  unfolding last_word
  last-part = ap (λ i. get_or (take n x) (i - 1) 0) significant-part ∙ get_or-part (significant x - 1)

  zeros-part : drop (significant (take n x)) (take n x) ++ drop n x ≡ drop (significant x) x
  zeros-part =
      sym (drop-append-le (significant (take n x)) (take n x) (drop n x) (significant-le (take n x)))
      ∙ ap₂ drop significant-part (take-append-drop n x)

  -- the part z put back
  significant-put : (z : List ℕ) → length z ≡ n → significant (take n (z ++ drop n x)) ≡ significant (z ++ drop n x)
  significant-put z e =
      ap significant (take_at z (drop n x) n e)
      ∙ sym (significant-same (z ++ drop n x) z
      (get_or-then-zeros z (drop n x) (λ k. get_or-drop n x k 0 ∙ after-significant x (n + k) (omega arith))))

module _ (nx ny : ℕ) (x y : List ℕ) (lx : significant x ≤ nx) (ly : significant y ≤ ny) where
  steps-part : round_steps (take nx x) (take ny y) ≡ round_steps x y
  unfolding round_steps
  steps-part = ap₂ (λ a b. a - (b - 1)) (significant-part nx x lx) (significant-part ny y ly)

  fits-part : (p : ℕ) (q : List ℕ) → round_fits p (take nx x) (take ny y) q ≡ round_fits p x y q
  unfolding round_fits
  fits-part p q = rw (significant-part ny y ly, last-part ny y ly, steps-part)

  module _ (F : PrimeField) where
    quotient-part : quotient_words F (take nx x) (take ny y) ≡ quotient_words F x y
    unfolding quotient_words
    quotient-part = rw (last-part ny y ly, words-part ny y ly, words-part nx x lx, steps-part)

    remaining-part : remaining F (take nx x) (take ny y) ++ drop nx x ≡ remaining F x y
    unfolding remaining
    remaining-part =
        rw (append_assoc, zeros-part nx x lx, last-part ny y ly, words-part ny y ly, words-part nx x lx, steps-part)

    -- what a round leaves of the part of x, put back
    left-part : (p : ℕ) (q : List ℕ)
        → cond (round_fits p (take nx x) (take ny y) q) (remaining F (take nx x) (take ny y)) (take nx x) ++ drop nx x
        ≡ cond (round_fits p x y q) (remaining F x y) x
    left-part p q =
        ap (λ b. cond b (remaining F (take nx x) (take ny y)) (take nx x) ++ drop nx x) (fits-part p q) ∙ go (round_fits p x y q)
      where
        go : (b : Bool) → cond b (remaining F (take nx x) (take ny y)) (take nx x) ++ drop nx x ≡ cond b (remaining F x y) x
        go true = remaining-part
        go false = take-append-drop nx x

pub record Rounded (k : ℕ) (x y q : List ℕ) (steps left : ℕ) (x' q' : List ℕ) : Type 0 where
  pub steps-made : steps ≡ steps_made k x y q
  pub count : left ≡ significant x'
  pub words : x' ≡ words_left k x y q
  pub quotient : q' ≡ quotient_left k x y q

module _ (k nx ny : ℕ) (x y q : List ℕ) where
  -- what `shorten` makes of its slices
  abbrev pub Shorten : (steps left : ℕ) → (x' q' : List ℕ) → Type 0
  Shorten steps left x' q' =
      (steps ≡ steps_made k (take nx x) (take ny y) q)
      × ((left ≡ significant (take nx x'))
      × ((x' ≡ words_left k (take nx x) (take ny y) q ++ drop nx x) × (q' ≡ quotient_left k (take nx x) (take ny y) q)))

  pub shortened : {steps left : ℕ} {x' q' : List ℕ} → nx ≡ significant x → ny ≡ significant y → length x' ≡ length x
      → Shorten steps left x' q' → Rounded k x y q steps left x' q'
  shortened {x' = x'} ex ey same s =
      record {
        steps-made = s.0 ∙ ap₂ (λ b n. cond b n 0) fits (steps-part nx ny x y lx ly);
        count = s.1.0 ∙ ap (λ l. significant (take nx l)) s.1.1.0 ∙ significant-put nx x lx (words_left k (take nx x) (take ny y) q) long ∙ ap significant (sym s.1.1.0);
        words = s.1.1.0 ∙ left-part nx ny x y lx ly (field_at k) (modulus k) q;
        quotient =
            s.1.1.1
            ∙ ap₂ (λ b w. cond b w q) fits (ap₂ (λ d n. d ++ drop n q) (quotient-part nx ny x y lx ly (field_at k)) (steps-part nx ny x y lx ly));
      }
    where
      lx : significant x ≤ nx
      lx = omega arith

      ly : significant y ≤ ny
      ly = omega arith

      fits : round_fits (modulus k) (take nx x) (take ny y) q ≡ round_fits (modulus k) x y q
      fits = fits-part nx ny x y lx ly (modulus k) q

      long : length (words_left k (take nx x) (take ny y) q) ≡ nx
      long =
          let size = ap length s.1.1.0 ∙ length-append (words_left k (take nx x) (take ny y) q) (drop nx x) in
          let back = length-drop nx x in
          let most = significant-le x in
          omega arith

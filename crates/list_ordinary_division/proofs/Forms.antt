-- Division by powers of t: what the functions on words leave in the slices is the quotient and the remainder of the lists, for every prime
-- field F.
--     quotient_is, remainder_is      what is written to q and to r
--     round-wants                    the words are below p, and 0 after those of the divisor
--     Listed                         a list that means what words stand for
-- Assumes nothing.
use mathlib.Core.Path.{◌≡◌, refl, sym, ◌∙◌, ap, ap₂, subst}
use mathlib.Core.Bool.{true, cond}
use mathlib.Core.List.{List, ◌++◌, append-nil}
use Prim.Native.Nat.{ℕ, ◌+◌, ◌-◌, ◌≤◌, ◌<◌}
use native.Mathlib.Decide.{dec_lt}
use native.Mathlib.Omega.{arith}
use lib.ListN.{length, get_or, take, drop, length-append, length-take, length-drop, drop_of_length-le, get_or-eq_default}
use lib.Seq.{take_all, get_or-take, get_or-drop}
use Rattle.algebra.specs.Polynomial.{Below}
use Rattle.algebra.proofs.Polynomial.{below-mono}
use Rattle.algebra.specs.Degree.{size}
use Rattle.algebra.proofs.Degree.{size_same}
use Rattle.algebra.specs.Euclid.{quotient_by, remainder_by}
use Rattle.algebra.specs.Division.{quotient, remainder}
use Rattle.algebra.specs.PrimeField.{PrimeField, scalar_field, positive, residue}
use Rattle.algebra.proofs.PrimeField.{residue-0}
use Rattle.lists.specs.Degrees.{naive_degree, significant}
use Rattle.lists.specs.Lists.{meaning}
use Rattle.lists.specs.Words.{ZeroFrom, series_of, Tight}
use Rattle.lists.proofs.Words.{Carries, series_of-carries}
use Rattle.lists.proofs.Parts.{prefix-length, get_or-then-zeros}
use Rattle.euclid_round.specs.Round.{round_steps, round_fits, remaining, quotient_words}
use Rattle.euclid_round.proofs.Significant.{significant-size}
use Rattle.euclid_round.proofs.Rounds.{round-fits, length-remaining, round-remainder, length-quotient_words, round-quotient, round_steps-le}
use Rattle.ordinary_theory.specs.InT.{size_in_t, degree_in_t, list_of, power_words}
use Rattle.ordinary_theory.proofs.InT.{below-meaning, length-power_words, carries-powers}
use Rattle.ordinary_theory.specs.Ordinary.{ordinary_quotient, ordinary_remainder}
use Rattle.ordinary_theory.proofs.Ordinary.{some_size, below_quotient, below-remainder}
use Rattle.list_ordinary_division.specs.Internal.{OrdinaryFits, Buffers}

zero_rest : (n : ℕ) {l : List ℕ} → ZeroFrom 0 l → (k : ℕ) → get_or (drop n l) k 0 ≡ 0
zero_rest n {l} z k = get_or-drop n l k 0 ∙ z.at (n + k) (omega arith)

module _ (F : PrimeField) where
  open F.series.ring use {Carrier as S}

  -- zeros after words add nothing
  carries-zeros : {w : List ℕ} (z : List ℕ) {s : S} → Carries F w s → ((k : ℕ) → get_or z k 0 ≡ 0) → Carries F (w ++ z) s
  carries-zeros {w} z c h =
      record { below = λ k. rw (get_or-then-zeros w z h k) (c.below k); at = λ k. ap (residue F) (get_or-then-zeros w z h k) ∙ c.at k }

  -- the first n words of a polynomial with at most n coefficients
  carries-front : (n : ℕ) {w : List ℕ} {s : S} → Below F.series n s → Carries F w s → Carries F (take n w) s
  carries-front n {w} {s} b c = record { below = λ k. low k (dec_lt k n); at = λ k. same k (dec_lt k n) }
    where
      high : (k : ℕ) → n ≤ k → get_or (take n w) k 0 ≡ 0
      high k h = get_or-eq_default (take n w) 0 (simp length-take (omega arith))

      low : (k : ℕ) → Dec (k < n) → get_or (take n w) k 0 < F.p
      low k (yes h) = rw (get_or-take n w k 0 h) (c.below k)
      low k (no h) = rw (high k (omega arith)) (positive F)

      same : (k : ℕ) → Dec (k < n) → residue F (get_or (take n w) k 0) ≡ F.series.coeff s k
      same k (yes h) = ap (residue F) (get_or-take n w k 0 h) ∙ c.at k
      same k (no h) = ap (residue F) (high k (omega arith)) ∙ residue-0 F ∙ sym (b.at k (omega arith))

  -- the list of n words that means what the words stand for
  abbrev pub Listed : (words : List ℕ) (n : ℕ) (list : List ℕ) → Type 0
  Listed words n list = (s : S) → Carries F words s → length words ≡ n → 0 < n → list ≡ list_of F (n - 1) s

  module _ {p : ℕ} (is : F.p ≡ p) where
    -- the powers of t of a list in the front of a buffer of 0
    module _ (c x : List ℕ) (room : length c ≤ length x) (zero : ZeroFrom 0 x) where
      powers-carry : Carries F (power_words F c ++ drop (length c) x) (meaning F c)
      powers-carry = carries-zeros (drop (length c) x) (carries-powers F c) (zero_rest (length c) zero)

      powers-long : length (power_words F c ++ drop (length c) x) ≡ length x
      powers-long =
          length-append (power_words F c) (drop (length c) x)
          ∙ rw (length-power_words F c, length-drop (length c) x) (omega arith)

    module _ (most : ℕ) (g f x y k q r : List ℕ) (fits : OrdinaryFits F most g f q r) (buffers : Buffers (length g) (length f) x y k)
        -- the dividend and the divisor in their buffers
        {X Y : List ℕ} (qx : X ≡ power_words F g ++ drop (length g) x) (qy : Y ≡ power_words F f ++ drop (length f) y) where
      room-y : length f ≤ length y
      room-y = let e = buffers.equal_y in let l = buffers.long-divisor in omega arith

      cx : Carries F X (meaning F g)
      cx = rw qx (powers-carry g x buffers.long-dividend buffers.zero_x)

      cy : Carries F Y (meaning F f)
      cy = rw qy (powers-carry f y room-y buffers.zero_y)

      nx : length X ≡ length x
      nx = ap length qx ∙ powers-long g x buffers.long-dividend buffers.zero_x

      ny : length Y ≡ length x
      ny = ap length qy ∙ powers-long f y room-y buffers.zero_y ∙ buffers.equal_y

      -- what a round wants of them
      pub round-wants : {l : ℕ} → l ≡ length x → Tight p X × ZeroFrom l Y
      round-wants e = (
        record { at = λ i. rw is at (cx.below i) },
        record { at = λ i h. get_or-eq_default Y 0 (omega (arith, ny)) },
      )

      sx : series_of F X ≡ meaning F g
      sx = series_of-carries F cx

      sy : series_of F Y ≡ meaning F f
      sy = series_of-carries F cy

      size_y : significant Y ≡ size_in_t F f
      unfolding size_in_t
      size_y =
          significant-size F (length x) cy ny
          ∙ size_same F.series (scalar_field F) (length x) (length f) (below-mono F.series buffers.long-divisor (below-meaning F f)) (below-meaning F f)

      degree-y : significant Y - 1 ≡ degree_in_t F f
      unfolding degree_in_t
      degree-y = ap (λ n. n - 1) size_y

      size_x : size F.series (scalar_field F) (length x) (meaning F g) ≡ size F.series (scalar_field F) (length g) (meaning F g)
      size_x =
          size_same F.series (scalar_field F) (length x) (length g) (below-mono F.series buffers.long-dividend (below-meaning F g)) (below-meaning F g)

      some : 0 < significant Y
      some = rw size_y (some_size F g f fits.dividable)

      ready : round_fits p X Y k ≡ true
      ready =
          rw (← is)
          (round-fits F (length x) X Y cx.below cy.below nx ny some k (let e = buffers.equal_k in omega arith))

      -- a round on all words of both
      all-x : (n : ℕ) → n ≡ length x → take n X ≡ X
      all-x n e = take_all n X (omega (arith, nx))

      all-y : (n : ℕ) → n ≡ length x → take n Y ≡ Y
      all-y n e = take_all n Y (omega (arith, ny))

      named : length g - 1 ≡ naive_degree g
      unfolding naive_degree
      named = refl

      module _ (l : ℕ) (whole-x : l ≡ length x) where
        module _ {k' : List ℕ}
            (digits : k' ≡ cond (round_fits p (take l X) (take l Y) k) (quotient_words F (take l X) (take l Y) ++ drop (round_steps (take l X) (take l Y)) k) k) where
          ek : k' ≡ quotient_words F X Y ++ drop (round_steps X Y) k
          ek =
              digits
              ∙ ap₂ (λ a b. cond (round_fits p a b k) (quotient_words F a b ++ drop (round_steps a b) k) k) (all-x l whole-x) (all-y l whole-x)
              ∙ rw ready

          ck : Carries F k' (quotient_by F.series (scalar_field F) (length g) (degree_in_t F f) (meaning F g) (meaning F f))
          ck =
              rw ek
              (carries-zeros (drop (round_steps X Y) k)
              (subst (λ s. Carries F (quotient_words F X Y) s) same (round-quotient F (length x) X Y cx.below cy.below nx ny some))
              (zero_rest (round_steps X Y) buffers.zero_k))
            where
              same : quotient_by F.series (scalar_field F) (length x) (significant Y - 1) (series_of F X) (series_of F Y)
                  ≡ quotient_by F.series (scalar_field F) (length g) (degree_in_t F f) (meaning F g) (meaning F f)
              same =
                  ap₂ (λ d s. quotient_by F.series (scalar_field F) (length x) d s (series_of F Y)) degree-y sx
                  ∙ ap₂ (λ n s. quotient F.series (scalar_field F) (n - degree_in_t F f) (degree_in_t F f) (meaning F g) s) size_x sy

          nk : length (take (length g) k') ≡ length g
          nk =
              let a = length-append (quotient_words F X Y) (drop (round_steps X Y) k) in
              let b = length-quotient_words F (length x) X Y cx.below cy.below nx ny some in
              let d = length-drop (round_steps X Y) k in
              let e = buffers.equal_k in
              let s = round_steps-le X Y in
              let m = buffers.long-dividend in
              prefix-length (length g) (length x) k' (ap length ek ∙ a ∙ omega (arith, b, d, nx)) m

          pub quotient_is : {q' : List ℕ} → Listed (take (length q) k') (length q) q' → q' ≡ ordinary_quotient F g f
          unfolding ordinary_quotient
          quotient_is listed =
              let n = fits.quotient-words in
              let s = fits.dividable.some in
              listed _ (rw n (carries-front (length g) (below_quotient F g f fits.dividable) ck)) (rw n nk) (omega arith)
              ∙ ap (λ i. list_of F i (quotient_by F.series (scalar_field F) (length g) (degree_in_t F f) (meaning F g) (meaning F f))) (ap (λ i. i - 1) n ∙ named)

        module _ {x' : List ℕ}
            (left : x' ≡ cond (round_fits p (take l X) (take l Y) k) (remaining F (take l X) (take l Y)) (take l X) ++ drop l X) where
          ex : x' ≡ remaining F X Y
          ex =
              left
              ∙ ap₂ (λ a b. cond (round_fits p a b k) (remaining F a b) a ++ drop l X) (all-x l whole-x) (all-y l whole-x)
              ∙ rw ready
              (ap (λ z. remaining F X Y ++ z) (drop_of_length-le X {i = l} (omega (arith, nx))) ∙ append-nil (remaining F X Y))

          cr : Carries F x' (remainder_by F.series (scalar_field F) (length g) (degree_in_t F f) (meaning F g) (meaning F f))
          cr = rw ex (subst (λ s. Carries F (remaining F X Y) s) same (round-remainder F (length x) X Y cx.below cy.below nx ny some))
            where
              same : remainder_by F.series (scalar_field F) (length x) (significant Y - 1) (series_of F X) (series_of F Y)
                  ≡ remainder_by F.series (scalar_field F) (length g) (degree_in_t F f) (meaning F g) (meaning F f)
              same =
                  ap₂ (λ d s. remainder_by F.series (scalar_field F) (length x) d s (series_of F Y)) degree-y sx
                  ∙ ap₂ (λ n s. remainder F.series (scalar_field F) (n - degree_in_t F f) (degree_in_t F f) (meaning F g) s) size_x sy

          nr : length (take (length g) x') ≡ length g
          nr =
              prefix-length (length g) (length x) x' (ap length ex ∙ length-remaining F (length x) X Y cx.below cy.below nx ny some)
              buffers.long-dividend

          pub remainder_is : {r' : List ℕ} → Listed (take (length r) x') (length r) r' → r' ≡ ordinary_remainder F g f
          unfolding ordinary_remainder
          remainder_is listed =
              let n = fits.remainder-words in
              let s = fits.dividable.some in
              listed _ (rw n (carries-front (length g) (below-remainder F g f fits.dividable) cr)) (rw n nr) (omega arith)
              ∙ ap (λ i. list_of F i (remainder_by F.series (scalar_field F) (length g) (degree_in_t F f) (meaning F g) (meaning F f))) (ap (λ i. i - 1) n ∙ named)

-- The list h of an album's GCD is a common divisor of the lists in u, and what divides them in t and is not 0 at 1 divides it.
--     Each q lists       the core of K, K without its factors 1-t, divides each list
--     From h lists r     r is such a divisor of h and the lists
--     Whole lists r      r is such a divisor of the lists
-- Theorems:
--     from-ok     the GCD from a result so far is such a divisor of the result and the later lists
--     whole       the GCD of an album whose lists are not all zero is such a divisor of them
-- Assumes nothing.
use mathlib.Core.Path.{◌≡◌}
use mathlib.Core.List.{List, [], ◌∷◌}
use Prim.Native.Nat.{ℕ, zero, suc, ◌+◌, ◌<◌}
use native.Mathlib.Decide.{ℕ_discrete}
use native.Mathlib.Omega.{arith}
use lib.ListN.{get_or}
use Rattle.algebra.specs.Polynomial.{Divides}
use Rattle.algebra.proofs.Polynomial.{divides-0, divides-refl, divides-trans}
use Rattle.algebra.proofs.Factors.{Split}
use Rattle.algebra.proofs.CommonDivisor.{core-divides-bezout}
use Rattle.algebra.specs.PrimeField.{PrimeField, scalar_field}
use Rattle.lists.specs.Degrees.{significant}
use Rattle.lists.specs.Lists.{Coefficients, meaning, scaled}
use Rattle.lists.proofs.Scaled.{polynomial-meaning}
use Rattle.lists.proofs.Extents.{significant-zero}
use Rattle.euclid_theory.specs.Gcd.{gcd_of}
use Rattle.euclid_theory.proofs.Gcd.{gcd-left, gcd-right}
use Rattle.euclid_theory.proofs.Powers.{significant-nil}
use Rattle.euclid_theory.proofs.Greatest.{bezout-gcd}
use Rattle.euclid_theory.specs.Defined.{Head}
use Rattle.euclid_theory.proofs.Defined.{head-gcd}
use Rattle.album_theory.specs.Albums.{Result, ended, joined, gcd_from, album_gcd}
use Rattle.album_theory.proofs.Albums.{coefficients-none, from-none, from_zero, from-nonzero, album-zero, album-nonzero}
use Rattle.album_theory.proofs.Ended.{head-ended, ended-divides, bezout-ended}

-- list i
abbrev at : List (List ℕ) → ℕ → List ℕ
at lists i = get_or lists i []

module _ (F : PrimeField) where
  open F.series.ring use {Carrier as S}

  -- the first list that is not zero, at 0 rounds
  abbrev start : List ℕ → Result
  start c = record { list = ended F c; rounds = 0 }

  -- a zero list is divided by everything, in u too
  zero-over : (s : S) (c : List ℕ) → Coefficients F c → significant c ≡ 0 → Divides F.series s (scaled F c)
  zero-over s c h e = rw (significant-zero F c h e) (divides-0 F.series s)

  -- the core of K, K without its factors 1-t, divides each list
  abbrev pub Each : {K : S} → Split F.series K → List (List ℕ) → Type 0
  Each q lists = (i : ℕ) → Divides F.series q.core (meaning F (at lists i))

  -- r is a common divisor in u of h and the lists, and what divides these in t and is not 0 at 1 divides r
  pub record From (h : List ℕ) (lists : List (List ℕ)) (r : List ℕ) : Type 0 where
    pub head : Head F r
    pub over-h : Divides F.series (scaled F r) (scaled F h)
    pub over : (i : ℕ) → Divides F.series (scaled F r) (scaled F (at lists i))
    pub under : {K : S} (q : Split F.series K) → Divides F.series q.core (meaning F h) → Each q lists
        → Divides F.series q.core (meaning F r)

  from-ok : (lists : List (List ℕ)) (result : Result) → Head F result.list → ((i : ℕ) → Coefficients F (at lists i))
      → From result.list lists (gcd_from F result lists).list
  from-ok [] result hd each =
      rw (from-none F result)
      (record {
        head = hd;
        over-h = divides-refl F.series _;
        over = λ i. zero-over _ [] (coefficients-none F) significant-nil;
        under = λ q k all. k;
      })
  from-ok (c ∷ lists) result hd each =
      go (from-ok lists result hd (λ i. each (suc i))) (λ hd'. from-ok lists (joined F result c) hd' (λ i. each (suc i)))
      (ℕ_discrete (significant c) 0)
    where
      go : From result.list lists (gcd_from F result lists).list
          → (Head F (gcd_of F result.list c) → From (gcd_of F result.list c) lists (gcd_from F (joined F result c) lists).list)
          → Dec (significant c ≡ 0) → From result.list (c ∷ lists) (gcd_from F result (c ∷ lists)).list
      go ih ih' (yes e) =
          rw (from_zero F result c lists e)
          (record { head = ih.head; over-h = ih.over-h; over = over; under = λ q k all. ih.under q k (λ i. all (suc i)) })
        where
          over : (i : ℕ) → Divides F.series (scaled F (gcd_from F result lists).list) (scaled F (at (c ∷ lists) i))
          over zero = zero-over _ c (each 0) e
          over (suc i) = ih.over i
      go ih ih' (no e) =
          rw (from-nonzero F result c lists e)
          (record {
            head = r.head;
            over-h = divides-trans F.series r.over-h (gcd-left F result.list c hd.coefficients (each 0) some);
            over = over;
            under =
                λ q k all. r.under q
                (core-divides-bezout F.series (scalar_field F) q (polynomial-meaning F _)
                (bezout-gcd F result.list c hd.coefficients (each 0) some) k (all 0))
                (λ i. all (suc i));
          })
        where
          some : 0 < significant result.list + significant c
          some = omega arith

          r : From (gcd_of F result.list c) lists (gcd_from F (joined F result c) lists).list
          r = ih' (head-gcd F result.list c hd.coefficients (each 0) some)

          over : (i : ℕ) → Divides F.series (scaled F (gcd_from F (joined F result c) lists).list) (scaled F (at (c ∷ lists) i))
          over zero = divides-trans F.series r.over-h (gcd-right F result.list c hd.coefficients (each 0) some)
          over (suc i) = r.over i

  pub record Whole (lists : List (List ℕ)) (r : List ℕ) : Type 0 where
    pub head : Head F r
    pub over : (i : ℕ) → Divides F.series (scaled F r) (scaled F (at lists i))
    pub under : {K : S} (q : Split F.series K) → Each q lists → Divides F.series q.core (meaning F r)

  pub whole : (lists : List (List ℕ)) → ((i : ℕ) → Coefficients F (at lists i)) → (i : ℕ) → 0 < significant (at lists i)
      → Whole lists (album_gcd F lists).list
  whole [] each i some = absurd (let z = significant-nil in omega arith)
  whole (c ∷ lists) each i some =
      go (λ j l. whole lists (λ i. each (suc i)) j l) (ℕ_discrete (significant c) 0) i some
    where
      go : ((j : ℕ) → 0 < significant (at lists j) → Whole lists (album_gcd F lists).list) → Dec (significant c ≡ 0)
          → (i : ℕ) → 0 < significant (at (c ∷ lists) i) → Whole (c ∷ lists) (album_gcd F (c ∷ lists)).list
      go ih (yes e) zero l = absurd (omega arith)
      go ih (yes e) (suc i) l =
          let r = ih i l in
          rw (album-zero F c lists e) (record { head = r.head; over = over r; under = λ q all. r.under q (λ i. all (suc i)) })
        where
          over : Whole lists (album_gcd F lists).list → (i : ℕ)
              → Divides F.series (scaled F (album_gcd F lists).list) (scaled F (at (c ∷ lists) i))
          over r zero = zero-over _ c (each 0) e
          over r (suc i) = r.over i
      go ih (no e) i l =
          rw (album-nonzero F c lists e)
          (record {
            head = r.head;
            over = over;
            under =
                λ q all. r.under q
                (core-divides-bezout F.series (scalar_field F) q (polynomial-meaning F _)
                (bezout-ended F c (each 0) first) (all 0) (divides-0 F.series q.core))
                (λ i. all (suc i));
          })
        where
          first : 0 < significant c
          first = omega arith

          r : From (ended F c) lists (gcd_from F (start c) lists).list
          r = from-ok lists (start c) (head-ended F c (each 0) first) (λ i. each (suc i))

          over : (i : ℕ) → Divides F.series (scaled F (gcd_from F (start c) lists).list) (scaled F (at (c ∷ lists) i))
          over zero = divides-trans F.series r.over-h (ended-divides F c (each 0) first)
          over (suc i) = r.over i

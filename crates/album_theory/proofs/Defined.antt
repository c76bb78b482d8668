-- What `album_gcd` computes is the h and the rounds that document 01 defines.
-- Theorems:
--     album-is-the     the h and rounds of an album's GCD are those of the definition, where not all lists are zero
--     album-only       the definition has no two
--     album-lone       a lone list that is not zero takes 0 rounds
-- Assumes nothing.
use mathlib.Core.Path.{◌≡◌, refl, sym, ◌∙◌, ap₂, subst}
use mathlib.Core.List.{List, [], ◌∷◌}
use Prim.Native.Nat.{ℕ, zero, suc, ◌+◌, ◌<◌}
use native.Mathlib.Nat as N
use native.Mathlib.Decide.{ℕ_discrete}
use native.Mathlib.Omega.{arith}
use lib.ListN.{get_or}
use Rattle.algebra.specs.PrimeField.{PrimeField}
use Rattle.lists.specs.Degrees.{significant}
use Rattle.lists.specs.Lists.{Coefficients}
use Rattle.euclid_theory.specs.Gcd.{gcd_of, rounds_of}
use Rattle.euclid_theory.proofs.Powers.{significant-nil}
use Rattle.euclid_theory.specs.Defined.{Head}
use Rattle.euclid_theory.proofs.Defined.{head-gcd, gcd-is-the, monic-only, gcd-only}
use Rattle.album_theory.specs.Albums.{Result, ended, joined, gcd_from, album_gcd}
use Rattle.album_theory.proofs.Ended.{head-ended, monic-ended}
use Rattle.album_theory.proofs.Albums.{from-none, from_zero, from-nonzero, album-zero, album-nonzero}
use Rattle.album_theory.specs.Defined.{Turns, none, turn, TheAlbumGcd, passed, first}

module _ (F : PrimeField) where
  -- the rounds of the turns are added to those so far
  record Added (result : Result) (lists : List (List ℕ)) (r : Result) : Type 0 where
    rounds : ℕ
    sum : r.rounds ≡ result.rounds + rounds
    turns : Turns F result.list lists r.list rounds

  turns-are : (lists : List (List ℕ)) (result : Result) → Head F result.list → ((i : ℕ) → Coefficients F (get_or lists i []))
      → Added result lists (gcd_from F result lists)
  turns-are [] result hd each = rw (from-none F result) (record { rounds = 0; sum = omega arith; turns = none })
  turns-are (c ∷ lists) result hd each =
      go (turns-are lists result hd (λ i. each (suc i))) (λ hd'. turns-are lists (joined F result c) hd' (λ i. each (suc i)))
      (ℕ_discrete (significant c) 0)
    where
      go : Added result lists (gcd_from F result lists)
          → (Head F (gcd_of F result.list c) → Added (joined F result c) lists (gcd_from F (joined F result c) lists))
          → Dec (significant c ≡ 0) → Added result (c ∷ lists) (gcd_from F result (c ∷ lists))
      go ih ih' (yes e) =
          rw (from_zero F result c lists e) (record { rounds = ih.rounds; sum = ih.sum; turns = passed e ih.turns })
      go ih ih' (no e) =
          let some : 0 < significant result.list + significant c = omega arith in
          let later = ih' (head-gcd F result.list c hd.coefficients (each 0) some) in
          let this = gcd-is-the F result.list c hd.coefficients (each 0) some in
          rw (from-nonzero F result c lists e)
          (record {
            rounds = rounds_of F result.list c + later.rounds;
            sum = later.sum ∙ N.add_assoc _ _ _;
            turns = turn e this later.turns;
          })

  -- list i is not zero
  pub album-is-the : (lists : List (List ℕ)) → ((i : ℕ) → Coefficients F (get_or lists i [])) → (i : ℕ)
      → 0 < significant (get_or lists i []) → TheAlbumGcd F lists (album_gcd F lists).list (album_gcd F lists).rounds
  album-is-the [] each i some = absurd (let z = significant-nil in omega arith)
  album-is-the (c ∷ lists) each i some =
      go (λ j l. album-is-the lists (λ i. each (suc i)) j l) (ℕ_discrete (significant c) 0) i some
    where
      go : ((j : ℕ) → 0 < significant (get_or lists j []) → TheAlbumGcd F lists (album_gcd F lists).list (album_gcd F lists).rounds)
          → Dec (significant c ≡ 0) → (i : ℕ) → 0 < significant (get_or (c ∷ lists) i [])
          → TheAlbumGcd F (c ∷ lists) (album_gcd F (c ∷ lists)).list (album_gcd F (c ∷ lists)).rounds
      go ih (yes e) zero l = absurd (omega arith)
      go ih (yes e) (suc i) l = rw (album-zero F c lists e) (passed e (ih i l))
      go ih (no e) i l =
          let start : Result = record { list = ended F c; rounds = 0 } in
          let some : 0 < significant c = omega arith in
          let later = turns-are lists start (head-ended F c (each 0) some) (λ i. each (suc i)) in
          let none : later.rounds ≡ (gcd_from F start lists).rounds = omega (arith, later.sum) in
          rw (album-nonzero F c lists e)
          (first e (monic-ended F c (each 0) some)
          (subst (Turns F (ended F c) lists (gcd_from F start lists).list) none later.turns))

  turns-only : {f h h' : List ℕ} {lists : List (List ℕ)} {k k' : ℕ} → Turns F f lists h k → Turns F f lists h' k' → (h ≡ h') × (k ≡ k')
  turns-only none none = (refl, refl)
  turns-only (passed e z) (passed e' z') = turns-only z z'
  turns-only (passed e z) (turn n g z') = absurd (n e)
  turns-only (turn n g z) (passed e z') = absurd (n e)
  turns-only (turn {lists = lists} n g z) (turn {h = h'} {k = k'} n' g' z') =
      let this = gcd-only F g g' in
      let later = turns-only z (subst (λ f. Turns F f lists h' k') (sym this.0) z') in
      (later.0, ap₂ ◌+◌ this.1 later.1)

  pub album-only : {h h' : List ℕ} {lists : List (List ℕ)} {k k' : ℕ} → TheAlbumGcd F lists h k → TheAlbumGcd F lists h' k'
      → (h ≡ h') × (k ≡ k')
  album-only (passed e z) (passed e' z') = album-only z z'
  album-only (passed e z) (first n g z') = absurd (n e)
  album-only (first n g z) (passed e z') = absurd (n e)
  album-only (first {lists = lists} n g z) (first {h = h'} {k = k'} n' g' z') =
      turns-only z (subst (λ f. Turns F f lists h' k') (sym (monic-only F g g')) z')

  -- where all later lists are zero, the result so far stays
  from-zeros : (result : Result) (lists : List (List ℕ)) → ((j : ℕ) → significant (get_or lists j []) ≡ 0) → gcd_from F result lists ≡ result
  from-zeros result [] zeros = from-none F result
  from-zeros result (c ∷ lists) zeros =
      from_zero F result c lists (zeros 0) ∙ from-zeros result lists (λ j. zeros (suc j))

  -- list i alone is not zero
  pub album-lone : (lists : List (List ℕ)) (i : ℕ) → 0 < significant (get_or lists i [])
      → ((j : ℕ) → ¬ (j ≡ i) → significant (get_or lists j []) ≡ 0) → album_gcd F lists ≡ record { list = ended F (get_or lists i []); rounds = 0 }
  album-lone [] i some zeros = absurd (let z = significant-nil in omega arith)
  album-lone (c ∷ lists) zero some zeros =
      album-nonzero F c lists (λ e. omega arith) ∙ from-zeros _ lists (λ j. zeros (suc j) (λ e. omega arith))
  album-lone (c ∷ lists) (suc i) some zeros =
      album-zero F c lists (zeros 0 (λ e. omega arith)) ∙ album-lone lists i some (λ j n. zeros (suc j) (λ e. n (omega arith)))

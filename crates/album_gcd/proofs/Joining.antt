-- One more list: a zero list is passed over, and the GCD with another is not refused.
-- Assumes nothing.
use mathlib.Core.Path.{◌≡◌, refl, sym, ◌∙◌, ap, subst}
use mathlib.Core.Bool.{false, not}
use mathlib.Core.List.{List, [], ◌∷◌}
use Prim.Native.Nat.{ℕ, suc, ◌+◌, ◌≤◌, ◌<◌}
use native.Mathlib.Omega.{arith}
use lib.Dec.{eqb}
use lib.ListN.{get_or, length, take}
use borrow.Author.Tests.{eq-eqb, ne_eqb, le-ltb, lt-leb}
use Rattle.std.specs.Prelude.{Option, Some, Ok, Err}
use Rattle.algebra.specs.PrimeField.{PrimeField}
use Rattle.refusal.specs.Refusal.{reply, written}
use Rattle.refusal.specs.Lowest.{lowest}
use Rattle.refusal.specs.declared.Refusal.{Refusal}
use Rattle.lists.specs.Degrees.{naive_degree, significant, power}
use Rattle.lists.proofs.Extents.{significant-le}
use Rattle.lists.specs.Lists.{Coefficients}
use Rattle.lists.specs.Refused.{wrong_length, has_loose, list_refusals, IsList}
use Rattle.lists.proofs.Judged.{judged}
use Rattle.euclid_theory.specs.Gcd.{gcd_of, rounds_of}
use Rattle.lists.specs.Padded.{padded}
use Rattle.euclid_theory.proofs.Gcd.{gcd-rounds}
use Rattle.list_gcd.specs.declared.Gcd.{Gcd}
use Rattle.list_gcd.specs.Calls.{gcd_reply, gcd_values, gcd_rows}
use Rattle.list_gcd.proofs.Ready.{judged-done}
use Rattle.album_reader.specs.Internal.{Held}
use Rattle.album_reader.proofs.Held.{held-length}
use Rattle.album_gcd.specs.Internal.{least_of, with_list, Joined}
use Rattle.album_gcd.proofs.Folds.{with-zero, with-nonzero, with-listed}
use Rattle.album_gcd.proofs.Power.{least_zero, least-nonzero}

-- a list that no call refuses passes
module _ (p most : ℕ) where
  tight : (c : List ℕ) → ((k : ℕ) → get_or c k 0 < p) → has_loose p c ≡ false
  unfolding has_loose
  tight [] h = refl
  tight (x ∷ c) h = rw (lt-leb p x (h 0)) (tight c (λ k. h (suc k)))

  right-length : (c : List ℕ) → IsList p most c → wrong_length most c ≡ false
  unfolding wrong_length
  right-length c l =
      let some = l.some in
      simp (ne_eqb (length c) 0 (λ e. omega arith), le-ltb most (length c) l.short)

  module _ (f g : List ℕ) (lf : IsList p most f) (lg : IsList p most g) where
    lists-pass : lowest (list_refusals p most (f ∷ g ∷ [])) ≡ Ok tt
    lists-pass =
        judged p most (f ∷ g ∷ [])
        ∙ simp (right-length f lf, right-length g lg, tight f lf.words, tight g lg.words)

    gcd-pass : (h : List ℕ) → ¬ (significant g ≡ 0) → length h ≡ most → lowest (gcd_rows p most f g h) ≡ Ok tt
    unfolding gcd_rows
    gcd-pass h some e =
        sym (judged-done p most f g (not (eqb (length h) most)) lists-pass
        (ne_eqb (significant f + significant g) 0 (λ z. some (omega arith))) (ap not (eq-eqb (length h) most e)))

module _ (F : PrimeField) (most : ℕ) (big : most ≤ F.p) where
  module _ {x : List ℕ} {n : ℕ} (f c : List ℕ) (h : Held F.p most x n f) where
    -- a zero list is passed over
    pub join-over : (k : ℕ) (a : Option ℕ) → significant c ≡ 0 → Joined F most f k a c x n k a
    join-over k a e =
        record {
          list = f;
          held = h;
          is = with-zero F (record { list = f; rounds = k }) c e;
          few = omega arith;
          least = sym (least_zero a c e);
        }

  -- x holds the result so far, and last is a copy of it
  module _ {x last : List ℕ} {n : ℕ} (c : List ℕ) (h : Held F.p most x n (take n x)) (copied : last ≡ x) (lc : IsList F.p most c)
      (some : ¬ (significant c ≡ 0)) where
    abbrev f : List ℕ
    f = take n last

    held : Held F.p most x n f
    held = rw copied h

    pass : lowest (gcd_rows F.p most f c x) ≡ Ok tt
    pass = gcd-pass F.p most f c held.listed lc x some (held-length held)

    pub join-never : (why : Refusal) → gcd_reply (Err why) ≡ reply (lowest (gcd_rows F.p most f c x)) (gcd_values F f c) → ⊥
    unfolding gcd_values
    join-never why e = let z = ap (λ z. length z.values) (e ∙ ap (λ o. reply o (gcd_values F f c)) pass) in omega arith

    module _ (gcd : Gcd) (e : gcd_reply (Ok gcd) ≡ reply (lowest (gcd_rows F.p most f c x)) (gcd_values F f c)) where
      value : (i : ℕ) → get_or (gcd.degree.0 ∷ gcd.power.0 ∷ gcd.rounds.0 ∷ []) i 0 ≡ get_or (gcd_values F f c) i 0
      value i = ap (λ z. get_or z.values i 0) (e ∙ ap (λ o. reply o (gcd_values F f c)) pass)

      degree : gcd.degree.0 ≡ naive_degree (gcd_of F f c)
      unfolding gcd_values
      degree = value 0

      count : gcd.rounds.0 ≡ rounds_of F f c
      unfolding gcd_values
      count = value 2

      listed : IsList F.p most (gcd_of F f c)
      listed =
          subst (λ r. IsList F.p most r.list) (with-nonzero F (record { list = f; rounds = 0 }) c some)
          (with-listed F most (record { list = f; rounds = 0 }) c big held.listed lc)

      coefficients : Coefficients F f
      coefficients = record { short = let s = held.listed.short in omega arith; below = held.listed.words }

      join-words : gcd.degree.0 + 1 ≡ length (gcd_of F f c)
      unfolding naive_degree
      join-words = let s = listed.some in let d = degree in omega arith

      pub join-few : gcd.rounds.0 ≤ most
      join-few =
          let rounds = gcd-rounds F f c coefficients in
          let below = significant-le f in
          let s = held.listed.short in
          omega (arith, count)

      -- the GCD with a list that is not zero
      pub join-with : {x' : List ℕ} {j : ℕ} {a a' : Option ℕ} → x' ≡ written (lowest (gcd_rows F.p most f c x)) (padded most (gcd_of F f c)) x
          → a' ≡ Some (least_of a (power c)) → Joined F most (take n x) j a c x' (gcd.degree.0 + 1) (j + gcd.rounds.0) a'
      join-with {x'} {j} {a} {a'} v m =
          record {
            list = gcd_of F f c;
            held =
                record {
                  listed = listed;
                  words = join-words;
                  slice = v ∙ ap (λ o. written o (padded most (gcd_of F f c)) x) pass;
                };
            is =
                ap (λ l. with_list F (record { list = take n l; rounds = j }) c) (sym copied)
                ∙ with-nonzero F (record { list = f; rounds = j }) c some
                ∙ ap (λ i. record { list = gcd_of F f c; rounds = j + i }) (sym count);
            few = let l = join-few in omega arith;
            least = m ∙ sym (least-nonzero a c some);
          }

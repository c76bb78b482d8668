-- The rows of each call, given as bytes, against the rows of the engine's function on the words.
-- Assumes nothing.
use mathlib.Core.Path.{◌≡◌, refl, sym, ◌∙◌, ap}
use mathlib.Core.Bool.{Bool, true, false, not, ◌||◌, or-false as or_nothing}
use mathlib.Core.List.{List}
use Prim.Native.Nat.{ℕ, suc, ◌+◌, ◌*◌, ◌≤◌, ◌<◌}
use native.Mathlib.Omega.{arith}
use lib.Dec.{eqb, ltb}
use lib.ListN.{length, get_or}
use borrow.Author.Tests.{ltb-false, eqb-false}
use Rattle.refusal.specs.Refusal.{Outcome}
use Rattle.std.specs.Prelude.{Ok, Err}
use Rattle.refusal.specs.Lowest.{lowest}
use Rattle.refusal.specs.declared.Refusal.TheVariants.{Length, LooseWord, Over, Backwards, Vanishes, AllZero, Misfit}
use Rattle.refusal.proofs.First.{refuse, first-is, refuse-done, or-false}
use Rattle.lists.specs.Degrees.{naive_degree, significant}
use Rattle.lists.specs.Refused.{wrong_length, has_loose, list_refusals}
use Rattle.euclid_theory.specs.Division.{steps}
use Rattle.list_product.specs.Calls as P
use Rattle.list_division.specs.Calls as D
use Rattle.list_gcd.specs.Calls as G
use Rattle.lists.specs.Bytes.{odd_bytes, words_of}
use Rattle.list_bytes.specs.Calls.{lists_refused, misfit, host_product_rows, host_division_rows, host_gcd_rows}
use Rattle.list_bytes.specs.Internal.{bad_list, room_of, gcd_room}
use Rattle.list_bytes.proofs.Fits.{good-list, fits, room_fits, room_whole, gcd-room-fits}

module _ (most : ℕ) where
  -- the tests of the lists, then the others
  abbrev judged : ℕ → (f g : List ℕ) → Outcome → Outcome
  judged p f g next =
      refuse (bad_list most f || bad_list most g) Length (refuse (has_loose p (words_of f) || has_loose p (words_of g)) LooseWord next)

  -- the same by the engine
  abbrev judged_words : ℕ → (a b : List ℕ) → Outcome → Outcome
  judged_words p a b next =
      refuse (wrong_length most a || (wrong_length most b || false)) Length
      (refuse (has_loose p a || (has_loose p b || false)) LooseWord next)

  right-length : (f : List ℕ) → bad_list most f ≡ false → wrong_length most (words_of f) ≡ false
  unfolding bad_list
  right-length f e = (or-false (odd_bytes f) _ e).1

  judged-same : (p : ℕ) (f g : List ℕ) (next : Outcome) → bad_list most f ≡ false → bad_list most g ≡ false
      → judged_words p (words_of f) (words_of g) next ≡ judged p f g next
  judged-same p f g next ef eg = simp (ef, eg, right-length f ef, right-length g eg, or_nothing)

  judged-done : (p : ℕ) (f g : List ℕ) (next : Outcome) → judged p f g next ≡ Ok tt → next ≡ Ok tt
  judged-done p f g next e =
      (refuse-done (has_loose p (words_of f) || has_loose p (words_of g)) _ _ (refuse-done (bad_list most f || bad_list most g) _ _ e).1).1

  judged-bad : (p : ℕ) (f g : List ℕ) (next : Outcome) → (bad_list most f || bad_list most g) ≡ true → judged p f g next ≡ Err Length
  judged-bad p f g next e = rw e

  -- whether a result fits does not matter where the call refuses before
  before-misfit : (b : Bool) {m m' : Bool} → (b ≡ false → m ≡ m') → refuse b Over (refuse m Misfit (Ok tt)) ≡ refuse b Over (refuse m' Misfit (Ok tt))
  before-misfit true h = refl
  before-misfit false h = ap (λ m. refuse m Misfit (Ok tt)) (h refl)

  module _ (p : ℕ) (f g out : List ℕ) where
    d : ℕ
    d = naive_degree (words_of f) + naive_degree (words_of g)

    product-chain : lowest (host_product_rows p most f g out) ≡ judged p f g (refuse (ltb most (suc d)) Over (refuse (misfit (suc d) out) Misfit (Ok tt)))
    unfolding host_product_rows lists_refused bad_list d
    product-chain = first-is (host_product_rows p most f g out) tt

    product-words : (c : List ℕ) → lowest (P.product_rows p most (words_of f) (words_of g) c)
        ≡ judged_words p (words_of f) (words_of g) (refuse (ltb most (suc d)) Over (refuse (not (eqb (length c) (suc d))) Misfit (Ok tt)))
    unfolding P.product_rows list_refusals d
    product-words c = first-is (P.product_rows p most (words_of f) (words_of g) c) tt

    pub product-bad : (bad_list most f || bad_list most g) ≡ true → lowest (host_product_rows p most f g out) ≡ Err Length
    product-bad e = product-chain ∙ judged-bad p f g _ e

    pub product-rows : (c : List ℕ) → bad_list most f ≡ false → bad_list most g ≡ false → length c ≡ room_of most 0 out
        → lowest (P.product_rows p most (words_of f) (words_of g) c) ≡ lowest (host_product_rows p most f g out)
    product-rows c ef eg e =
        product-words c ∙ judged-same p f g _ ef eg
        ∙ ap (judged p f g) (before-misfit (ltb most (suc d)) same)
        ∙ sym product-chain
      where
        same : ltb most (suc d) ≡ false → not (eqb (length c) (suc d)) ≡ misfit (suc d) out
        same b = let l = ltb-false most (suc d) b in rw e (room_fits most 0 (suc d) out (omega arith) (λ z. omega arith))

    -- where the call completes, the words of the result are those of its bytes
    pub product_whole : lowest (host_product_rows p most f g out) ≡ Ok tt → length out ≡ 2 * room_of most 0 out
    product_whole e =
        let o = refuse-done (ltb most (suc d)) _ _ (judged-done p f g _ (sym product-chain ∙ e)) in
        let m = refuse-done (misfit (suc d) out) _ _ o.1 in
        let l = ltb-false most (suc d) o.0 in
        room_whole most 0 (suc d) out (omega arith) m.0

  module _ (p : ℕ) (g f q r : List ℕ) where
    division-chain : lowest (host_division_rows p most g f q r)
        ≡ judged p g f
        (refuse (ltb (length (words_of g)) (length (words_of f))) Backwards
        (refuse (eqb (get_or (words_of f) (naive_degree (words_of f)) 0) 0) Vanishes
        (refuse (misfit (steps (words_of g) (words_of f)) q || misfit (naive_degree (words_of f)) r) Misfit (Ok tt))))
    unfolding host_division_rows lists_refused bad_list
    division-chain = first-is (host_division_rows p most g f q r) tt

    division-words : (c d : List ℕ) → lowest (D.divide_rows p most (words_of g) (words_of f) c d)
        ≡ judged_words p (words_of g) (words_of f)
        (refuse (ltb (length (words_of g)) (length (words_of f))) Backwards
        (refuse (eqb (get_or (words_of f) (naive_degree (words_of f)) 0) 0) Vanishes
        (refuse (not (eqb (length c) (steps (words_of g) (words_of f))) || not (eqb (length d) (naive_degree (words_of f)))) Misfit (Ok tt))))
    unfolding D.divide_rows list_refusals
    division-words c d = first-is (D.divide_rows p most (words_of g) (words_of f) c d) tt

    pub division-bad : (bad_list most g || bad_list most f) ≡ true → lowest (host_division_rows p most g f q r) ≡ Err Length
    division-bad e = division-chain ∙ judged-bad p g f _ e

    module _ (eg : bad_list most g ≡ false) (ef : bad_list most f ≡ false) where
      quotient-short : steps (words_of g) (words_of f) ≤ most
      unfolding steps naive_degree
      quotient-short = let l = good-list most g eg in omega arith

      quotient-some : ¬ (0 ≡ steps (words_of g) (words_of f))
      unfolding steps
      quotient-some z = omega arith

      remainder-short : suc (naive_degree (words_of f)) ≤ most
      unfolding naive_degree
      remainder-short = let l = good-list most f ef in omega arith

      pub division-rows : (c d : List ℕ) → length c ≡ room_of most 0 q → length d ≡ room_of most most r
          → lowest (D.divide_rows p most (words_of g) (words_of f) c d) ≡ lowest (host_division_rows p most g f q r)
      division-rows c d ec ed =
          let s = remainder-short in
          division-words c d ∙ judged-same p g f _ eg ef
          ∙ (simp (
            ec,
            ed,
            room_fits most 0 (steps (words_of g) (words_of f)) q quotient-short quotient-some,
            room_fits most most (naive_degree (words_of f)) r (omega arith) (λ z. omega arith),
          ))
          ∙ sym division-chain

      pub division-whole : lowest (host_division_rows p most g f q r) ≡ Ok tt → (length q ≡ 2 * room_of most 0 q) × (length r ≡ 2 * room_of most most r)
      division-whole e =
          let s = remainder-short in
          let b = refuse-done (ltb (length (words_of g)) (length (words_of f))) _ _ (judged-done p g f _ (sym division-chain ∙ e)) in
          let v = refuse-done (eqb (get_or (words_of f) (naive_degree (words_of f)) 0) 0) _ _ b.1 in
          let m = or-false (misfit (steps (words_of g) (words_of f)) q) (misfit (naive_degree (words_of f)) r) (refuse-done _ _ _ v.1).0 in
          (room_whole most 0 _ q quotient-short m.0, room_whole most most _ r (omega arith) m.1)

  module _ (p : ℕ) (f g h answer : List ℕ) where
    zero : Bool
    zero = eqb (significant (words_of f) + significant (words_of g)) 0

    gcd-chain : lowest (host_gcd_rows p most f g h answer)
        ≡ judged p f g (refuse zero AllZero (refuse (misfit most h || misfit 3 answer) Misfit (Ok tt)))
    unfolding host_gcd_rows lists_refused bad_list zero
    gcd-chain = first-is (host_gcd_rows p most f g h answer) tt

    gcd-words : (c : List ℕ) → lowest (G.gcd_rows p most (words_of f) (words_of g) c)
        ≡ judged_words p (words_of f) (words_of g) (refuse zero AllZero (refuse (not (eqb (length c) most)) Misfit (Ok tt)))
    unfolding G.gcd_rows list_refusals zero
    gcd-words c = first-is (G.gcd_rows p most (words_of f) (words_of g) c) tt

    pub gcd-bad : (bad_list most f || bad_list most g) ≡ true → lowest (host_gcd_rows p most f g h answer) ≡ Err Length
    gcd-bad e = gcd-chain ∙ judged-bad p f g _ e

    pub gcd-rows : 0 < most → (c : List ℕ) → bad_list most f ≡ false → bad_list most g ≡ false → length c ≡ gcd_room most h answer
        → lowest (G.gcd_rows p most (words_of f) (words_of g) c) ≡ lowest (host_gcd_rows p most f g h answer)
    gcd-rows some c ef eg e =
        gcd-words c ∙ judged-same p f g _ ef eg
        ∙ ap (λ m. judged p f g (refuse zero AllZero (refuse m Misfit (Ok tt)))) same
        ∙ sym gcd-chain
      where
        same : not (eqb (length c) most) ≡ (misfit most h || misfit 3 answer)
        same = rw e (gcd-room-fits most some h answer)

    pub gcd-whole : lowest (host_gcd_rows p most f g h answer) ≡ Ok tt
        → (length h ≡ 2 * most) × (length answer ≡ 6) × ¬ (significant (words_of f) + significant (words_of g) ≡ 0)
    unfolding zero
    gcd-whole e =
        let z = refuse-done zero _ _ (judged-done p f g _ (sym gcd-chain ∙ e)) in
        let m = or-false (misfit most h) (misfit 3 answer) (refuse-done _ _ _ z.1).0 in
        (fits most h m.0, fits 3 answer m.1, eqb-false _ _ z.0)

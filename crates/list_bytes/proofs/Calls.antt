-- The three calls: f and g are the bytes of the lists, a and b their words, c and d the words handed to the engine's function for the
-- results; primed, what stands there afterwards.
--     ProductCall, DivisionCall, GcdCall               what is known of a call once the engine's function answered
--     product-called, division-called, gcd-called      that, from what the calls of the code promise
-- Assumes nothing.
use mathlib.Core.Path.{◌≡◌, sym, ◌∙◌, ap, ap₂}
use mathlib.Core.Bool.{false}
use mathlib.Core.List.{List, [], ◌∷◌}
use Prim.Native.Nat.{ℕ, ◌+◌, ◌*◌, ◌≤◌, ◌<◌}
use native.Mathlib.Omega.{arith}
use lib.ListN.{length}
use Rattle.std.specs.Prelude.{Ok, Err, Result}
use Rattle.algebra.specs.PrimeField.{PrimeField}
use Rattle.refusal.specs.Limits.{max_words}
use Rattle.refusal.specs.Refusal.{number, outcome_number, reply, outcome_reply, written, Outcome}
use Rattle.refusal.specs.Lowest.{lowest}
use Rattle.refusal.specs.declared.Refusal.{Refusal}
use Rattle.lists.specs.Degrees.{significant}
use Rattle.lists.specs.Operations.{product}
use Rattle.euclid_theory.specs.Division.{quotient_of, remainder_of}
use Rattle.euclid_theory.specs.Gcd.{gcd_of}
use Rattle.lists.specs.Padded.{padded}
use Rattle.list_product.specs.Calls as P
use Rattle.list_division.specs.Calls as D
use Rattle.list_gcd.specs.declared.Gcd.{Gcd}
use Rattle.list_gcd.specs.Calls as E
use Rattle.list_gcd.specs.Calls.{gcd_reply, gcd_values, Greatest}
use Rattle.lists.specs.Bytes.{word_count, words_of, bytes_of}
use Rattle.words.specs.Transfer.{words_into}
use Rattle.words.proofs.Transfer.{into-exact}
use Rattle.list_bytes.specs.Calls.{host_product_rows, host_division_rows, host_gcd_rows}
use Rattle.list_bytes.specs.Internal.{bad_list, room_of, gcd_room}
use Rattle.list_bytes.proofs.Fits.{good-list, both}
use Rattle.list_bytes.proofs.Rows.{product-rows, product_whole, division-rows, division-whole, gcd-rows, gcd-whole}
use Rattle.refusal.proofs.Answers.{done-reply, refused-reply}
use Rattle.list_bytes.proofs.Answers.{wrote, Small, small}

module _ (most : ℕ) where
  pub record ProductCall (p : ℕ) (f g out a b c : List ℕ) (answer : Outcome) : Type 0 where
    pub good-f : bad_list most f ≡ false
    pub good-g : bad_list most g ≡ false
    pub words-f : a ≡ words_of f
    pub words-g : b ≡ words_of g
    pub room : length c ≡ room_of most 0 out
    pub says : outcome_reply answer ≡ reply (lowest (P.product_rows p most a b c)) []

  pub record DivisionCall (p : ℕ) (g f q r a b c d : List ℕ) (answer : Outcome) : Type 0 where
    pub good-g : bad_list most g ≡ false
    pub good-f : bad_list most f ≡ false
    pub words-g : a ≡ words_of g
    pub words-f : b ≡ words_of f
    pub room-q : length c ≡ room_of most 0 q
    pub room-r : length d ≡ room_of most most r
    pub says : outcome_reply answer ≡ reply (lowest (D.divide_rows p most a b c d)) []

  pub record GcdCall (F : PrimeField) (p : ℕ) (f g h answer a b c : List ℕ) (found : Result Gcd Refusal) : Type 0 where
    pub good-f : bad_list most f ≡ false
    pub good-g : bad_list most g ≡ false
    pub words-f : a ≡ words_of f
    pub words-g : b ≡ words_of g
    pub room : length c ≡ gcd_room most h answer
    pub says : gcd_reply found ≡ reply (lowest (E.gcd_rows p most a b c)) (gcd_values F a b)

-- what is known of a call, from what both reads and the engine's function promise
module _ {most p : ℕ} where
  pub product-called : {f g out a b c : List ℕ} {n m : ℕ} {answer : Outcome} → (bad_list most f ≡ false) × (bad_list most g ≡ false)
      → (n ≡ word_count f) × (m ≡ word_count g) × (length c ≡ room_of most 0 out) → a ≡ words_into n f → b ≡ words_into m g
      → outcome_reply answer ≡ reply (lowest (P.product_rows p most a b c)) [] → ProductCall most p f g out a b c answer
  product-called good sizes wf wg says =
      record {
        good-f = good.0;
        good-g = good.1;
        words-f = wf ∙ into-exact _ _ sizes.0;
        words-g = wg ∙ into-exact _ _ sizes.1;
        room = sizes.2;
        says = says;
      }

  pub division-called : {g f q r a b c d : List ℕ} {n m : ℕ} {answer : Outcome} → (bad_list most g ≡ false) × (bad_list most f ≡ false)
      → (n ≡ word_count g) × (m ≡ word_count f) × (length c ≡ room_of most 0 q) × (length d ≡ room_of most most r)
      → a ≡ words_into n g → b ≡ words_into m f
      → outcome_reply answer ≡ reply (lowest (D.divide_rows p most a b c d)) [] → DivisionCall most p g f q r a b c d answer
  division-called good sizes wg wf says =
      record {
        good-g = good.0;
        good-f = good.1;
        words-g = wg ∙ into-exact _ _ sizes.0;
        words-f = wf ∙ into-exact _ _ sizes.1;
        room-q = sizes.2;
        room-r = sizes.3;
        says = says;
      }

  pub gcd-called : {F : PrimeField} {f g h answer a b c : List ℕ} {n m : ℕ} {found : Result Gcd Refusal}
      → (bad_list most f ≡ false) × (bad_list most g ≡ false)
      → (n ≡ word_count f) × (m ≡ word_count g) × (length c ≡ gcd_room most h answer) → a ≡ words_into n f → b ≡ words_into m g
      → gcd_reply found ≡ reply (lowest (E.gcd_rows p most a b c)) (gcd_values F a b) → GcdCall most F p f g h answer a b c found
  gcd-called good sizes wf wg says =
      record {
        good-f = good.0;
        good-g = good.1;
        words-f = wf ∙ into-exact _ _ sizes.0;
        words-g = wg ∙ into-exact _ _ sizes.1;
        room = sizes.2;
        says = says;
      }

module _ {most : ℕ} where
  module _ {p : ℕ} {f g out a b c : List ℕ} {answer : Outcome} (call : ProductCall most p f g out a b c answer) where
    product-same : lowest (P.product_rows p most a b c) ≡ lowest (host_product_rows p most f g out)
    product-same =
        ap₂ (λ x y. lowest (P.product_rows p most x y c)) call.words-f call.words-g
        ∙ product-rows most p f g out c call.good-f call.good-g call.room

    product-completes : answer ≡ Ok tt → lowest (host_product_rows p most f g out) ≡ Ok tt
    product-completes d =
        sym product-same ∙ (done-reply (lowest (P.product_rows p most a b c)) [] [] (sym (ap outcome_reply d) ∙ call.says)).0

    pub product-fits : answer ≡ Ok tt → length out ≡ 2 * length c
    product-fits d = rw call.room (product_whole most p f g out (product-completes d))

    pub product-done : answer ≡ Ok tt → (F : PrimeField) {c' out' : List ℕ}
        → c' ≡ written (lowest (P.product_rows p most a b c)) (product F a b) c → out' ≡ bytes_of c'
        → (0 ≡ outcome_number (lowest (host_product_rows p most f g out)))
        × (out' ≡ written (lowest (host_product_rows p most f g out)) (bytes_of (product F (words_of f) (words_of g))) out)
    product-done d F w o = (
      sym (ap outcome_number (product-completes d)),
      wrote (product F (words_of f) (words_of g)) out c product-same (product-completes d)
          (w ∙ ap₂ (λ x y. written (lowest (P.product_rows p most a b c)) (product F x y) c) call.words-f call.words-g) o,
    )

    pub product-refused : {why : Refusal} → answer ≡ Err why → {n : ℕ} → n ≡ number why → (new : List ℕ)
        → (n ≡ outcome_number (lowest (host_product_rows p most f g out))) × (out ≡ written (lowest (host_product_rows p most f g out)) new out)
    product-refused {why} r e new =
        let h = refused-reply why (lowest (P.product_rows p most a b c)) [] (sym (ap outcome_reply r) ∙ call.says) in
        (e ∙ h.0 ∙ ap outcome_number product-same, h.1 new out ∙ ap (λ o. written o new out) product-same)

  module _ {p : ℕ} {g f q r a b c d : List ℕ} {answer : Outcome} (call : DivisionCall most p g f q r a b c d answer) where
    division-same : lowest (D.divide_rows p most a b c d) ≡ lowest (host_division_rows p most g f q r)
    division-same =
        ap₂ (λ x y. lowest (D.divide_rows p most x y c d)) call.words-g call.words-f
        ∙ division-rows most p g f q r call.good-g call.good-f c d call.room-q call.room-r

    division-completes : answer ≡ Ok tt → lowest (host_division_rows p most g f q r) ≡ Ok tt
    division-completes e =
        sym division-same ∙ (done-reply (lowest (D.divide_rows p most a b c d)) [] [] (sym (ap outcome_reply e) ∙ call.says)).0

    pub division-fits : answer ≡ Ok tt → (length q ≡ 2 * length c) × (length r ≡ 2 * length d)
    division-fits e =
        let h = division-whole most p g f q r call.good-g call.good-f (division-completes e) in
        (rw call.room-q h.0, rw call.room-r h.1)

    pub division-done : answer ≡ Ok tt → (F : PrimeField) {c' d' q' r' : List ℕ}
        → c' ≡ written (lowest (D.divide_rows p most a b c d)) (quotient_of F a b) c
        → d' ≡ written (lowest (D.divide_rows p most a b c d)) (remainder_of F a b) d
        → q' ≡ bytes_of c' → r' ≡ bytes_of d'
        → (0 ≡ outcome_number (lowest (host_division_rows p most g f q r)))
        × ((q' ≡ written (lowest (host_division_rows p most g f q r)) (bytes_of (quotient_of F (words_of g) (words_of f))) q)
        × (r' ≡ written (lowest (host_division_rows p most g f q r)) (bytes_of (remainder_of F (words_of g) (words_of f))) r))
    division-done e F wc wd oq or = (
      sym (ap outcome_number (division-completes e)),
      (
        wrote (quotient_of F (words_of g) (words_of f)) q c division-same (division-completes e)
            (wc ∙ ap₂ (λ x y. written (lowest (D.divide_rows p most a b c d)) (quotient_of F x y) c) call.words-g call.words-f) oq,
        wrote (remainder_of F (words_of g) (words_of f)) r d division-same (division-completes e)
            (wd ∙ ap₂ (λ x y. written (lowest (D.divide_rows p most a b c d)) (remainder_of F x y) d) call.words-g call.words-f) or,
      ),
    )

    pub division-refused : {why : Refusal} → answer ≡ Err why → {n : ℕ} → n ≡ number why → (new-q new-r : List ℕ)
        → (n ≡ outcome_number (lowest (host_division_rows p most g f q r))) × ((q ≡ written (lowest (host_division_rows p most g f q r)) new-q q)
        × (r ≡ written (lowest (host_division_rows p most g f q r)) new-r r))
    division-refused {why} w e new-q new-r =
        let h = refused-reply why (lowest (D.divide_rows p most a b c d)) [] (sym (ap outcome_reply w) ∙ call.says) in (
          e ∙ h.0 ∙ ap outcome_number division-same,
          (h.1 new-q q ∙ ap (λ o. written o new-q q) division-same, h.1 new-r r ∙ ap (λ o. written o new-r r) division-same),
        )

  module _ (some : 0 < most) (room : most ≤ max_words) {F : PrimeField} {p : ℕ} {f g h answer a b c : List ℕ} {found : Result Gcd Refusal} (call : GcdCall most F p f g h answer a b c found) where
    gcd-same : lowest (E.gcd_rows p most a b c) ≡ lowest (host_gcd_rows p most f g h answer)
    gcd-same =
        ap₂ (λ x y. lowest (E.gcd_rows p most x y c)) call.words-f call.words-g
        ∙ gcd-rows most p f g h answer some c call.good-f call.good-g call.room

    module _ {gcd : Gcd} (d : found ≡ Ok gcd) where
      told : (lowest (E.gcd_rows p most a b c) ≡ Ok tt) × (gcd.degree.0 ∷ gcd.power.0 ∷ gcd.rounds.0 ∷ [] ≡ gcd_values F a b)
      told = done-reply (lowest (E.gcd_rows p most a b c)) (gcd.degree.0 ∷ gcd.power.0 ∷ gcd.rounds.0 ∷ []) (gcd_values F a b) (sym (ap gcd_reply d) ∙ call.says)

      gcd-completes : lowest (host_gcd_rows p most f g h answer) ≡ Ok tt
      gcd-completes = sym gcd-same ∙ told.0

      pub gcd-fits : (length h ≡ 2 * length c) × (length c ≡ most) × (length answer ≡ 6)
      gcd-fits =
          let e = gcd-whole most p f g h answer gcd-completes in
          let size = call.room in
          let s = both most h answer e.0 e.1 in
          (omega arith, omega arith, e.1)

      pub gcd-small : {c' : List ℕ} → c' ≡ written (lowest (E.gcd_rows p most a b c)) (padded most (gcd_of F a b)) c
          → length c' ≡ length c → Greatest F a b c' found → Small gcd.degree.0 gcd.power.0 gcd.rounds.0
      gcd-small {c'} wc l k =
          small F most room a b c' (rw call.words-f (good-list most f call.good-f).1) (rw call.words-g (good-list most g call.good-g).1) (let s = gcd-fits in omega arith)
          (λ z. (gcd-whole most p f g h answer gcd-completes).2 (sym (ap₂ (λ x y. significant x + significant y) call.words-f call.words-g) ∙ z))
          (rw d at k) told.1

      pub gcd-done : {c' h' answer' : List ℕ} → c' ≡ written (lowest (E.gcd_rows p most a b c)) (padded most (gcd_of F a b)) c
          → h' ≡ bytes_of c' → answer' ≡ bytes_of (gcd.degree.0 ∷ gcd.power.0 ∷ gcd.rounds.0 ∷ [])
          → (0 ≡ outcome_number (lowest (host_gcd_rows p most f g h answer)))
          × ((h' ≡ written (lowest (host_gcd_rows p most f g h answer)) (bytes_of (padded most (gcd_of F (words_of f) (words_of g)))) h)
          × (answer' ≡ written (lowest (host_gcd_rows p most f g h answer)) (bytes_of (gcd_values F (words_of f) (words_of g))) answer))
      gcd-done wc oh oa = (
        sym (ap outcome_number gcd-completes),
        (
          wrote (padded most (gcd_of F (words_of f) (words_of g))) h c gcd-same gcd-completes
              (wc ∙ ap₂ (λ x y. written (lowest (E.gcd_rows p most a b c)) (padded most (gcd_of F x y)) c) call.words-f call.words-g) oh,
          oa ∙ ap bytes_of (told.1 ∙ ap₂ (gcd_values F) call.words-f call.words-g)
              ∙ sym (ap (λ o. written o (bytes_of (gcd_values F (words_of f) (words_of g))) answer) gcd-completes),
        ),
      )

    pub gcd-refused : {why : Refusal} → found ≡ Err why → {n : ℕ} → n ≡ number why → (new-h new-answer : List ℕ)
        → (n ≡ outcome_number (lowest (host_gcd_rows p most f g h answer))) × ((h ≡ written (lowest (host_gcd_rows p most f g h answer)) new-h h)
        × (answer ≡ written (lowest (host_gcd_rows p most f g h answer)) new-answer answer))
    gcd-refused {why} w e new-h new-answer =
        let k = refused-reply why (lowest (E.gcd_rows p most a b c)) (gcd_values F a b) (sym (ap gcd_reply w) ∙ call.says) in (
          e ∙ k.0 ∙ ap outcome_number gcd-same,
          (k.1 new-h h ∙ ap (λ o. written o new-h h) gcd-same, k.1 new-answer answer ∙ ap (λ o. written o new-answer answer) gcd-same),
        )

-- A call of a host that completes: on the words of its bytes, results included, the engine's call is not refused.
--     done-number                                     an answer of 0 is that of a call that completes
--     words_are, bytes-are                            a result whose bytes are those of some words
--     product-judged, division-judged, gcd-judged     of each call
-- Assumes nothing.
use mathlib.Core.Path.{◌≡◌, refl, sym, ◌∙◌, ap}
use mathlib.Core.Bool.{Bool, true, false, ◌||◌}
use mathlib.Core.List.{List}
use Prim.Native.Nat.{ℕ, ◌*◌, ◌/◌, ◌%◌, ◌<◌}
use native.Mathlib.Nat.{div-add-mod', mod-lt}
use native.Mathlib.Omega.{arith}
use lib.Dec.{lit<}
use lib.ListN.{length}
use Rattle.std.specs.Prelude.{Ok, Err}
use Rattle.refusal.specs.Refusal.{outcome_number, Outcome}
use Rattle.refusal.specs.Lowest.{lowest}
use Rattle.refusal.specs.declared.Refusal.TheVariants.{Length}
use Rattle.refusal.proofs.Answers.{number-range}
use Rattle.refusal.proofs.First.{or-false}
use Rattle.lists.specs.Bytes.{word_count, words_of, bytes_of}
use Rattle.lists.proofs.Bytes.{length-words_of, words-of-bytes}
use Rattle.list_product.specs.Calls as P
use Rattle.list_division.specs.Calls as D
use Rattle.list_gcd.specs.Calls as G
use Rattle.list_bytes.specs.Calls.{host_product_rows, host_division_rows, host_gcd_rows}
use Rattle.list_bytes.specs.Internal.{bad_list}
use Rattle.list_bytes.proofs.Fits.{both}
use Rattle.list_bytes.proofs.Rows.{product-bad, product-rows, product_whole, division-bad, division-rows, division-whole, gcd-bad, gcd-rows, gcd-whole}

pub done-number : (o : Outcome) → 0 ≡ outcome_number o → o ≡ Ok tt
done-number (Ok _) e = refl
done-number (Err why) e = absurd (omega (arith, number-range why))

pub words_are : (c : List ℕ) {out : List ℕ} → out ≡ bytes_of c → words_of out ≡ c
words_are c e = ap words_of e ∙ words-of-bytes c

pub bytes-are : (c : List ℕ) {out : List ℕ} → out ≡ bytes_of c → bytes_of (words_of out) ≡ out
bytes-are c e = ap bytes_of (words_are c e) ∙ sym e

words-whole : (s : List ℕ) (n : ℕ) → length s ≡ 2 * n → length (words_of s) ≡ n
unfolding word_count
words-whole s n e =
    let less : 2 * n % 2 < 2 = mod-lt (2 * n) (lit< tt) in
    length-words_of s ∙ ap (λ k. k / 2) e ∙ omega (arith, div-add-mod' (2 * n) 2)

module _ (most : ℕ) where
  good-both : (f g : List ℕ) {o : Outcome} → o ≡ Ok tt → ((bad_list most f || bad_list most g) ≡ true → o ≡ Err Length)
      → (bad_list most f ≡ false) × (bad_list most g ≡ false)
  good-both f g {o} e bad = or-false (bad_list most f) (bad_list most g) (go (bad_list most f || bad_list most g) bad)
    where
      go : (b : Bool) → (b ≡ true → o ≡ Err Length) → b ≡ false
      go true h = let z = ap outcome_number (sym e ∙ h refl) in absurd (omega arith)
      go false h = refl

  pub product-judged : (p : ℕ) (f g out : List ℕ) → lowest (host_product_rows p most f g out) ≡ Ok tt
      → lowest (P.product_rows p most (words_of f) (words_of g) (words_of out)) ≡ Ok tt
  product-judged p f g out e =
      let good = good-both f g e (product-bad most p f g out) in
      product-rows most p f g out (words_of out) good.0 good.1 (words-whole out _ (product_whole most p f g out e)) ∙ e

  pub division-judged : (p : ℕ) (g f q r : List ℕ) → lowest (host_division_rows p most g f q r) ≡ Ok tt
      → lowest (D.divide_rows p most (words_of g) (words_of f) (words_of q) (words_of r)) ≡ Ok tt
  division-judged p g f q r e =
      let good = good-both g f e (division-bad most p g f q r) in
      let whole = division-whole most p g f q r good.0 good.1 e in
      division-rows most p g f q r good.0 good.1 (words_of q) (words_of r) (words-whole q _ whole.0) (words-whole r _ whole.1) ∙ e

  pub gcd-judged : 0 < most → (p : ℕ) (f g h answer : List ℕ) → lowest (host_gcd_rows p most f g h answer) ≡ Ok tt
      → lowest (G.gcd_rows p most (words_of f) (words_of g) (words_of h)) ≡ Ok tt
  gcd-judged some p f g h answer e =
      let good = good-both f g e (gcd-bad most p f g h answer) in
      let whole = gcd-whole most p f g h answer e in
      gcd-rows most p f g h answer some (words_of h) good.0 good.1 (words-whole h most whole.0 ∙ both most h answer whole.0 whole.1) ∙ e

-- What the calls of a C host answer and write implies the demands.
--     product-so, division-so, gcd-so     demand 2 of the product, demand 3 of the division and of the GCD, of the bytes at exit
-- Assumes nothing.
use mathlib.Core.Path.{◌≡◌, sym, ◌∙◌, ap}
use mathlib.Core.List.{List, [], ◌∷◌}
use Prim.Native.Nat.{ℕ, ◌≤◌}
use native.Mathlib.Omega.{arith}
use Rattle.refusal.specs.Limits.{max_words}
use Rattle.refusal.specs.Refusal.{written}
use Rattle.refusal.specs.Lowest.{lowest}
use Rattle.field.specs.Fields.{p, F65521, field_at, longest}
use Rattle.field.proofs.Fields.{longest-in}
use Rattle.lists.specs.Bytes.{words_of, bytes_of}
use Rattle.lists.specs.Degrees.{naive_degree}
use Rattle.lists.specs.Operations.{product}
use Rattle.lists.specs.Padded.{padded}
use Rattle.euclid_theory.specs.Division.{quotient_of, remainder_of}
use Rattle.euclid_theory.specs.Gcd.{gcd_of, rounds_of, common_power}
use Rattle.list_gcd.specs.Calls.{gcd_values}
use Rattle.list_gcd.proofs.Ready.{gcd-ready}
use Rattle.list_gcd.proofs.Finish.{ready-greatest}
use Rattle.statement.proofs.Demand2 as two
use Rattle.statement.proofs.Demand3 as three
use Rattle.statement.specs.Demand2Calls.{HostProductSo}
use Rattle.statement.specs.Demand3Calls.{HostDivisionSo, HostGcdSo}
use Rattle.list_bytes.specs.Calls.{host_product_rows, host_product_answer, host_product_written, host_division_rows, host_division_answer, host_quotient_written, host_remainder_written, host_gcd_rows, host_gcd_answer, host_gcd_written, host_values_written}
use Rattle.list_bytes.proofs.Judged.{done-number, words_are, bytes-are, product-judged, division-judged, gcd-judged}

pub product-so : (f g old : List ℕ) {out : List ℕ} {n : ℕ} → n ≡ host_product_answer 0 f g old → out ≡ host_product_written 0 f g old
    → HostProductSo F65521 f g out n
unfolding field_at longest
product-so f g old e w z =
    let done = done-number (lowest (host_product_rows p max_words f g old)) (sym z ∙ e) in
    let c = product F65521 (words_of f) (words_of g) in
    let is = w ∙ ap (λ o. written o (bytes_of c) old) done in
    (bytes-are c is, rw (words_are c is) ((two.of-engine).of_product (words_of f) (words_of g) (words_of old) (product-judged max_words p f g old done)))

pub division-so : (g f old-q old-r : List ℕ) {q r : List ℕ} {n : ℕ} → n ≡ host_division_answer 0 g f old-q old-r
    → q ≡ host_quotient_written 0 g f old-q old-r → r ≡ host_remainder_written 0 g f old-q old-r → HostDivisionSo F65521 g f q r n
unfolding field_at longest
division-so g f old-q old-r e eq er z =
    let done = done-number (lowest (host_division_rows p max_words g f old-q old-r)) (sym z ∙ e) in
    let q = quotient_of F65521 (words_of g) (words_of f) in
    let r = remainder_of F65521 (words_of g) (words_of f) in
    let q-is = eq ∙ ap (λ o. written o (bytes_of q) old-q) done in
    let r-is = er ∙ ap (λ o. written o (bytes_of r) old-r) done in
    let divides = (three.of-engine).of_division (words_of g) (words_of f) (words_of old-q) (words_of old-r) (division-judged max_words p g f old-q old-r done) in
    (bytes-are q q-is, bytes-are r r-is, rw (words_are q q-is, words_are r r-is) divides)

-- a list has no more words than the field has elements
room : max_words ≤ F65521.p
unfolding longest
room = longest-in 0

pub gcd-so : (f g old-h old-answer : List ℕ) {h answer : List ℕ} {n : ℕ} → n ≡ host_gcd_answer 0 f g old-h old-answer
    → h ≡ host_gcd_written 0 f g old-h old-answer → answer ≡ host_values_written 0 f g old-h old-answer → HostGcdSo F65521 f g h answer n
unfolding field_at longest gcd_values
gcd-so f g old-h old-answer e eh ea z =
    let done = done-number (lowest (host_gcd_rows p max_words f g old-h old-answer)) (sym z ∙ e) in
    let h = padded max_words (gcd_of F65521 (words_of f) (words_of g)) in
    let h_is = eh ∙ ap (λ o. written o (bytes_of h) old-h) done in
    let ready = (gcd-ready F65521 max_words room (words_of f) (words_of g) (words_of old-h) (gcd-judged max_words (omega arith) p f g old-h old-answer done)).0 in
    record {
      w = naive_degree (gcd_of F65521 (words_of f) (words_of g));
      c = common_power (words_of f ∷ words_of g ∷ []);
      rounds = rounds_of F65521 (words_of f) (words_of g);
      answer-is = ea ∙ ap (λ o. written o (bytes_of (gcd_values F65521 (words_of f) (words_of g))) old-answer) done;
      h_is = bytes-are h h_is;
      greatest = rw (words_are h h_is) (ready-greatest F65521 max_words (words_of f) (words_of g) ready);
    }

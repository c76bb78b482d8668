-- The text of a line's value, as the code puts it.
--     Held             a line's value in front of a slice, and the text of it
--     value-held       the call on the line leaves its value so
--     text-refused     the text where the call refuses
--     parts-text       the text of an input, by the parts that are its line and its album
-- Assumes nothing.
use mathlib.Core.Path.{◌≡◌, refl, sym, ◌∙◌, ap, ap₂}
use mathlib.Core.List.{List, [], ◌∷◌, map}
use Prim.Native.Nat.{ℕ, ◌+◌, ◌-◌, ◌*◌, ◌≤◌, min}
use native.Mathlib.Omega.{arith}
use lib.ListN.{length, get_or, take, drop, replicate, length-drop, length-replicate}
use lib.Seq.{take_all, take_at}
use Rattle.std.specs.Prelude.{Ok, Err, Result}
use Rattle.refusal.specs.Limits.{max_words}
use Rattle.refusal.specs.Refusal.{reply, written, Outcome}
use Rattle.refusal.specs.declared.Refusal.{Refusal}
use Rattle.refusal.proofs.Answers.{done-reply}
use Rattle.field.specs.Fields.{field_at, longest}
use Rattle.field.proofs.Fields.{modulus-high, longest-room}
use Rattle.lists.specs.Degrees.{naive_degree}
use Rattle.lists.specs.Padded.{padded}
use Rattle.lists.specs.declared.NaiveDegree.{NaiveDegree}
use Rattle.lists.proofs.Padded.{length-padded}
use Rattle.lists.proofs.Scaled.{length-naive}
use Rattle.album_reader.specs.Calls.{listed_reply}
use Rattle.line_values.specs.Values.{Valued}
use Rattle.line_values.proofs.Judging.{line-listed}
use Rattle.line_values.specs.Calls.{line_rows, line_value, list_in, line_outcome, line_answer, line_written}
use Rattle.report_text.specs.Text.{decimal, line}
use Rattle.report_text.specs.Report.{⟨refused⟩, refused_line}
use Rattle.report_text.proofs.Fits.{words-fit}
use Rattle.line_text.specs.Calls.{line_of, text_for, value_text, line_text}
use Rattle.line_text.proofs.Parts.{line-is, album-is}

-- the value of the line l over the album s lies in front of a slice, and n is its naive degree
pub record Held (k : ℕ) (s l slice : List ℕ) (n : ℕ) : Type 0 where
  pub list : take (n + 1) slice ≡ list_in (line_value (field_at k) (longest k) s l)
  pub size : length (list_in (line_value (field_at k) (longest k) s l)) ≡ n + 1
  pub short : n + 1 ≤ max_words
  pub inside : n + 1 ≤ length slice
  pub text : value_text k s l ≡ line (map decimal (take (n + 1) slice))
  pub fits : length (line (map decimal (take (n + 1) slice))) ≤ 6 * max_words

module _ (k : ℕ) (s l old : List ℕ) where
  abbrev v : Valued
  v = line_value (field_at k) (longest k) s l

  -- the outcome asks nothing of the slice but its length
  module _ (fits : length old ≡ longest k) where
    outcome-is : line_outcome k s l old ≡ line_outcome k s l (replicate (longest k) 0)
    unfolding line_rows
    outcome-is = rw (fits, length-replicate {A = ℕ} (longest k) 0)

    text-is : {o : Outcome} → line_outcome k s l old ≡ o → value_text k s l ≡ text_for o (list_in v)
    unfolding value_text
    text-is e = ap (λ o. text_for o (list_in v)) (sym outcome-is ∙ e)

    pub value-held : {r : (Result NaiveDegree Refusal)} {n : NaiveDegree} {new : List ℕ} → r ≡ Ok n → listed_reply r ≡ line_answer k s l old
        → new ≡ line_written k s l old → Held k s l new n.0
    unfolding padded
    value-held {r} {n} {new} i a w =
        let d = done-reply (line_outcome k s l old) (n.0 ∷ []) (naive_degree (list_in v) ∷ []) (ap listed_reply (sym i) ∙ a) in
        let ok = line-listed k s l old d.0 in
        let degree : n.0 ≡ naive_degree (list_in v) = ap (λ (t : List ℕ). get_or t 0 0) d.1 in
        let size : length (list_in v) ≡ n.0 + 1 = omega (arith, length-naive (list_in v) ok.some) in
        let is : new ≡ padded (longest k) (list_in v) = w ∙ ap (λ o. written o (padded (longest k) (list_in v)) old) d.0 in
        let front : take (n.0 + 1) new ≡ list_in v = ap (take (n.0 + 1)) is ∙ take_at (list_in v) _ (n.0 + 1) size in
        let most : n.0 + 1 ≤ max_words = omega (arith, ok.short, longest-room k) in
        let room = words-fit (list_in v) ok.some (λ j. omega (arith, ok.words j, modulus-high k)) in
        record {
          list = front;
          size = size;
          short = most;
          inside = omega (arith, ap length is, length-padded (longest k) (list_in v) ok.short, ok.short);
          text = text-is d.0 ∙ ap (λ c. line (map decimal c)) (sym front);
          fits = omega (arith, ap (λ c. length (line (map decimal c))) front);
        }

    refused-so : (why : Refusal) (o : Outcome) (m : ℕ) → line_outcome k s l old ≡ o → reply (Err why) [] ≡ reply o (m ∷ [])
        → value_text k s l ≡ refused_line why
    unfolding refused_line
    refused-so why (Ok _) m q e = absurd (let n = ap (λ x. length x.values) e in omega arith)
    refused-so why (Err other) m q e =
        text-is q ∙ ap (λ n. line (⟨refused⟩ ∷ decimal n ∷ [])) (sym (ap (λ x. x.number) e))

    pub text-refused : {r : (Result NaiveDegree Refusal)} {why : Refusal} → r ≡ Err why → listed_reply r ≡ line_answer k s l old
        → refused_line why ≡ value_text k s l
    text-refused {why = why} i a = sym (refused-so why (line_outcome k s l old) (naive_degree (list_in v)) refl (ap listed_reply (sym i) ∙ a))

-- the line and the album of an input; the album as the part from its start to the input's end
pub parts-text : (k : ℕ) (input : List ℕ) {end start : ℕ} → end ≡ length (line_of input) → start ≡ min (end + 1) (length input)
    → value_text k (take (length input - start) (drop start input)) (take end input) ≡ line_text k input
unfolding line_text
parts-text k input {end} {start} e q =
    let rest = take_all (length input - start) (drop start input) (simp length-drop (omega arith)) in
    ap₂ (value_text k) (rest ∙ album-is input e q) (line-is input e)

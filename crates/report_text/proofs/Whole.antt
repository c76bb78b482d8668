-- The whole report: the room of its parts, and what the call answers.
-- Assumes nothing.
use mathlib.Core.Path.{◌≡◌, refl, sym, ◌∙◌, ap, ap₂}
use mathlib.Core.List.{List, [], ◌∷◌, ◌++◌}
use Prim.Native.Nat.{ℕ, ◌+◌, ◌*◌, ◌≤◌}
use native.Mathlib.Omega.{arith}
use lib.ListN.{length, get_or, take, drop, length-append, length-drop}
use lib.Seq.{take-append_seam}
use borrow.Author.Tests.{eq-eqb, ne_eqb}
use Rattle.std.specs.Prelude.{Ok, Err, Result}
use Rattle.algebra.specs.PrimeField.{PrimeField}
use Rattle.refusal.specs.Limits.{max_lists, max_words}
use Rattle.refusal.specs.Refusal.{reply, written, Outcome}
use Rattle.refusal.specs.Lowest.{lower, lowest}
use Rattle.refusal.specs.declared.Refusal.{Refusal}
use Rattle.refusal.specs.declared.Refusal.TheVariants.{Misfit}
use Rattle.lists.specs.Padded.{padded}
use Rattle.lists.proofs.Padded.{padded-inside}
use Rattle.album_layout.specs.Layout.{count, lists_of}
use Rattle.album_layout.specs.Calls.{album_refusals}
use Rattle.album_layout.specs.Internal.{Passed}
use Rattle.album_layout.proofs.Places.{length-lists}
use Rattle.album_layout.proofs.Passed.{passed-obeys, passed-each}
use Rattle.report_text.specs.Text.{decimal, line}
use Rattle.report_text.specs.Report.{⟨lists⟩, list_lines, refused_line, sound_report, report_of}
use Rattle.report_text.specs.Calls.{max_text, report_rows, text_reply}
use Rattle.report_text.specs.Internal.{Room, Put, max_answer, answer_lines}
use Rattle.report_text.proofs.Puts.{put_is, put_then}
use Rattle.report_text.proofs.Fits.{named-fits, lines_fit}
use Rattle.report_text.proofs.Sound.{sound-lines}

module _ (p : ℕ) (s : List ℕ) (e : Passed p s) where
  abbrev first : List ℕ
  first = line (⟨lists⟩ ∷ decimal (count s) ∷ [])

  first_fits : length first ≤ 12
  first_fits = let few = (passed-obeys p s e).few in named-fits ⟨lists⟩ (count s) (omega arith)

  lists-fit : length (list_lines 0 (lists_of s)) ≤ 24 * max_lists
  lists-fit =
      let few = (passed-obeys p s e).few in
      let n = length-lists s in
      let fits = lines_fit (lists_of s) 0 (omega arith) (λ j l. let h = (passed-each p s e max_words (omega arith) j l).short in omega arith) in
      omega arith

  module _ {at : ℕ} {a : List ℕ} (z : at ≡ 0) (q : length a ≡ max_text) where
    pub first-room : Room first at a
    first-room = record { fits = omega (arith, first_fits) }

    module _ {b : List ℕ} {k : ℕ} (x : Put first at a b k) where
      pub lists-room : Room (list_lines 0 (lists_of s)) k b
      lists-room = record { fits = omega (arith, first_fits, lists-fit, x.next, x.same) }

      pub answer-room : {c : List ℕ} {r : ℕ} → Put (list_lines 0 (lists_of s)) k b c r → r + max_answer ≤ length c
      answer-room y = omega (arith, first_fits, lists-fit, x.next, x.same, y.next, y.same)

pub put-whole-report : (F : PrimeField) (s : List ℕ) {a b c d : List ℕ} {at k l r : ℕ} → Put (line (⟨lists⟩ ∷ decimal (count s) ∷ [])) at a b k
    → Put (list_lines 0 (lists_of s)) k b c l → Put (answer_lines F (lists_of s)) l c d r → Put (sound_report F (lists_of s)) at a d r
put-whole-report F s x y z =
    put_is
    (ap (λ n. line (⟨lists⟩ ∷ decimal n ∷ []) ++ (list_lines 0 (lists_of s) ++ answer_lines F (lists_of s))) (sym (length-lists s))
    ∙ sym (sound-lines F (lists_of s)))
    refl
    (put_then x (put_then y z))

module _ (p : ℕ) (F : PrimeField) (s : List ℕ) where
  pub report-refused : {why : Refusal} → lowest (album_refusals p s) ≡ Err why → refused_line why ≡ report_of p F s
  unfolding report_of
  report-refused e = sym (rw e)

  pub report-sound : Passed p s → sound_report F (lists_of s) ≡ report_of p F s
  unfolding report_of
  report-sound e = sym (rw e)

module _ (out : List ℕ) where
  report-misfit : ¬ (length out ≡ max_text) → lowest (report_rows out) ≡ Err Misfit
  unfolding report_rows lowest lower
  report-misfit f = rw (ne_eqb (length out) max_text f)

  report-done : length out ≡ max_text → lowest (report_rows out) ≡ Ok tt
  unfolding report_rows lowest lower
  report-done e = rw (eq-eqb (length out) max_text e)

-- what the call answers and leaves: nothing where the slice does not fit
pub misfit : (t a : List ℕ) → ¬ (length a ≡ max_text)
    → (text_reply (Err Misfit) ≡ reply (lowest (report_rows a)) (length t ∷ [])) × (a ≡ written (lowest (report_rows a)) (padded max_text t) a)
misfit t a f = rw (report-misfit a f) (refl, refl)

-- and where the text t of a page is copied to the front, and zeros follow it
pub shown : (a : List ℕ) {t b c d e : List ℕ} {r : ℕ} → length a ≡ max_text → Put t 0 b c r → r ≤ max_text → d ≡ take r c
    → e ≡ padded (length (d ++ drop r a)) (take r (d ++ drop r a))
    → (text_reply (Ok r) ≡ reply (lowest (report_rows a)) (length t ∷ [])) × (e ≡ written (lowest (report_rows a)) (padded max_text t) a)
shown a {t} {b} {c} {d} {e} {r} q x l f g =
    let n : r ≡ length t = omega (arith, x.next) in
    let text : d ≡ t = f ∙ x.bytes in
    let front : take r (d ++ drop r a) ≡ t =
    ap (λ k. take k (d ++ drop r a)) (n ∙ ap length (sym text)) ∙ take-append_seam d (drop r a) ∙ text in
    let size : length (d ++ drop r a) ≡ max_text = simp (length-append, length-drop) (omega (arith, ap length text)) in
    rw (report-done a q) (ap (λ k. text_reply (Ok k)) n, g ∙ ap₂ padded size front)

-- for a caller: the text that an answer names lies in the slice
inside-so : (t a : List ℕ) (o : Outcome) {c : List ℕ} {k : ℕ} → text_reply (Ok k) ≡ reply o (length t ∷ [])
    → c ≡ written o (padded max_text t) a → k ≤ length c
inside-so t a (Ok _) {c} {k} e z =
    let n : k ≡ length t = ap (λ v. get_or v.values 0 0) e in
    omega (arith, ap length z, padded-inside max_text t)
inside-so t a (Err why) {c} {k} e z =
    absurd (let n = ap (λ v. length v.values) e in omega arith)

pub text-inside : (t a : List ℕ) {c : List ℕ} {k : ℕ} {r : Result ℕ Refusal} → r ≡ Ok k → text_reply r ≡ reply (lowest (report_rows a)) (length t ∷ [])
    → c ≡ written (lowest (report_rows a)) (padded max_text t) a → k ≤ length c
text-inside t a i e z = inside-so t a (lowest (report_rows a)) (ap text_reply (sym i) ∙ e) z

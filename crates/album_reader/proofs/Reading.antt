-- What reading a list leaves in the slice, and how many words it finds.
-- Assumes nothing.
use mathlib.Core.Path.{◌≡◌, refl, sym, ◌∙◌, ap}
use mathlib.Core.List.{List, [], ◌∷◌}
use Prim.Native.Nat.{ℕ, ◌+◌, ◌-◌, ◌/◌, ◌≤◌, ◌<◌}
use native.Mathlib.Omega.{arith}
use lib.ListN.{length}
use borrow.Author.Tests.{lt-ltb, le-ltb}
use Rattle.std.specs.Prelude.{Ok, Err}
use Rattle.refusal.specs.Refusal.{number}
use Rattle.refusal.specs.Lowest.{lowest}
use Rattle.refusal.specs.declared.Refusal.{Refusal}
use Rattle.refusal.specs.declared.Refusal.TheVariants.{Misfit}
use Rattle.field.specs.Fields.{modulus, longest}
use Rattle.field.proofs.Fields.{longest-full}
use Rattle.lists.specs.Padded.{padded}
use Rattle.refusal.specs.Limits.{max_words}
use Rattle.lists.specs.Bytes.{Bytes, word_count, words_of}
use Rattle.lists.proofs.Bytes.{length-words_of, words-of-bytes}
use Rattle.words.specs.Transfer.{words_into}
use Rattle.words.proofs.Transfer.{into-padded}
use Rattle.album_layout.specs.Layout.{count, degree_at, nth_list}
use Rattle.album_layout.specs.Calls.{check_refusals}
use Rattle.album_layout.specs.Internal.{Obeys, body_at}
use Rattle.album_layout.proofs.Places.{length-list}
use Rattle.album_layout.proofs.Judged.{call-fine}
use Rattle.album_layout.proofs.Bodies.{body_bytes}
use Rattle.album_reader.specs.Calls.{read_answer, read_written}
use Rattle.album_reader.specs.Internal.{words_read, left_at}
use Rattle.album_reader.proofs.Judged.{read-refused, read-misfit, read_done}

-- the body b of entry i, as the code takes it
module _ (s : List ℕ) (i : ℕ) (out : List ℕ) {b : List ℕ} (e : b ≡ body_at s i) where
  count-is : length b / 2 ≡ word_count (body_at s i)
  unfolding word_count
  count-is = ap (λ l. length l / 2) e

  pub at-short : length out < length b / 2 → (0 ≡ words_read s i out) × (out ≡ left_at s i out)
  unfolding words_read left_at
  at-short l = rw (lt-ltb (length out) (word_count (body_at s i)) (omega (arith, count-is))) (refl, refl)

  pub at-fits : {out' : List ℕ} → length b / 2 ≤ length out → out' ≡ words_into (length out) b
      → (length b / 2 ≡ words_read s i out) × (out' ≡ left_at s i out)
  unfolding words_read left_at
  at-fits {out'} l w =
      let few : word_count (body_at s i) ≤ length out = omega (arith, count-is) in
      rw (le-ltb (length out) (word_count (body_at s i)) few)
      (count-is, w ∙ ap (words_into (length out)) e ∙ into-padded (body_at s i) (length out) few)

-- list i of an album that obeys its layout
module _ (s : List ℕ) (i : ℕ) (out : List ℕ) (o : Obeys s) (l : i < count s) (bytes : Bytes s) where
  body-words : words_of (body_at s i) ≡ nth_list s i
  body-words = ap words_of (body_bytes s i o l bytes) ∙ words-of-bytes (nth_list s i)

  body-count : word_count (body_at s i) ≡ length (nth_list s i)
  body-count = sym (length-words_of (body_at s i)) ∙ ap length body-words

  pub at_listed : max_words ≤ length out → (words_read s i out ≡ length (nth_list s i)) × (left_at s i out ≡ padded (length out) (nth_list s i))
  unfolding words_read left_at
  at_listed room =
      rw (le-ltb (length out) (word_count (body_at s i)) (omega (arith, body-count, length-list s i, o.short i l)))
      (body-count, ap (padded (length out)) body-words)

-- what the call answers and leaves in the slice
module _ (k : ℕ) (s : List ℕ) (i : ℕ) (out : List ℕ) where
  pub said-refused : {why : Refusal} → lowest (check_refusals (modulus k) s i) ≡ Err why
      → (record { number = number why; values = [] } ≡ read_answer k s i out) × (out ≡ read_written k s i out)
  said-refused e = rw (read-refused (modulus k) (longest k) s i out e) (refl, refl)

  module _ (e : lowest (check_refusals (modulus k) s i) ≡ Ok tt) where
    pub said-misfit : ¬ (length out ≡ longest k)
        → (record { number = number Misfit; values = [] } ≡ read_answer k s i out) × (out ≡ read_written k s i out)
    said-misfit f = rw (read-misfit (modulus k) (longest k) s i out e f) (refl, refl)

    module _ (q : length out ≡ longest k) (bytes : Bytes s) where
      found : (words_read s i out ≡ length (nth_list s i)) × (left_at s i out ≡ padded (length out) (nth_list s i))
      found =
          let fine = call-fine (modulus k) s i e in
          at_listed s i out fine.0 fine.1 bytes (omega (arith, longest-full k))

      pub said-words : words_read s i out ≡ degree_at s i + 1
      said-words = found.0 ∙ length-list s i

      pub said-done : {n : ℕ} {out' : List ℕ} → n ≡ words_read s i out → out' ≡ left_at s i out
          → (record { number = 0; values = (n - 1) ∷ [] } ≡ read_answer k s i out) × (out' ≡ read_written k s i out)
      said-done {n} {out'} a w =
          let degree : n - 1 ≡ degree_at s i = omega (arith, said-words) in
          rw (read_done (modulus k) (longest k) s i out e q)
          (ap (λ d. record { number = 0; values = d ∷ [] }) degree, w ∙ found.1 ∙ ap (λ m. padded m (nth_list s i)) q)

-- An album written and then read, and read and then written.
-- Theorems:
--     written-then-read     what `write_album` writes is read back
--     read-then-written     an album that the reader accepts is written again, byte for byte
-- Assumes nothing.
use mathlib.Core.Path.{◌≡◌, refl, sym, ◌∙◌, ap, ap₂}
use mathlib.Core.List.{List, [], ◌∷◌, map}
use Prim.Native.Nat.{ℕ, zero, suc, ◌≤◌, ◌<◌}
use native.Mathlib.Omega.{arith}
use lib.ListN.{length, get_or, take}
use Rattle.std.specs.Prelude.{Ok}
use Rattle.refusal.specs.Limits.{max_words, max_bytes}
use Rattle.refusal.specs.Refusal.{reply, written}
use Rattle.refusal.specs.Lowest.{lowest}
use Rattle.refusal.proofs.Answers.{done-reply}
use Rattle.field.specs.Fields.{p, F65521, field_at, longest}
use Rattle.lists.specs.Bytes.{Bytes}
use Rattle.lists.specs.Degrees.{naive_degree}
use Rattle.lists.specs.Padded.{padded}
use Rattle.album_layout.specs.Layout.{count, degree_at, nth_list, lists_of}
use Rattle.album_layout.specs.Calls.{check_refusals, check_answer}
use Rattle.album_layout.proofs.Places.{length-lists}
use Rattle.album_reader.proofs.Judged.{read_done}
use Rattle.album_writer.specs.Cut.{cut_by, joined}
use Rattle.album_writer.specs.Calls.{write_answer, write_written}
use Rattle.album_writer.proofs.Cut.{length_cut}
use Rattle.statement.specs.Contained.{Contained}
use Rattle.statement.specs.Demand2Calls.{Holds}
use Rattle.statement.specs.RoundTrip.{ReadBack, WrittenAgain}
use Rattle.statement.proofs.Demand2Albums.{held-fine, contained, checked-fine, holds}
use Rattle.statement.proofs.Demand2Writer.{written-again, write-so}

-- ---- written, then read
degree-at : (lists : List (List ℕ)) (i : ℕ) → i < length lists → naive_degree (get_or lists i []) ≡ get_or (map naive_degree lists) i 0
degree-at [] i l = absurd (omega arith)
degree-at (c ∷ lists) zero l = refl
degree-at (c ∷ lists) (suc i) l = degree-at lists i (omega arith)

module _ (words degrees s : List ℕ) (h : Holds F65521 s (cut_by degrees words)) (same : map naive_degree (cut_by degrees words) ≡ degrees) where
  lists : lists_of s ≡ cut_by degrees words
  lists = (held-fine s (cut_by degrees words) h).0

  held : Contained F65521 s (lists_of s)
  held = let f = held-fine s (cut_by degrees words) h in contained s f.1 f.2

  number : count s ≡ length degrees
  number = sym (length-lists s) ∙ ap length lists ∙ length_cut degrees words

  module _ (i : ℕ) (l : i < length degrees) where
    inside : i < count s
    inside = omega (arith, number)

    checked : lowest (check_refusals p s i) ≡ Ok tt
    unfolding field_at
    checked = held.passes i inside

    degree : degree_at s i ≡ get_or degrees i 0
    degree =
        held.degree i inside ∙ ap (λ x. naive_degree (get_or x i [])) lists
        ∙ degree-at (cut_by degrees words) i (omega (arith, length_cut degrees words)) ∙ ap (λ x. get_or x i 0) same

    list : nth_list s i ≡ get_or (cut_by degrees words) i []
    list = held.words i inside ∙ ap (λ x. get_or x i []) lists

  read_back : (size : ℕ) → length s ≡ size → ReadBack words degrees s size
  unfolding longest
  read_back size e =
      record {
        lists = lists;
        number = number;
        checked = λ i l. ap (λ o. reply o []) (checked i l);
        degree = λ i l out q. ap₂ (λ o n. reply o (n ∷ [])) (read_done p max_words s i out (checked i l) q) (degree i l);
        read = λ i l out q. ap₂ (λ o c. written o (padded max_words c) out) (read_done p max_words s i out (checked i l) q) (list i l);
        whole = e;
      }

pub written-then-read : (words degrees out : List ℕ) (n : ℕ) → write_answer 0 words degrees out ≡ reply (Ok tt) (n ∷ [])
    → ReadBack words degrees (take n (write_written 0 words degrees out)) n
written-then-read words degrees out n e =
    let w = (write-so words degrees out refl refl).writes n e in
    read_back words degrees _ w.album w.all_degrees n (sym (ap length w.album.album) ∙ sym w.size)

-- ---- read, then written
pub read-then-written : (s out : List ℕ) (i : ℕ) → Bytes s → check_answer 0 s i ≡ reply (Ok tt) [] → max_bytes ≤ length out → WrittenAgain s out
read-then-written s out i bytes e room =
    let d = (done-reply (lowest (check_refusals p s i)) [] [] (sym e)).0 in
    let f = (checked-fine s i d).0 in
    let w = written-again (joined (lists_of s)) (map naive_degree (lists_of s)) out refl refl s (lists_of s) (holds s bytes f) refl refl room in
    record { answer = w.0; bytes = w.1 }

-- A list that a slice holds, and what reading a list of an album that passed gives: the slice holds it.
-- Assumes nothing.
use mathlib.Core.Path.{◌≡◌, sym, ◌∙◌, ap}
use mathlib.Core.List.{List}
use Prim.Native.Nat.{ℕ, ◌≤◌, ◌<◌}
use native.Mathlib.Omega.{arith}
use lib.ListN.{length, take}
use lib.Seq.{take_at}
use Rattle.refusal.specs.Limits.{max_words}
use Rattle.lists.specs.Bytes.{Bytes}
use Rattle.lists.specs.Padded.{padded}
use Rattle.lists.proofs.Padded.{length-padded}
use Rattle.album_layout.specs.Layout.{count, nth_list}
use Rattle.album_layout.specs.Internal.{Passed}
use Rattle.album_layout.proofs.Places.{length-list}
use Rattle.album_layout.proofs.Passed.{passed-obeys, passed-listed}
use Rattle.album_reader.specs.Internal.{words_read, left_at, Held}
use Rattle.album_reader.proofs.Reading.{at_listed}

pub held-take : {p most n : ℕ} {x c : List ℕ} → Held p most x n c → take n x ≡ c
unfolding padded
held-take {p} {most} {n} {x} {c} h = ap (take n) h.slice ∙ take_at c _ n (sym h.words)

pub held-length : {p most n : ℕ} {x c : List ℕ} → Held p most x n c → length x ≡ most
held-length {p} {most} {n} {x} {c} h = ap length h.slice ∙ length-padded most c h.listed.short

-- its words as a part of the slice
pub held-inside : {p most n : ℕ} {x c : List ℕ} → Held p most x n c → n ≤ length x
held-inside h = omega (arith, held-length h, h.words, h.listed.short)

pub held-count : {p most n : ℕ} {x c : List ℕ} → Held p most x n c → n ≡ length (take n x)
held-count h = h.words ∙ ap length (sym (held-take h))

pub held-again : {p most n : ℕ} {x c : List ℕ} → Held p most x n c → Held p most x n (take n x)
held-again h = rw (held-take h) h

-- the slice is out before the call of `read_at` and out' afterwards, and n is its answer: the last two facts are its contract
pub read_held : (p most : ℕ) (s : List ℕ) (i : ℕ) (out : List ℕ) {out' : List ℕ} {n : ℕ} → Passed p s → Bytes s → i < count s
    → length out ≡ most → max_words ≤ most → n ≡ words_read s i out → out' ≡ left_at s i out → Held p most out' n (nth_list s i)
read_held p most s i out {out'} {n} e bytes l q room a w =
    record {
      listed = passed-listed p s e most i l (omega (arith, length-list s i, (passed-obeys p s e).short i l));
      words = a ∙ found.0;
      slice = w ∙ found.1 ∙ ap (λ m. padded m (nth_list s i)) q;
    }
  where
    found : (words_read s i out ≡ length (nth_list s i)) × (left_at s i out ≡ padded (length out) (nth_list s i))
    found = at_listed s i out (passed-obeys p s e) l bytes (omega arith)

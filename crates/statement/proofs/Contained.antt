-- An album of bytes that obeys the layout and has no loose word: its lists are handed out.
--     contained     check, read_list, body and contents hand out the lists of such an album
-- Assumes nothing.
use mathlib.Core.Path.{◌≡◌, sym, ◌∙◌, ap, ap₂}
use mathlib.Core.Bool.{false}
use mathlib.Core.List.{List, []}
use Prim.Native.Nat.{ℕ, zero, suc, ◌+◌, ◌*◌, ◌≤◌, ◌<◌}
use native.Mathlib.Nat.{zero-add}
use native.Mathlib.Omega.{arith}
use lib.ListN.{length, get_or, take, drop}
use borrow.Author.Tests.{lt-ltb, le-ltb}
use Rattle.algebra.specs.PrimeField.{PrimeField}
use Rattle.refusal.specs.Limits.{max_lists}
use Rattle.lists.specs.Bytes.{Bytes, bytes_of}
use Rattle.lists.proofs.Bytes.{length-bytes_of}
use Rattle.lists.specs.Degrees.{naive_degree}
use Rattle.lists.specs.Refused.{has_loose, any_of}
use Rattle.album_layout.specs.Layout.{count, degree_at, start_at, wrong_count, broken_layout, lists_of}
use Rattle.album_layout.proofs.Reading.{album-is-read}
use Rattle.album_layout.proofs.Whole.{body-whole}
use Rattle.album_layout.proofs.Places.{length-list, length-lists, list_at, obeys}
use Rattle.album_contents.specs.Calls.{record_at, records_from}
use Rattle.statement.specs.Contained.{none, entry_of, Contained}

records-at : (s : List ℕ) (n k i : ℕ) → i < n → get_or (records_from s k n) i none ≡ record_at s (k + i)
unfolding records_from
records-at s zero k i l = absurd (omega arith)
records-at s (suc n) k zero l = let e : k ≡ k + 0 = omega arith in ap (record_at s) e
records-at s (suc n) k (suc i) l = let e : suc k + i ≡ k + suc i = omega arith in records-at s n (suc k) i (omega arith) ∙ ap (record_at s) e

module _ (F : PrimeField) where
  module _ (s : List ℕ) (bytes : Bytes s) (counted : wrong_count max_lists s ≡ false) (laid : broken_layout s ≡ false) where
    record_is : (i : ℕ) → i < count s → entry_of s i ≡ record { offset = start_at s i; degree = degree_at s i }
    unfolding record_at
    record_is i l =
        let o = obeys s counted laid in
        records-at s max_lists 0 i (omega (arith, o.few)) ∙ ap (record_at s) (zero-add i)
        ∙ simp (lt-ltb i (count s) l, o.placed i l)

    record-none : (i : ℕ) → count s ≤ i → i < max_lists → entry_of s i ≡ none
    unfolding record_at
    record-none i l m = records-at s max_lists 0 i m ∙ ap (record_at s) (zero-add i) ∙ simp (le-ltb i (count s) l)

    degree-of : (i : ℕ) → i < count s → degree_at s i ≡ naive_degree (get_or (lists_of s) i [])
    unfolding naive_degree
    degree-of i l = omega (arith, length-list s i, ap length (list_at s i l))

    part : (i : ℕ) → i < count s → take (2 * (degree_at s i + 1)) (drop (start_at s i) s) ≡ bytes_of (get_or (lists_of s) i [])
    part i l = body-whole s bytes counted laid i l ∙ ap bytes_of (sym (list_at s i l))

    size : (i : ℕ) → i < count s → length (bytes_of (get_or (lists_of s) i [])) ≡ 2 * (degree_at s i + 1)
    size i l = length-bytes_of (get_or (lists_of s) i []) ∙ ap (λ n. 2 * n) (ap length (list_at s i l) ∙ length-list s i)

    pub contained : any_of (has_loose F.p) (lists_of s) ≡ false → Contained F s (lists_of s)
    contained tight =
        record {
          number = length-lists s;
          passes = album-is-read s counted laid F.p tight;
          words = λ i l. sym (list_at s i l);
          degree = degree-of;
          bytes = part;
          records =
              λ i l. (
                ap (λ e. e.degree) (record_is i l) ∙ degree-of i l,
                ap₂ (λ n at. take n (drop at s)) (size i l) (ap (λ e. e.offset) (record_is i l)) ∙ part i l,
              );
          zeros = record-none;
        }

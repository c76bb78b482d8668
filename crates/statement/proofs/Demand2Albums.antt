-- The calls on an album: their contracts imply what demand 2 says of them.
--     read-so, body-so     of read_list and body
--     fine-passes          an album that obeys the layout and has no loose word is not refused
--     held-fine            the album of lists without a loose word obeys the layout and reads as these lists
--     contents-so          of contents, whose slice is of structs: the two clauses of its contract imply it
-- Assumes nothing.
use mathlib.Core.Path.{◌≡◌, refl, sym, ◌∙◌, ap, ap₂, subst}
use mathlib.Core.Bool.{false, ◌||◌}
use mathlib.Core.List.{List, [], ◌∷◌}
use Prim.Native.Nat.{ℕ, zero, suc, ◌+◌, ◌*◌, ◌<◌}
use native.Mathlib.Decide.{dec_lt}
use native.Mathlib.Omega.{arith}
use lib.Dec.{leb}
use lib.ListN.{length, get_or, take, drop, get_or-eq_default}
use borrow.Author.Tests.{leb-false, eq-eqb}
use Rattle.std.specs.Prelude.{Ok}
use Rattle.refusal.specs.Limits.{max_lists, max_words}
use Rattle.refusal.specs.Refusal.{Reply, reply, written}
use Rattle.refusal.specs.Lowest.{lowest}
use Rattle.refusal.proofs.First.{first-is, first_then, refuse-done, or-else-done}
use Rattle.field.specs.Fields.{p, F65521, field_at, longest}
use Rattle.field.proofs.Fields.{modulus-high, modulus-some}
use Rattle.lists.specs.Bytes.{Bytes, bytes_of}
use Rattle.lists.specs.Refused.{has_loose, any_of}
use Rattle.lists.proofs.Search.{tight}
use Rattle.lists.specs.Padded.{padded}
use Rattle.album_layout.specs.Layout.{count, degree_at, start_at, wrong_count, broken_layout, nth_list, lists_of}
use Rattle.album_layout.specs.Calls.{album_refusals, check_refusals, body_of}
use Rattle.album_layout.specs.Internal.{Passed}
use Rattle.album_layout.proofs.Places.{length-lists}
use Rattle.album_layout.specs.Written.{Writable}
use Rattle.album_layout.proofs.Passed.{passed-obeys, passed-each}
use Rattle.album_reader.specs.Calls.{read_rows, read_answer, read_written}
use Rattle.album_reader.proofs.Judged.{read_done}
use Rattle.album_contents.specs.Calls.{records_from, contents_rows, filled, contents_answer, contents_written}
use Rattle.album_contents.specs.declared.Entry.{Entry}
use Rattle.refusal.proofs.Answers.{done-reply}
use Rattle.statement.specs.Contained.{Contained}
use Rattle.statement.proofs.Demand2.{of-engine}
use Rattle.statement.specs.Demand2Calls.{Holds, Handed, ReadSo, BodySo, Entries, ContentsSo}

-- no word is loose, list by list
pub no-loose : (n : ℕ) (lists : List (List ℕ)) → ((k j : ℕ) → get_or (get_or lists k []) j 0 < n) → any_of (has_loose n) lists ≡ false
no-loose n [] h = refl
no-loose n (c ∷ lists) h = ap₂ (λ a b. a || b) (tight n c (h 0)) (no-loose n lists (λ k. h (suc k)))

-- an album that obeys the layout and has no loose word
pub record Fine (s : List ℕ) : Type 0 where
  pub counted : wrong_count max_lists s ≡ false
  pub laid : broken_layout s ≡ false
  pub tight : any_of (has_loose p) (lists_of s) ≡ false

pub fine-passes : (s : List ℕ) → Fine s → Passed p s
unfolding lowest album_refusals
fine-passes s f = simp (f.counted, f.laid, f.tight)

pub checked-fine : (s : List ℕ) (i : ℕ) → lowest (check_refusals p s i) ≡ Ok tt → Fine s × (i < count s)
unfolding check_refusals
checked-fine s i e =
    let a = refuse-done (wrong_count max_lists s) _ _ (sym (first-is (check_refusals p s i) tt) ∙ e) in
    let b = refuse-done (broken_layout s) _ _ a.1 in
    let c = refuse-done (leb (count s) i) _ _ b.1 in
    let d = refuse-done (any_of (has_loose p) (lists_of s)) _ _ c.1 in
    (record { counted = a.0; laid = b.0; tight = d.0 }, leb-false (count s) i c.0)

read-checked : (s : List ℕ) (i : ℕ) (old : List ℕ) → lowest (read_rows p max_words s i old) ≡ Ok tt → lowest (check_refusals p s i) ≡ Ok tt
unfolding read_rows check_refusals
read-checked s i old d = (or-else-done _ _ (sym (first_then (check_refusals p s i) _ tt) ∙ d)).0

module _ (s : List ℕ) (bytes : Bytes s) (fine : Fine s) where
  pub contained : Contained F65521 s (lists_of s)
  unfolding field_at
  contained = (of-engine.of_reading s bytes fine.counted fine.laid fine.tight).1

  writable : Writable (lists_of s)
  writable =
      let passed = fine-passes s fine in
      let o = passed-obeys p s passed in
      let n = length-lists s in
      record {
        some = omega (arith, o.low);
        few = omega (arith, o.few);
        each =
            λ k l.
            let h = passed-each p s passed max_words (omega arith) k l in
            record { some = h.some; short = h.short; words = λ j. omega (arith, h.words j, modulus-high 0) };
      }

  low : (k j : ℕ) → get_or (get_or (lists_of s) k []) j 0 < p
  low k j = go (dec_lt k (length (lists_of s)))
    where
      go : Dec (k < length (lists_of s)) → get_or (get_or (lists_of s) k []) j 0 < p
      go (yes l) = (passed-each p s (fine-passes s fine) max_words (omega arith) k l).words j
      go (no l) = rw (get_or-eq_default (lists_of s) [] {n = k} (omega arith)) (modulus-some 0)

  pub holds : Holds F65521 s (lists_of s)
  unfolding field_at
  holds = record { writable = writable; tight = low; album = (of-engine.of_reading s bytes fine.counted fine.laid fine.tight).0 }

  module _ (i : ℕ) (old : List ℕ) {out : List ℕ} {r : Reply} (e : r ≡ reply (lowest (read_rows p max_words s i old)) (degree_at s i ∷ []))
      (w : out ≡ written (lowest (read_rows p max_words s i old)) (padded max_words (nth_list s i)) old) where
    handed : lowest (read_rows p max_words s i old) ≡ Ok tt → i < count s → Handed F65521 (lists_of s) i out r
    handed d l =
        record {
          inside = omega (arith, length-lists s);
          degree = e ∙ ap₂ (λ o n. reply o (n ∷ [])) d (contained.degree i l);
          words = w ∙ ap₂ (λ o c. written o (padded max_words c) old) d (contained.words i l);
        }

-- the album of some lists
pub held-fine : (s : List ℕ) (lists : List (List ℕ)) → Holds F65521 s lists → (lists_of s ≡ lists) × Bytes s × Fine s
unfolding field_at
held-fine s lists h =
    let a = of-engine.of_albums lists h.writable in
    let same = ap lists_of (sym h.album) ∙ a.3 in (
      same,
      subst Bytes h.album a.0,
      record {
        counted = subst (λ l. wrong_count max_lists l ≡ false) h.album a.1;
        laid = subst (λ l. broken_layout l ≡ false) h.album a.2;
        tight = ap (any_of (has_loose p)) same ∙ no-loose p lists h.tight;
      },
    )

pub read-so : (s : List ℕ) (i : ℕ) (old : List ℕ) {out : List ℕ} {r : Reply} → Bytes s
    → r ≡ read_answer 0 s i old → out ≡ read_written 0 s i old → ReadSo F65521 s i old out r
unfolding field_at longest
read-so s i old {out} {r} bytes e w =
    record {
      reads =
          λ lists h l q.
          let k = held-fine s lists h in
          let j : i < count s = omega (arith, length-lists s, ap length k.0) in
          subst (λ x. Handed F65521 x i out r) k.0
          (handed s bytes k.2 i old e w (read_done p max_words s i old ((contained s bytes k.2).passes i j) q) j);
      holds =
          λ n a.
          let d = (done-reply (lowest (read_rows p max_words s i old)) (n ∷ []) (degree_at s i ∷ []) (sym a ∙ e)).0 in
          let f = checked-fine s i (read-checked s i old d) in
          (lists_of s, holds s bytes f.0, handed s bytes f.0 i old e w d f.1);
    }

pub body-so : (s : List ℕ) (i : ℕ) {part : List ℕ} → part ≡ body_of 0 s i → BodySo F65521 s i part
unfolding field_at body_of
body-so s i e lists h l =
    let k = held-fine s lists h in
    let inside : i < count s = omega (arith, length-lists s, ap length k.0) in
    let c = contained s k.1 k.2 in
    e ∙ ap (λ o. written o (take (2 * (degree_at s i + 1)) (drop (start_at s i) s)) []) (c.passes i inside) ∙ c.bytes i inside
    ∙ ap (λ x. bytes_of (get_or x i [])) k.0

length-records : (s : List ℕ) (k n : ℕ) → length (records_from s k n) ≡ n
unfolding records_from
length-records s k zero = refl
length-records s k (suc n) = ap suc (length-records s (suc k) n)

entries : (s : List ℕ) → Bytes s → Fine s → Entries F65521 s (lists_of s) (records_from s 0 max_lists)
entries s bytes fine =
    let c = contained s bytes fine in
    let n = length-lists s in
    record {
      records = length-records s 0 max_lists;
      degree = λ i l. (c.records i (omega arith)).0;
      place = λ i l. (c.records i (omega arith)).1;
      zeros = λ i l m. c.zeros i (omega arith) m;
    }

contents-done : (s : List ℕ) (old : List Entry) → Fine s → length old ≡ max_lists → lowest (contents_rows p s (length old)) ≡ Ok tt
unfolding lowest contents_rows album_refusals
contents-done s old f q = simp (f.counted, f.laid, f.tight, eq-eqb (length old) max_lists q)

pub contents-so : (s : List ℕ) (old : List Entry) {after : List Entry} {r : Reply} → r ≡ contents_answer 0 s old
    → after ≡ contents_written 0 s old → ContentsSo F65521 s old after r
contents-so s old {after} e w lists h q =
    let k = held-fine s lists h in
    let d = contents-done s old k.2 q in (
      e ∙ ap (λ o. reply o []) d,
      subst (λ x. Entries F65521 s x after) k.0
          (subst (Entries F65521 s (lists_of s)) (sym (w ∙ ap (λ o. filled o (records_from s 0 max_lists) old) d)) (entries s k.1 k.2)),
    )

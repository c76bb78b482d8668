-- The album writer: its contract implies what is said of it.
--     written-again     of an album that holds some lists, written from their words and degrees
--     write-so          of write_album
-- Assumes nothing.
use mathlib.Core.Path.{◌≡◌, refl, sym, ◌∙◌, ap, ap₂, subst}
use mathlib.Core.Bool.{false}
use mathlib.Core.List.{List, [], ◌∷◌, map}
use Prim.Native.Nat.{ℕ, zero, suc, ◌≤◌, ◌<◌}
use native.Mathlib.Omega.{arith}
use lib.ListN.{length, get_or, take, drop, length-map}
use lib.Seq.{take_at, drop_at}
use Rattle.std.specs.Prelude.{Ok}
use Rattle.refusal.specs.Limits.{max_bytes}
use Rattle.refusal.specs.Refusal.{Reply, reply, written}
use Rattle.refusal.specs.Lowest.{lowest}
use Rattle.refusal.proofs.First.{or-false}
use Rattle.refusal.proofs.Answers.{done-reply}
use Rattle.field.specs.Fields.{p, F65521, field_at}
use Rattle.field.proofs.Fields.{modulus-high, modulus-some}
use Rattle.lists.specs.Degrees.{naive_degree}
use Rattle.lists.specs.Refused.{has_loose, any_of}
use Rattle.lists.proofs.Search.{none-loose}
use Rattle.album_layout.specs.Written.{album_of}
use Rattle.album_writer.specs.Cut.{words_for, cut_by, joined}
use Rattle.album_writer.specs.Internal.{Low}
use Rattle.album_writer.specs.Calls.{over_front, write_rows, write_answer, write_written}
use Rattle.album_writer.proofs.Cut.{AllSome, joined-cut, degrees-cut, cut-joined, joined-size, joined-loose}
use Rattle.album_writer.proofs.Album.{cut-writable}
use Rattle.album_writer.proofs.Judged.{Taken, short-degrees, taken, taken-done}
use Rattle.statement.specs.Demand2Calls.{Holds, AlbumWritten, WriteSo}
use Rattle.statement.proofs.Demand2Albums.{no-loose}

-- no word of any list is loose
each-low : (n : ℕ) (lists : List (List ℕ)) → 0 < n → any_of (has_loose n) lists ≡ false → (k j : ℕ) → get_or (get_or lists k []) j 0 < n
each-low n [] some e k j = some
each-low n (c ∷ lists) some e zero j = none-loose n c some (or-false (has_loose n c) (any_of (has_loose n) lists) e).0 j
each-low n (c ∷ lists) some e (suc k) j = each-low n lists some (or-false (has_loose n c) (any_of (has_loose n) lists) e).1 k j

module _ (words degrees old : List ℕ) where
  -- ---- what is written
  module _ (t : Taken p words degrees old) where
    cut-tight : any_of (has_loose p) (cut_by degrees words) ≡ false
    cut-tight =
        joined-loose p (cut_by degrees words) ∙ ap (has_loose p) (joined-cut degrees words t.size) ∙ t.tight

    low : (k : ℕ) → get_or words k 0 < 65536
    low k = omega (arith, none-loose p words (modulus-some 0) t.tight k, modulus-high 0)

    pub cut_holds : Holds F65521 (album_of (cut_by degrees words)) (cut_by degrees words)
    unfolding field_at
    cut_holds =
        record {
          writable = cut-writable degrees words t.some t.few t.size t.low low;
          tight = each-low p (cut_by degrees words) (modulus-some 0) cut-tight;
          album = refl;
        }

  -- ---- an album of which these are the words and degrees
  module _ (s : List ℕ) (lists : List (List ℕ)) (h : Holds F65521 s lists) (ew : words ≡ joined lists) (ed : degrees ≡ map naive_degree lists)
      (room : max_bytes ≤ length old) where
    some : AllSome lists
    some k l = (h.writable.each k l).some

    same : album_of (cut_by degrees words) ≡ s
    same = ap album_of (ap₂ cut_by ed ew ∙ cut-joined lists some) ∙ h.album

    number : length degrees ≡ length lists
    number = ap length ed ∙ length-map lists naive_degree

    accepted : Taken p words degrees old
    unfolding field_at
    accepted =
        record {
          some = omega (arith, number, h.writable.some);
          few = omega (arith, number, h.writable.few);
          low = subst Low (sym ed) (short-degrees lists (λ k l. (h.writable.each k l).short));
          size = ap length ew ∙ joined-size lists some ∙ sym (ap words_for ed);
          tight = ap (has_loose p) ew ∙ sym (joined-loose p lists) ∙ no-loose p lists h.tight;
          room = room;
        }

  -- ---- the call
  module _ {out : List ℕ} {r : Reply} (e : r ≡ write_answer 0 words degrees old) (w : out ≡ write_written 0 words degrees old) where
    pub written-again : (s : List ℕ) (lists : List (List ℕ)) → Holds F65521 s lists → words ≡ joined lists → degrees ≡ map naive_degree lists
        → max_bytes ≤ length old → (r ≡ reply (Ok tt) (length s ∷ [])) × (out ≡ over_front s old)
    written-again s lists h ew ed room =
        let d = taken-done p words degrees old (accepted s lists h ew ed room) in
        let is = same s lists h ew ed room in (
          e ∙ ap₂ (λ o l. reply o (length l ∷ [])) d is,
          w ∙ ap₂ (λ o l. written o (over_front l old) old) d is,
        )

    album-written : (n : ℕ) → r ≡ reply (Ok tt) (n ∷ []) → AlbumWritten F65521 words degrees old out n
    album-written n a =
        let d = done-reply (lowest (write_rows p words degrees old)) (n ∷ []) (length (album_of (cut_by degrees words)) ∷ []) (sym a ∙ e) in
        let t = taken p words degrees old d.0 in
        let size : length (album_of (cut_by degrees words)) ≡ n = sym (ap (λ l. get_or l 0 0) d.1) in
        let new = w ∙ ap (λ o. written o (over_front (album_of (cut_by degrees words)) old) old) d.0 in
        record {
          album =
              subst (λ l. Holds F65521 l (cut_by degrees words)) (sym (ap (take n) new ∙ take_at (album_of (cut_by degrees words)) _ n size))
              (cut_holds t);
          all_words = joined-cut degrees words t.size;
          all_degrees = degrees-cut degrees words (omega (arith, t.size));
          size = sym size;
          after = ap (drop n) new ∙ drop_at (album_of (cut_by degrees words)) _ n size ∙ ap (λ m. drop m old) size;
        }

    pub write-so : WriteSo F65521 words degrees old out r
    write-so = record { writes = album-written; again = written-again }

-- `album_writer::write_album_over` meets its contract: where the judge refuses nothing, the parts are written to as many bytes as they take.
-- Assumes nothing.
use mathlib.Core.Path.{◌≡◌, sym, ◌∙◌, ap, ap₂}
use mathlib.Core.List.{List, [], ◌∷◌, ◌++◌}
use Prim.Native.Nat.{ℕ, ◌+◌, ◌*◌, ◌≤◌}
use native.Mathlib.Omega.{arith}
use lib.ListN.{length, take, drop, length-take}
use Rattle.std.specs.Prelude.{Ok}
use Rattle.std.proofs.lemmas.Result.{err_from_is_err_and}
use Rattle.refusal.specs.Limits.{max_lists, max_words}
use Rattle.refusal.specs.Refusal.{reply}
use Rattle.refusal.proofs.Answers.{result, kept}
use Rattle.field.specs.Fields.{modulus}
use Rattle.album_layout.specs.Written.{album_of}
use Rattle.album_writer.specs.Cut.{cut_by}
use Rattle.album_layout.specs.Layout.{entry_at}
use Rattle.refusal.specs.Lowest.{lowest}
use Rattle.album_writer.specs.Internal.{Room}
use Rattle.album_writer.specs.Calls.{write_rows, over_front}
use Rattle.album_writer.proofs.Cut.{few_words}
use Rattle.album_writer.proofs.Album.{length-album_by, album-is}
use Rattle.album_writer.proofs.Judged.{taken}
use Rattle.album_writer.proofs.write_album_over.Goals as goal

-- what the call takes, in numbers
fits : (p : ℕ) (words degrees out : List ℕ) → lowest (write_rows p words degrees out) ≡ Ok tt
    → Room words degrees (take (entry_at (length degrees) + 2 * length words) out) × (entry_at (length degrees) + 2 * length words ≤ length out)
fits p words degrees out e =
    let t = taken p words degrees out e in
    let few : length words ≤ max_lists * max_words = omega (arith, t.few, t.size, few_words degrees t.low) in
    (record { few = t.few; low = t.low; short = few; size = simp length-take (omega (arith, t.few, t.room)) }, omega (arith, t.few, t.room))

pub overflow_add-size-2 : goal.overflow_add-size-2
overflow_add-size-2 c = let t = fits _ _ _ _ (sym c.judge_write.ensures ∙ c.in_ok-judge_write.was) in omega (arith, t.0.few, t.0.short)

pub slice_bounds-write_parts-end : goal.slice_bounds-write_parts-end
slice_bounds-write_parts-end c = omega (arith, (fits _ _ _ _ (sym c.judge_write.ensures ∙ c.in_ok-judge_write.was)).1)

pub slice_bounds-write_parts-end-2 : goal.slice_bounds-write_parts-end-2
slice_bounds-write_parts-end-2 c = sym (fits _ _ _ _ (sym c.judge_write.ensures ∙ c.in_ok-judge_write.was)).0.size

pub write_parts-requires : goal.write_parts-requires
write_parts-requires c = (fits _ _ _ _ (sym c.judge_write.ensures ∙ c.in_ok-judge_write.was)).0

pub returns : goal.returns
returns c =
    let args = c.args in
    let found = sym c.judge_write.ensures ∙ c.in_ok-judge_write.was in
    let t = taken (modulus args.field) args.words.now args.degrees.now args.out.now found in
    let album = album_of (cut_by args.degrees.now args.words.now) in
    let is = album-is args.degrees.now args.words.now t.size in
    let size = sym (length-album_by args.words.now args.degrees.now) ∙ ap length is in
    record {
      answer = ap (λ n. reply (Ok tt) (n ∷ [])) size ∙ sym (ap (λ o. reply o (length album ∷ [])) found);
      writes = result (over_front album args.out.now) args.out.now found (ap₂ (λ l n. l ++ drop n args.out.now) (c.write_parts.ensures ∙ is) size);
    }

pub returns-in_err-judge_write : goal.returns-in_err-judge_write
returns-in_err-judge_write c =
    let args = c.args in
    let album = album_of (cut_by args.degrees.now args.words.now) in
    let found = sym c.judge_write.ensures ∙ c.in_err-judge_write.was in
    let p = err_from_is_err_and c.from_residual.result c.from_residual.ensures.1 in
    rw (p.1, p.2)
    (record {
      answer = sym (ap (λ o. reply o (length album ∷ [])) found);
      writes = kept (over_front album args.out.now) args.out.now found;
    })

-- `bind_text::bind_over` meets its contract: the writer is handed the words and the degrees of the lists that the text says, and refuses what is
-- left to refuse.
-- Assumes nothing.
use mathlib.Core.Path.{◌≡◌, sym, ◌∙◌}
use Prim.Native.Nat.{◌≤◌}
use native.Mathlib.Omega.{arith}
use lib.Seq.{length-take-le}
use Rattle.std.specs.Prelude.{Ok}
use Rattle.std.proofs.lemmas.Result.{err_from_is_err_and}
use Rattle.refusal.specs.Lowest.{lowest}
use Rattle.field.specs.Fields.{modulus}
use Rattle.field.proofs.Fields.{modulus-high}
use Rattle.bind_text.specs.Calls.{text_refusals}
use Rattle.bind_text.proofs.Reading.{loaded-inside}
use Rattle.bind_text.proofs.Judged.{text-sound, bind-refused, given-loaded, bind-answer, bind-writes}
use Rattle.refusal.proofs.Clauses.{answer_and_writes}
use borrow.Author.Rules.{rules}
use Rattle.bind_text.proofs.bind_over.Goals as goal

pub returns-in_err-judge_text : goal.returns-in_err-judge_text
returns-in_err-judge_text c =
    let args = c.args in
    let p = err_from_is_err_and c.from_residual.result c.from_residual.ensures.1 in
    rw (p.1, p.2) (answer_and_writes (bind-refused (modulus args.field) args.text.now args.out.now (sym c.judge_text.ensures ∙ c.in_err-judge_text.was)))

pub read_lines-n-requires : goal.read_lines-n-requires
read_lines-n-requires c =
    let fine : lowest (text_refusals c.args.text.now) ≡ Ok tt = sym c.judge_text.ensures ∙ c.in_ok-judge_text.was in
    record { sound = text-sound _ fine; words_len = (search rules, search rules) }

pub slice_bounds-words-end : goal.slice_bounds-words-end
slice_bounds-words-end c = (loaded-inside c.read_lines-n.ensures).0

pub slice_bounds-write_album_over-end : goal.slice_bounds-write_album_over-end
slice_bounds-write_album_over-end c = sym (length-take-le _ _ (loaded-inside c.read_lines-n.ensures).0)

pub slice_bounds-degrees-end : goal.slice_bounds-degrees-end
slice_bounds-degrees-end c = omega (arith, (loaded-inside c.read_lines-n.ensures).1)

pub slice_bounds-write_album_over-end-2 : goal.slice_bounds-write_album_over-end-2
slice_bounds-write_album_over-end-2 c =
    let inside = (loaded-inside c.read_lines-n.ensures).1 in
    sym (length-take-le _ _ (omega arith))

pub returns : goal.returns
returns c =
    let fine : lowest (text_refusals c.args.text.now) ≡ Ok tt = sym c.judge_text.ensures ∙ c.in_ok-judge_text.was in
    let args = c.args in
    let small : modulus args.field ≤ 65535 = omega (arith, modulus-high args.field) in
    let loaded = c.read_lines-n.ensures in
    let found = given-loaded fine loaded c.count_lines-lists.ensures in record { answer = c.write_album_over.ensures.answer ∙ bind-answer _ small args.text.now _ _ args.out.now found; writes = c.write_album_over.ensures.writes ∙ bind-writes _ small args.text.now _ _ args.out.now found }

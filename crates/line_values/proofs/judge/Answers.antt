-- `line_values::judge` meets its contract: the tests stand in the stated order.
-- Assumes nothing.
use mathlib.Core.Path.{◌≡◌, sym, ◌∙◌}
use native.Mathlib.Omega.{arith}
use Rattle.std.specs.Prelude.{Ok}
use Rattle.std.proofs.lemmas.Result.{err_from_is_err_and}
use Rattle.refusal.specs.Lowest.{lowest}
use Rattle.album_layout.specs.Internal.{layout_refusals}
use Rattle.line_values.proofs.Judging.{judged-layout, judged-line, judged-index, judged-album, judged-misfit, judged-done, read_found, lacks-found}
use Rattle.line_values.proofs.judge.Goals as goal

pub returns-in_err-judge_layout-clause-result_value : goal.returns-in_err-judge_layout-clause-result_value
returns-in_err-judge_layout-clause-result_value c =
    let p = err_from_is_err_and c.from_residual.result c.from_residual.ensures.1 in
    rw (p.1, p.2) (judged-layout _ _ _ _ _ (sym c.judge_layout.ensures ∙ c.in_err-judge_layout.was))

-- the line is refused
pub returns-in_err-n-clause-result_value : goal.returns-in_err-n-clause-result_value
returns-in_err-n-clause-result_value c =
    let laid : lowest (layout_refusals c.args.album.now) ≡ Ok tt = sym c.judge_layout.ensures ∙ c.in_ok-judge_layout.was in
    let p = err_from_is_err_and c.from_residual-in_err-n.result c.from_residual-in_err-n.ensures.1 in
    rw (p.1, p.2) (judged-line _ _ _ _ _ laid (sym (read_found c.args.line.now c.args.code.now c.requires c.in_err-n.ensures.refusal)))

pub returns-then-lacks_list-clause-result_value : goal.returns-then-lacks_list-clause-result_value
returns-then-lacks_list-clause-result_value c =
    let laid : lowest (layout_refusals c.args.album.now) ≡ Ok tt = sym c.judge_layout.ensures ∙ c.in_ok-judge_layout.was in
    let fine = sym (read_found c.args.line.now c.args.code.now c.requires c.in_ok-n.ensures.refusal) in
    let has = lacks-found c.args.album.now c.args.line.now _ c.in_ok-n.ensures.program c.byte_at.ensures.0 c.lacks_list.ensures c.if-lacks_list.true in
    judged-index _ _ _ _ _ laid fine has

pub returns-in_err-judge_album-clause-result_value : goal.returns-in_err-judge_album-clause-result_value
returns-in_err-judge_album-clause-result_value c =
    let laid : lowest (layout_refusals c.args.album.now) ≡ Ok tt = sym c.judge_layout.ensures ∙ c.in_ok-judge_layout.was in
    let fine = sym (read_found c.args.line.now c.args.code.now c.requires c.in_ok-n.ensures.refusal) in
    let has = lacks-found c.args.album.now c.args.line.now _ c.in_ok-n.ensures.program c.byte_at.ensures.0 c.lacks_list.ensures c.if-lacks_list.false in
    let p = err_from_is_err_and c.from_residual-in_err-judge_album.result c.from_residual-in_err-judge_album.ensures.1 in
    rw (p.1, p.2) (judged-album _ _ _ _ _ laid fine has (sym c.judge_album.ensures ∙ c.in_err-judge_album.was))

pub returns-then-out-longest_of-clause-result_value : goal.returns-then-out-longest_of-clause-result_value
returns-then-out-longest_of-clause-result_value c =
    let laid : lowest (layout_refusals c.args.album.now) ≡ Ok tt = sym c.judge_layout.ensures ∙ c.in_ok-judge_layout.was in
    let fine = sym (read_found c.args.line.now c.args.code.now c.requires c.in_ok-n.ensures.refusal) in
    let has = lacks-found c.args.album.now c.args.line.now _ c.in_ok-n.ensures.program c.byte_at.ensures.0 c.lacks_list.ensures c.if-lacks_list.false in
    judged-misfit _ _ _ _ _ laid fine has (sym c.judge_album.ensures ∙ c.in_ok-judge_album.was) (λ e. omega arith)

pub returns-clause-result_value : goal.returns-clause-result_value
returns-clause-result_value c =
    let laid : lowest (layout_refusals c.args.album.now) ≡ Ok tt = sym c.judge_layout.ensures ∙ c.in_ok-judge_layout.was in
    let fine = sym (read_found c.args.line.now c.args.code.now c.requires c.in_ok-n.ensures.refusal) in
    let has = lacks-found c.args.album.now c.args.line.now _ c.in_ok-n.ensures.program c.byte_at.ensures.0 c.lacks_list.ensures c.if-lacks_list.false in
    judged-done _ _ _ _ _ laid fine has (sym c.judge_album.ensures ∙ c.in_ok-judge_album.was) (omega arith)

-- `list_bytes::product_bytes` meets its contract: bytes that are no list are refused before any word is read, and the arrays have room.
-- Assumes nothing.
use native.Mathlib.Omega.{arith}
use Rattle.std.proofs.lemmas.Result.{err_from_is_err_and}
use Rattle.field.specs.Fields.{longest}
use Rattle.field.proofs.Fields.{longest-room}
use Rattle.lists.specs.Bytes.{word_count}
use Rattle.list_bytes.proofs.Answers.{good-lists, bad-answer}
use Rattle.list_bytes.proofs.Fits.{good-half, room-short}
use Rattle.list_bytes.proofs.Rows.{product-bad}
use Rattle.list_bytes.proofs.product_bytes.Goals as goal

pub returns-in_err-judge_bytes : goal.returns-in_err-judge_bytes
returns-in_err-judge_bytes c =
    let p = err_from_is_err_and c.from_residual.result c.from_residual.ensures.1 in
    let bad = bad-answer _ c.judge_bytes.ensures c.in_err-judge_bytes.was (product-bad _ _ _ _ _) in
    rw (p.1, p.2) (record { value = bad.0; out_after = bad.1 _ _ })

pub product_sized-requires-2-clause-f_bound : goal.product_sized-requires-2-clause-f_bound
unfolding word_count
product_sized-requires-2-clause-f_bound c =
    let most = longest c.args.field in
    let good = good-lists _ _ c.judge_bytes.ensures c.in_ok-judge_bytes.was in
    let first = good-half most c.args.f.now good.0 in
    let second = good-half most c.args.g.now good.1 in
    let short = room-short most 0 c.args.out.now (omega arith) c.room-k.ensures in
    let whole = longest-room c.args.field in
    (omega arith, omega arith, omega arith, omega arith, c.room-k.ensures)

-- `list_bytes::divide_bytes` meets its contract: bytes that are no list are refused before any word is read, and the arrays have room.
-- Assumes nothing.
use mathlib.Core.Path.{◌∙◌, ap}
use Prim.Native.Nat.{ℕ}
use native.Mathlib.Omega.{arith}
use Rattle.std.proofs.lemmas.Result.{err_from_is_err_and}
use Rattle.field.specs.Fields.{longest}
use Rattle.field.proofs.Fields.{longest-room}
use Rattle.lists.specs.Bytes.{word_count}
use Rattle.list_bytes.specs.Internal.{room_of}
use Rattle.list_bytes.proofs.Answers.{good-lists, bad-answer}
use Rattle.list_bytes.proofs.Fits.{good-half, room-short}
use Rattle.list_bytes.proofs.Rows.{division-bad}
use Rattle.list_bytes.proofs.divide_bytes.Goals as goal

pub returns-in_err-judge_bytes : goal.returns-in_err-judge_bytes
returns-in_err-judge_bytes c =
    let p = err_from_is_err_and c.from_residual.result c.from_residual.ensures.1 in
    let bad = bad-answer _ c.judge_bytes.ensures c.in_err-judge_bytes.was (division-bad _ _ _ _ _ _) in
    rw (p.1, p.2) (record { value = bad.0; q_after = bad.1 _ _; r_after = bad.1 _ _ })

pub divide_sized-requires-2-clause-g_bound : goal.divide_sized-requires-2-clause-g_bound
unfolding word_count
divide_sized-requires-2-clause-g_bound c =
    let most = longest c.args.field in
    let good = good-lists _ _ c.judge_bytes.ensures c.in_ok-judge_bytes.was in
    let dividend = good-half most c.args.g.now good.0 in
    let divisor = good-half most c.args.f.now good.1 in
    let rest = c.room-l.ensures ∙ ap (λ (n : ℕ). room_of most n c.args.r.now) c.longest_of.ensures in
    let quotient-short = room-short most 0 c.args.q.now (omega arith) c.room-k.ensures in
    let remainder-short = room-short most most c.args.r.now (omega arith) rest in
    let whole = longest-room c.args.field in
    (omega arith, omega arith, omega arith, omega arith, omega arith)

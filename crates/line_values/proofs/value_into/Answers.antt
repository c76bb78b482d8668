-- `line_values::value_into` meets its contract.
-- Assumes nothing.
use native.Mathlib.Omega.{arith}
use Rattle.std.proofs.Common.{length-take}
use Rattle.std.proofs.lemmas.Result.{err_from_is_err_and}
use Rattle.line_values.proofs.Answers.{ended, ended-numbers, value-done, value-refused}
use Rattle.line_values.proofs.value_into.Goals as goal

pub returns-in_err-run : goal.returns-in_err-run
returns-in_err-run c =
    let p = err_from_is_err_and c.from_residual.result c.from_residual.ensures.1 in
    rw (p.1, p.2) (value-refused c.args.field c.args.album.now c.args.code.now c.args.out.now c.requires.2 c.in_err-run.ensures)

pub pad-requires : goal.pad-requires
pad-requires c =
    let runs = c.requires.1 in
    let d = ended c.args.field c.args.album.now c.args.code.now runs.tree runs.is runs.small _ _ c.in_ok-run.ensures in
    let numbers = ended-numbers c.args.field c.args.album.now runs.tree _ _ d in
    simp length-take (omega (arith, c.requires.2, numbers.1, numbers.2))

pub overflow_sub-result : goal.overflow_sub-result
overflow_sub-result c =
    let runs = c.requires.1 in
    let d = ended c.args.field c.args.album.now c.args.code.now runs.tree runs.is runs.small _ _ c.in_ok-run.ensures in
    let numbers = ended-numbers c.args.field c.args.album.now runs.tree _ _ d in
    omega (arith, numbers.0)

pub returns : goal.returns
returns c =
    value-done c.args.field c.args.album.now c.args.code.now c.args.out.now c.requires.2 _ _ c.in_ok-run.ensures c.pad.ensures

-- `line_values::Stack::run` meets its contract.
-- Assumes nothing.
use Rattle.line_values.proofs.Running.{run-start, run-ready, run-next, run-halts, run_end}
use Rattle.std.proofs.lemmas.Result.{err_from_is_err_and}
use native.Mathlib.Omega.{arith}
use Rattle.line_values.proofs.Stack.run.Goals as goal

pub loop-x-init : goal.loop-x-init
loop-x-init c = run-start c.requires.passed.1 c.args.self.now c.requires.empty

pub step-requires-clause-ready : goal.step-requires-clause-ready
step-requires-clause-ready c = run-ready c.requires.passed.1 c.loop-x.invariant c.loop-x-test.true c.requires.passed.0

pub returns-in_err-step : goal.returns-in_err-step
returns-in_err-step c =
    let running = c.loop-x.invariant in
    let p = err_from_is_err_and c.from_residual.result c.from_residual.ensures.1 in
    rw (p.1, p.2) (run-halts c.requires.passed.1 running c.loop-x-test.true (c.in_err-step.ensures running.st running.stacked))

pub loop-x-preserved : goal.loop-x-preserved
loop-x-preserved c = run-next c.requires.passed.1 c.loop-x.invariant c.loop-x-test.true c.in_ok-step.ensures

pub returns : goal.returns
returns c = run_end c.requires.passed.1 c.loop-x.invariant (omega arith)

-- `line_values::line_value_over` meets its contract.
-- Assumes nothing.
use Rattle.line_values.proofs.Judging.{accepted-runs, answered}
use Rattle.line_values.proofs.line_value_over.Goals as goal

pub value_into-requires : goal.value_into-requires
value_into-requires c = accepted-runs c.args.album.now c.args.line.now _ c.in_ok-n.ensures.program_of c.args.field c.args.out.now c.in_ok-n.ensures.result_value

pub returns-clause-answer : goal.returns-clause-answer
returns-clause-answer c =
    (answered c.args.album.now c.args.line.now _ c.in_ok-n.ensures.program_of c.args.field c.args.out.now c.in_ok-n.ensures.result_value c.value_into.ensures).0

pub returns-clause-writes : goal.returns-clause-writes
returns-clause-writes c =
    (answered c.args.album.now c.args.line.now _ c.in_ok-n.ensures.program_of c.args.field c.args.out.now c.in_ok-n.ensures.result_value c.value_into.ensures).1

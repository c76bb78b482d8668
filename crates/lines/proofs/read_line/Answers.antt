-- `lines::read_line` meets its contract.
-- Assumes nothing.
use mathlib.Core.Path.{refl}
use lib.ListN.{length}
use borrow.Author.Tests.{lt-ltb, le-ltb}
use Rattle.refusal.specs.Limits.{max_line}
use Rattle.lines.proofs.read_line.Goals as goal

pub returns-then-code-lt-MAX_LINE : goal.returns-then-code-lt-MAX_LINE
returns-then-code-lt-MAX_LINE c = record { refusal = rw (lt-ltb (length c.args.code.now) max_line c.if-code-lt-MAX_LINE.true) refl; program = tt }

pub returns : goal.returns
returns c = record { refusal = rw (le-ltb (length c.args.code.now) max_line c.if-code-lt-MAX_LINE.false) c.read_into.ensures.refusal; program = c.read_into.ensures.program }

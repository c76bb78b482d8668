-- `word_grid::add_rows` meets its contract: after the whole groups, half a group more where rows are left, at most eight.
-- Assumes nothing.
use Rattle.std.proofs.Common.{◌≡◌, ℕ, suc, ◌+◌, ◌*◌, ◌/◌, ◌<◌, ◌≤◌, arith}
use Rattle.word_grid.proofs.Steps.{grid-next}
use Rattle.word_grid.proofs.add_rows.Goals as goal

-- of m rows, how many groups there are where some are left after g, at most eight
one_more : (m g : ℕ) → 16 * g < m → m ≤ 16 * g + 8 → (m + 15) / 16 ≡ suc g
one_more m g h l = omega arith

pub returns-then-g-m : goal.returns-then-g-m
returns-then-g-m c = rw (one_more c.args.m _ c.if-g-m.true (omega arith)) (grid-next c.groups.ensures c.group.ensures)

-- `lines::nesting` meets its contract. The loop's invariant: the most so far, and what the rest of the line comes to, is the line's depth.
-- Assumes nothing.
use mathlib.Core.Path.{◌≡◌}
use Prim.Native.Nat.{◌≤◌, max}
use lib.ListN.{drop}
use Rattle.lines.specs.Grammar.{deepest}
use Rattle.lines.proofs.nesting.Given as goal

abbrev pub invariant-loop-b : goal.invariant-loop-b
invariant-loop-b l = (l.depth ≤ l.b-index) × (max l.most (deepest l.depth (drop l.b-index l.line)) ≡ deepest 0 l.line)

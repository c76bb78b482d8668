-- `lists::has_loose` meets its contract. The loop's invariant: the largest word so far and what is left of the list answer for the whole.
-- Assumes nothing.
use mathlib.Core.Path.{◌≡◌}
use Rattle.field.specs.Fields.{modulus}
use Rattle.lists.specs.Refused.{has_loose}
use Rattle.lists.proofs.Largest.{loose_from}
use Rattle.lists.proofs.has_loose.Given as goal

abbrev pub invariant-loop-word : goal.invariant-loop-word
invariant-loop-word l = has_loose (modulus l.field) l.list ≡ loose_from (modulus l.field) l.list l.largest l.word-index

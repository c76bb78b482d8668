-- `word_division::reduce_in` meets its contract. The loop's invariant: k more steps leave what the whole division leaves, and their digits,
-- before those in q from k on, are all its digits.
-- Assumes nothing.
use mathlib.Core.Path.{◌≡◌}
use mathlib.Core.List.{◌++◌}
use lib.ListN.{length, drop}
use Rattle.field.specs.Fields.{modulus}
use Rattle.word_division.specs.Reduction.{reduced, digits}
use Rattle.word_division.proofs.reduce_in.Given as goal

abbrev pub invariant-loop-k : goal.invariant-loop-k
invariant-loop-k l =
    (reduced (modulus l.field) l.inv l.y l.k l.x ≡ reduced (modulus l.field) l.inv l.y (length l.initial.q) l.initial.x)
    × (digits (modulus l.field) l.inv l.y l.k l.x ++ drop l.k l.q ≡ digits (modulus l.field) l.inv l.y (length l.initial.q) l.initial.x ++ drop (length l.initial.q) l.initial.q)

-- `report_text::put_words` meets its contract. The loop's invariant: word 0 is put, and after it the words below k.
-- Assumes nothing.
use mathlib.Core.List.{[], ◌∷◌, ◌++◌}
use lib.ListN.{drop}
use Rattle.report_text.proofs.Puts.{Left}
use Rattle.report_text.proofs.Lines.{fields}
use Rattle.report_text.proofs.slice.put_words.Given as goal

abbrev pub invariant-loop-k : goal.invariant-loop-k
invariant-loop-k l =
    Left (fields (drop 1 l.h) ++ (10 ∷ [])) (fields (drop l.k l.h) ++ (10 ∷ []))
    l.initial.place l.initial.out l.out l.place

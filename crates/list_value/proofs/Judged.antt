-- What the call refuses, as the chain of tests that the code makes, and what a call that refuses nothing knows of its list.
-- Assumes nothing.
use mathlib.Core.Path.{◌≡◌, refl, sym, ◌∙◌, ap}
use mathlib.Core.Bool.{Bool, true, false, ◌||◌}
use mathlib.Core.List.{List, [], ◌∷◌}
use Prim.Native.Nat.{ℕ, ◌≤◌, ◌<◌}
use borrow.Author.Tests.{le-leb, lt-leb}
use Rattle.std.specs.Prelude.{Ok, Err}
use Rattle.refusal.specs.Lowest.{lowest}
use Rattle.refusal.specs.declared.Refusal.{Refusal}
use Rattle.refusal.specs.declared.Refusal.TheVariants.{Length, LooseWord}
use Rattle.refusal.proofs.First.{refuse, or_else, first-is, or-else-done}
use Rattle.field.specs.Field.{loose}
use Rattle.lists.specs.Refused.{wrong_length, has_loose, list_refusals, IsList}
use Rattle.lists.proofs.Judged.{judged, one-listed}
use Rattle.list_value.specs.Calls.{evaluate_rows}

-- a loose point comes after the list's own refusals
point-last : (a b c : Bool)
    → refuse a Length (refuse (b || c) LooseWord (Ok tt))
    ≡ or_else (refuse (a || false) Length (refuse (b || false) LooseWord (Ok tt))) (refuse c LooseWord (Ok tt))
point-last true b c = refl
point-last false true c = refl
point-last false false c = refl

module _ (p most : ℕ) (f : List ℕ) (x : ℕ) where
  evaluate-judged : lowest (evaluate_rows p most f x) ≡ or_else (lowest (list_refusals p most (f ∷ []))) (refuse (loose p x) LooseWord (Ok tt))
  unfolding evaluate_rows
  evaluate-judged =
      first-is (evaluate_rows p most f x) tt
      ∙ point-last (wrong_length most f) (has_loose p f) (loose p x)
      ∙ ap (λ o. or_else o (refuse (loose p x) LooseWord (Ok tt))) (sym (judged p most (f ∷ [])))

  pub evaluate-refused : {why : Refusal} → lowest (list_refusals p most (f ∷ [])) ≡ Err why → Err why ≡ lowest (evaluate_rows p most f x)
  evaluate-refused e = sym (evaluate-judged ∙ simp e)

  pub evaluate-loose : lowest (list_refusals p most (f ∷ [])) ≡ Ok tt → p ≤ x → Err LooseWord ≡ lowest (evaluate_rows p most f x)
  evaluate-loose e l = sym (evaluate-judged ∙ simp (e, le-leb p x l))

  pub evaluate-done : lowest (list_refusals p most (f ∷ [])) ≡ Ok tt → x < p → Ok tt ≡ lowest (evaluate_rows p most f x)
  evaluate-done e l = sym (evaluate-judged ∙ simp (e, lt-leb p x l))

  pub evaluate-listed : 0 < p → Ok tt ≡ lowest (evaluate_rows p most f x) → IsList p most f
  evaluate-listed big e =
      one-listed p most big f (or-else-done (lowest (list_refusals p most (f ∷ []))) _ (sym evaluate-judged ∙ sym e)).0

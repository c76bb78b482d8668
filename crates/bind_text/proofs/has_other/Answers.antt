-- `bind_text::has_other` meets its contract: `any` is the search that `has_other` says.
-- Assumes nothing.
use mathlib.Core.Path.{◌≡◌, refl, ◌∙◌}
use mathlib.Core.Bool.{◌||◌}
use mathlib.Core.List.{List}
use Prim.Native.Nat.{ℕ}
use Rattle.std.proofs.Common.{rules, tests}
use Rattle.std.specs.List.{list_any}
use Rattle.std.proofs.lemmas.Iterator.{YieldsList-from_slice}
use Rattle.std.proofs.lemmas.Iterator.Search.{any_from_yields_List}
use Rattle.std.proofs.lemmas.List.Recursion.{same_from_clauses}
use Rattle.bind_text.specs.Text.{is_other, has_other}
use Rattle.bind_text.proofs.has_other.Goals as goal

others-any : (text : List ℕ) → list_any is_other text ≡ has_other text
unfolding has_other
others-any text = same_from_clauses (list_any is_other) has_other (λ x t. is_other x || t) refl (λ _ _. refl) (λ _ _. refl) text

pub returns : goal.returns
returns c =
    let text = c.args.text.now in
    any_from_yields_List is_other _ _ _ c.any.ensures.ran (YieldsList-from_slice text (cc)) (λ x b q k. search (rules, tests)) ∙ others-any text

-- That `lowest` gives the refusal of the lowest rank among those that apply.
--     lowest-is     `lowest` is the lowest
-- Assumes nothing.
use Rattle.refusal.specs.Refusal.{Outcome}
use Rattle.std.specs.Prelude.{◌≡◌, refl, Bool, true, false, cond, List, [], ◌∷◌, ℕ, ltb, Ok, Err}
use Rattle.std.proofs.Common.{ap, inl, inr, ⊎_elim, le_of_eq, le_trans, le_of_lt, arith, ltb-true, ltb-false}
use Rattle.refusal.specs.Rank.{rank}
use Rattle.refusal.specs.Lowest.{Condition, IsLowest, lower, lowest}

not_both : {b : Bool} → b ≡ false → b ≡ true → ⊥
not_both e f = let z : ◌≡◌ {A = ℕ} 0 1 = cc in omega arith

with_row : (c : Condition) (rows : List Condition) (b : Bool) → c.applies ≡ b → (o : Outcome) → IsLowest rows o → IsLowest (c ∷ rows) (cond b (lower c.why o) o)
unfolding lower
with_row c rows false e (Ok _) h = λ why a. ⊎_elim (λ w. not_both e w.1) (h why) a
with_row c rows false e (Err w) h = (inr h.0, λ other a. ⊎_elim (λ w. absurd (not_both e w.1)) (h.1 other) a)
with_row c rows true e (Ok _) h = (inl (refl, e), λ other a. ⊎_elim (λ w. le_of_eq (ap rank w.0)) (λ w. absurd (h other w)) a)
with_row c rows true e (Err w) h = pick (ltb (rank w) (rank c.why)) refl
  where
    pick : (b : Bool) → ltb (rank w) (rank c.why) ≡ b → IsLowest (c ∷ rows) (cond b (Err w) (Err c.why))
    pick true l = (inr h.0, λ other a. ⊎_elim (λ v. le_trans (le_of_lt (ltb-true _ _ l)) (le_of_eq (ap rank v.0))) (h.1 other) a)
    pick false l = (inl (refl, e), λ other a. ⊎_elim (λ v. le_of_eq (ap rank v.0)) (λ v. le_trans (ltb-false _ _ l) (h.1 other v)) a)

pub lowest-is : (rows : List Condition) → IsLowest rows (lowest rows)
unfolding lowest
lowest-is [] = λ why a. a
lowest-is (c ∷ rows) = with_row c rows c.applies refl (lowest rows) (lowest-is rows)

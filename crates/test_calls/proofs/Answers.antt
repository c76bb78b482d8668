-- What a function returns and leaves in a lent slice, by the call's reply.
--     counted                of a call that hands back no value
--     told                   of a call whose values are offered to a slice
--     told-value, told-gcd, told-extent      what `note` says of an answer is its call's reply
--     noted                  the same by the answer, whose reply is known
--     fitted_none            no values: the slice is as it came
--     put_one, put_three     the values are written where they fit
--     copied, left_out       the same of a part that is one of the values
-- Assumes nothing.
use mathlib.Core.Path.{◌≡◌, refl, sym, ◌∙◌, ap}
use mathlib.Core.Bool.{cond}
use mathlib.Core.List.{List, [], ◌∷◌}
use Prim.Native.Nat.{ℕ}
use native.Mathlib.Omega.{arith}
use lib.ListN.{length, set}
use borrow.Author.Tests.{eq-eqb, ne_eqb}
use Rattle.std.specs.Prelude.{Result, Ok, Err, option_map, option_to_list}
use Rattle.refusal.specs.declared.Refusal.{Refusal}
use Rattle.refusal.specs.Refusal.{outcome_number, Reply, outcome_reply, value_reply, Outcome}
use Rattle.list_gcd.specs.declared.Gcd.{Gcd}
use Rattle.list_gcd.specs.Calls.{gcd_reply}
use Rattle.list_extent.specs.declared.Search.{Search}
use Rattle.list_extent.specs.Calls.{extent_reply}
use Rattle.refusal.proofs.Answers.{number_is}
use Rattle.test_calls.specs.Lent.{fitted, told_reply}

pub counted : (r : Outcome) {answer : Reply} {n : ℕ} → outcome_reply r ≡ answer → n ≡ outcome_number r → n ≡ answer.number
counted r e a = a ∙ sym (number_is r [] refl) ∙ ap (λ x. x.number) e

pub fitted_none : (old : List ℕ) → fitted [] old ≡ old
fitted_none [] = refl
fitted_none (x ∷ old) = simp (ne_eqb (length (x ∷ old)) 0 (λ e. omega arith))

pub told : (old : List ℕ) {answer r : Reply} {n : ℕ} {left : List ℕ} → r ≡ answer → n ≡ r.number → left ≡ fitted r.values old
    → (n ≡ answer.number) × (left ≡ fitted answer.values old)
told old e a b = (a ∙ ap (λ x. x.number) e, b ∙ ap (λ x. fitted x.values old) e)

-- a call that hands back one value
pub told-value : {A : Type 0} (v : A → ℕ) (r : Result A Refusal) → told_reply (λ x. v x ∷ []) r ≡ value_reply v r
told-value v (Ok x) = refl
told-value v (Err why) = refl

pub told-gcd : (r : Result Gcd Refusal) → told_reply (λ gcd. gcd.degree.0 ∷ gcd.power.0 ∷ gcd.rounds.0 ∷ []) r ≡ gcd_reply r
told-gcd (Ok gcd) = refl
told-gcd (Err why) = refl

pub told-extent : (r : Result Search Refusal) → told_reply (λ search. option_to_list (option_map (λ e. e.0) search.extent)) r ≡ extent_reply r
told-extent (Ok search) = refl
told-extent (Err why) = refl

pub noted : {A : Type 0} (reply_of : A → Reply) (x y : A) (old : List ℕ) {n : ℕ} {left : List ℕ} → x ≡ y → n ≡ (reply_of y).number → left ≡ fitted (reply_of y).values old
    → (n ≡ (reply_of x).number) × (left ≡ fitted (reply_of x).values old)
noted reply_of x y old e a b = (a ∙ ap (λ z. (reply_of z).number) (sym e), b ∙ ap (λ z. fitted (reply_of z).values old) (sym e))

fits : (values old : List ℕ) → length old ≡ length values → fitted values old ≡ values
fits values old e = ap (λ b. cond b values old) (eq-eqb (length old) (length values) e)

pub misfits : (values old : List ℕ) → (length old ≡ length values → ⊥) → fitted values old ≡ old
misfits values old e = ap (λ b. cond b values old) (ne_eqb (length old) (length values) e)

pub put_one : (old : List ℕ) (x : ℕ) → length old ≡ 1 → set old 0 x ≡ fitted (x ∷ []) old
put_one [] x e = absurd (omega arith)
put_one (a ∷ []) x e = refl
put_one (a ∷ b ∷ old) x e = absurd (omega arith)

pub put_three : (old : List ℕ) (x y z : ℕ) → length old ≡ 3 → set (set (set old 0 x) 1 y) 2 z ≡ fitted (x ∷ y ∷ z ∷ []) old
put_three [] x y z e = absurd (omega arith)
put_three (a ∷ []) x y z e = absurd (omega arith)
put_three (a ∷ b ∷ []) x y z e = absurd (omega arith)
put_three (a ∷ b ∷ d ∷ []) x y z e = refl
put_three (a ∷ b ∷ d ∷ f ∷ old) x y z e = absurd (omega arith)

pub copied : (values old part : List ℕ) {left : List ℕ} → part ≡ values → length old ≡ length part → left ≡ part → (length part ≡ length values) × (left ≡ fitted values old)
copied values old part e l q = (ap length e, q ∙ e ∙ sym (fits values old (l ∙ ap length e)))

pub left_out : (values old part : List ℕ) → part ≡ values → (length old ≡ length part → ⊥) → (length part ≡ length values) × (old ≡ fitted values old)
left_out values old part e l = (ap length e, sym (misfits values old (λ q. l (q ∙ sym (ap length e)))))

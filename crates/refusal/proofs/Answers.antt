-- What a call answers and writes that does as its judge found.
--     number-range      the numbers are 1 to 13
--     number_is         the number of a reply is that of its outcome
--     result, kept      what a slice holds afterwards, where the judge found Ok and where it found a refusal
--     done, refused     the same with the answer, of a call that hands back no value
--     done-reply, refused-reply     what a reply tells of the judge's finding: of a call that completes, and of one that is refused
-- Assumes nothing.
use mathlib.Core.Path.{◌≡◌, refl, sym, ◌∙◌, ap}
use mathlib.Core.List.{List, []}
use Prim.Native.Nat.{ℕ, ◌≤◌}
use native.Mathlib.Omega.{arith}
use Rattle.std.specs.Prelude.{Ok, Err}
use Rattle.refusal.specs.Refusal.{number, outcome_number, Reply, reply, outcome_reply, written, Outcome}
use Rattle.refusal.specs.declared.Refusal.{Refusal}
use Rattle.refusal.specs.declared.Refusal.TheVariants.{Count, Contents, Index, Length, LooseWord, Over, Backwards, Vanishes, AllZero, Misfit, NoInverse, Line, Nesting}

pub number-range : (why : Refusal) → (1 ≤ number why) × (number why ≤ 13)
number-range Count = (omega arith, omega arith)
number-range Contents = (omega arith, omega arith)
number-range Index = (omega arith, omega arith)
number-range Length = (omega arith, omega arith)
number-range LooseWord = (omega arith, omega arith)
number-range Over = (omega arith, omega arith)
number-range Backwards = (omega arith, omega arith)
number-range Vanishes = (omega arith, omega arith)
number-range AllZero = (omega arith, omega arith)
number-range Misfit = (omega arith, omega arith)
number-range NoInverse = (omega arith, omega arith)
number-range Line = (omega arith, omega arith)
number-range Nesting = (omega arith, omega arith)

reply-number : (o : Outcome) (values : List ℕ) → (reply o values).number ≡ outcome_number o
reply-number (Ok _) values = refl
reply-number (Err why) values = refl

pub number_is : (o : Outcome) (values : List ℕ) {r : Reply} → r ≡ reply o values → r.number ≡ outcome_number o
number_is o values e = ap (λ r. r.number) e ∙ reply-number o values

pub result : {found : Outcome} (new old : List ℕ) {left : List ℕ} → found ≡ Ok tt → left ≡ new → left ≡ written found new old
result new old d q = q ∙ sym (ap (λ o. written o new old) d)

pub kept : {found : Outcome} {why : Refusal} (new old : List ℕ) → found ≡ Err why → old ≡ written found new old
kept new old d = sym (ap (λ o. written o new old) d)

pub done : {answer found : Outcome} → answer ≡ found → answer ≡ Ok tt → (new old : List ℕ) {left : List ℕ} → left ≡ new
    → (outcome_reply answer ≡ reply found []) × (left ≡ written found new old)
done e d new old q = (ap outcome_reply e, result new old (sym e ∙ d) q)

pub refused : {answer found : Outcome} {why : Refusal} → answer ≡ found → answer ≡ Err why → (new old : List ℕ)
    → (outcome_reply answer ≡ reply found []) × (old ≡ written found new old)
refused e d new old = (ap outcome_reply e, kept new old (sym e ∙ d))

never-zero : (why : Refusal) → 0 ≡ number why → ⊥
never-zero why e = omega (arith, number-range why)

pub done-reply : (found : Outcome) (v values : List ℕ) → reply (Ok tt) v ≡ reply found values → (found ≡ Ok tt) × (v ≡ values)
done-reply (Ok _) v values e = (refl, ap (λ r. r.values) e)
done-reply (Err why) v values e = absurd (never-zero why (ap (λ r. r.number) e))

pub refused-reply : (why : Refusal) (found : Outcome) (values : List ℕ) → reply (Err why) [] ≡ reply found values
    → (number why ≡ outcome_number found) × ((new old : List ℕ) → old ≡ written found new old)
refused-reply why (Ok _) values e = absurd (never-zero why (sym (ap (λ r. r.number) e)))
refused-reply why (Err other) values e = (ap (λ r. r.number) e, λ new old. refl)

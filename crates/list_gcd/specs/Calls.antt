-- What the GCD of two lists answers, refuses and promises.
--     gcd_reply         what an answer says: w, c and rounds
--     gcd_values        w, the naive degree of h; c; rounds
--     gcd_rows          all zero (9) where both lists are zero; h a slice of exactly as many words as the longest list
--     gcd_answer        what the GCD answers over field k: w, c and rounds
--     gcd_written       what the slice h holds at the end: h, zeros after it
--     GreatestSo        (1-t)^c·h divides both meanings, and every polynomial over the field, of any degree, that divides both divides it,
--                      h being the first w + 1 words of the slice; the slice holds 1 at w and 0 after it; rounds is at most the extent of
--                      f plus 1, and 0 where f is zero
-- Assumes nothing.
use Rattle.refusal.specs.declared.Refusal.{Refusal}
use Rattle.std.specs.Prelude.{◌≡◌, not, List, [], ◌∷◌, ◌++◌, ℕ, suc, ◌+◌, ◌≤◌, ◌<◌, eqb, get_or, length, take, Ok, Err, Result}
use Rattle.algebra.specs.OneMinusT.{⟨1-t⟩^}
use Rattle.algebra.specs.PrimeField.{PrimeField}
use Rattle.refusal.specs.Refusal.{Reply, reply, written, number}
use Rattle.refusal.specs.Lowest.{Condition, ◌given-when◌, lowest}
use Rattle.refusal.specs.declared.Refusal.TheVariants.{AllZero, Misfit}
use Rattle.field.specs.Fields.{modulus, field_at, longest}
use Rattle.lists.specs.Degrees.{naive_degree, significant}
use Rattle.lists.specs.Lists.{meaning}
use Rattle.lists.specs.Padded.{padded}
use Rattle.lists.specs.Refused.{list_refusals}
use Rattle.euclid_theory.specs.Gcd.{common_power, gcd_of, rounds_of}
use Rattle.euclid_theory.specs.Greatest.{IsGreatest}
use Rattle.list_gcd.specs.declared.Gcd.{Gcd}

abbrev pub gcd_reply : Result Gcd Refusal → Reply
gcd_reply (Ok gcd) = record { number = 0; values = gcd.degree.0 ∷ gcd.power.0 ∷ gcd.rounds.0 ∷ [] }
gcd_reply (Err why) = record { number = number why; values = [] }

unfoldable pub gcd_values : PrimeField → (f g : List ℕ) → List ℕ
gcd_values F f g = naive_degree (gcd_of F f g) ∷ common_power (f ∷ g ∷ []) ∷ rounds_of F f g ∷ []

unfoldable pub gcd_rows : (p most : ℕ) → (f g h : List ℕ) → List Condition
gcd_rows p most f g h =
    list_refusals p most (f ∷ g ∷ []) ++
    (AllZero given-when eqb (significant f + significant g) 0 ∷
    Misfit given-when not (eqb (length h) most) ∷
    [])

abbrev pub gcd_answer : (k : ℕ) → (f g h : List ℕ) → Reply
gcd_answer k f g h = reply (lowest (gcd_rows (modulus k) (longest k) f g h)) (gcd_values (field_at k) f g)

abbrev pub gcd_written : (k : ℕ) → (f g h : List ℕ) → List ℕ
gcd_written k f g h =
    written (lowest (gcd_rows (modulus k) (longest k) f g h)) (padded (longest k) (gcd_of (field_at k) f g)) h

pub record GreatestSo (F : PrimeField) (f g slice : List ℕ) (w c rounds : ℕ) : Type 0 where
  pub ends : get_or slice w 0 ≡ 1
  pub zeros : (k : ℕ) → w < k → get_or slice k 0 ≡ 0
  pub greatest : IsGreatest F f g (F.series.ring.mul (⟨1-t⟩^ F.series c) (meaning F (take (suc w) slice)))
  pub few : rounds ≤ significant f

-- of an answer that is no refusal
abbrev pub Greatest : PrimeField → (f g slice : List ℕ) → Result Gcd Refusal → Type 0
Greatest F f g slice (Ok gcd) = GreatestSo F f g slice gcd.degree.0 gcd.power.0 gcd.rounds.0
Greatest F f g slice (Err why) = Unit {0}

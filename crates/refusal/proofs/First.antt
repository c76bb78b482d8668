-- A call tests its conditions one after the other, lowest rank first, and refuses at the first that applies: that is the one of the lowest
-- rank that applies.
--     refuse test why next     refused where the test holds, else what comes after
--     first rows               the first row that applies
--     ascending rows           no row has a lower rank than the row before it: computed, since the numbers are known
-- Theorems:
--     first-is                      of ascending rows the first that applies is the lowest
--     first_then                    the same where one test answers several rows
--     refuse-done, or-else-done     a call that completes: no test held
-- Assumes nothing.
use mathlib.Core.Path.{◌≡◌, refl, sym, ◌∙◌, ap}
use mathlib.Core.Bool.{Bool, true, false, cond, ◌&&◌, ◌||◌}
use mathlib.Core.List.{List, [], ◌∷◌, ◌++◌}
use Prim.Native.Nat.{ℕ, ◌≤◌}
use native.Mathlib.Nat.{le_trans}
use lib.Dec.{T, leb, leb→le}
use borrow.Author.Tests.{le-ltb}
use mir.Facts.{and_yes, yes_and}
use Rattle.refusal.specs.Refusal.{Outcome}
use Rattle.std.specs.Prelude.{Ok, Err}
use Rattle.refusal.specs.Rank.{rank}
use Rattle.refusal.specs.Lowest.{Condition, lower, lowest}
pub use Rattle.refusal.specs.Lowest.{or_else}
use Rattle.refusal.specs.declared.Refusal.{Refusal}

abbrev pub refuse : Bool → Refusal → Outcome → Outcome
refuse true why next = Err why
refuse false why next = next

abbrev pub first : List Condition → Outcome
first [] = Ok tt
first (c ∷ rows) = refuse c.applies c.why (first rows)

abbrev pub ascending : List Condition → Bool
ascending [] = true
ascending (c ∷ []) = true
ascending (c ∷ d ∷ rows) = leb (rank c.why) (rank d.why) && ascending (d ∷ rows)

-- every refusal that the outcome can be has at least the rank n
abbrev AtLeast : ℕ → Outcome → Type 0
AtLeast n (Ok _) = Unit {0}
AtLeast n (Err why) = n ≤ rank why

weaken : {m n : ℕ} (o : Outcome) → m ≤ n → AtLeast n o → AtLeast m o
weaken (Ok _) l h = tt
weaken (Err why) l h = le_trans l h

later : (c : Condition) (rows : List Condition) → T (ascending (c ∷ rows)) → AtLeast (rank c.why) (first rows)
later c [] t = tt
later c (d ∷ rows) t = pick d.applies (later d rows (and_yes (leb (rank c.why) (rank d.why)) (ascending (d ∷ rows)) t).1)
  where
    order : rank c.why ≤ rank d.why
    order = leb→le _ _ (and_yes (leb (rank c.why) (rank d.why)) (ascending (d ∷ rows)) t).0

    pick : (b : Bool) → AtLeast (rank d.why) (first rows) → AtLeast (rank c.why) (refuse b d.why (first rows))
    pick true h = order
    pick false h = weaken (first rows) order h

rest : (c : Condition) (rows : List Condition) → T (ascending (c ∷ rows)) → T (ascending rows)
rest c [] t = tt
rest c (d ∷ rows) t = (and_yes (leb (rank c.why) (rank d.why)) (ascending (d ∷ rows)) t).1

lower-first : (why : Refusal) (o : Outcome) → AtLeast (rank why) o → lower why o ≡ Err why
unfolding lower
lower-first why (Ok _) h = refl
lower-first why (Err other) h = ap (λ b. cond b (Err other) (Err why)) (le-ltb _ _ h)

one-row : (b : Bool) (why : Refusal) (o : Outcome) → AtLeast (rank why) o → cond b (lower why o) o ≡ refuse b why o
one-row true why o h = lower-first why o h
one-row false why o h = refl

pub first-is : (rows : List Condition) → T (ascending rows) → lowest rows ≡ first rows
unfolding lowest
first-is [] t = refl
first-is (c ∷ rows) t =
    ap (λ o. cond c.applies (lower c.why o) o) (first-is rows (rest c rows t))
    ∙ one-row c.applies c.why (first rows) (later c rows t)

first-append : (rows more : List Condition) → first (rows ++ more) ≡ or_else (first rows) (first more)
first-append [] more = refl
first-append (c ∷ rows) more = ap (refuse c.applies c.why) (first-append rows more) ∙ pick c.applies
  where
    pick : (b : Bool) → refuse b c.why (or_else (first rows) (first more)) ≡ or_else (refuse b c.why (first rows)) (first more)
    pick true = refl
    pick false = refl

left-ascending : (rows more : List Condition) → T (ascending (rows ++ more)) → T (ascending rows)
left-ascending [] more t = tt
left-ascending (c ∷ []) more t = tt
left-ascending (c ∷ d ∷ rows) more t =
    let order = leb (rank c.why) (rank d.why) in
    let both = and_yes order (ascending (d ∷ rows ++ more)) t in
    yes_and order (ascending (d ∷ rows)) both.0 (left-ascending (d ∷ rows) more both.1)

-- rows that one test answers, and the rows after them
pub first_then : (rows more : List Condition) → T (ascending (rows ++ more)) → lowest (rows ++ more) ≡ or_else (lowest rows) (first more)
first_then rows more t =
    first-is (rows ++ more) t
    ∙ first-append rows more
    ∙ ap (λ o. or_else o (first more)) (sym (first-is rows (left-ascending rows more t)))

-- a call that completes: no test held
pub refuse-done : (b : Bool) (why : Refusal) (next : Outcome) → refuse b why next ≡ Ok tt → (b ≡ false) × (next ≡ Ok tt)
refuse-done true why next e = (cc, cc)
refuse-done false why next e = (refl, e)

pub or-else-done : (o next : Outcome) → or_else o next ≡ Ok tt → (o ≡ Ok tt) × (next ≡ Ok tt)
or-else-done (Ok _) next e = (refl, e)
or-else-done (Err why) next e = (e, cc)

pub or-false : (a b : Bool) → (a || b) ≡ false → (a ≡ false) × (b ≡ false)
or-false true b e = (e, cc)
or-false false b e = (refl, e)

-- Euclid's rounds on two buffers that alternate, as a loop has them.
--     LedOn                    the rounds go on after one that left x' of x: x' has fewer significant words than y, and the words for quotients
--                              are enough for the rounds that are left
-- Theorems:
--     led-start, led_on        before the first round; after one more
--     round-wants              the words are below p, and 0 from the number of significant ones on
--     steps-fit, round-kept    a round on words, its quotient kept
--     led-end                  where y is zero: all rounds are made, and x is the last x
-- Assumes nothing.
use mathlib.Core.Path.{◌≡◌, refl, sym, ◌∙◌, ap, ap₂, subst}
use mathlib.Core.Bool.{cond, true}
use mathlib.Core.List.{List, [], ◌∷◌, ◌++◌, append_assoc}
use Prim.Native.Nat.{ℕ, suc, max, ◌+◌, ◌-◌, ◌*◌, ◌≤◌, ◌<◌}
use native.Mathlib.Omega.{arith}
use lib.ListN.{length, take, drop, set, length-append, length-take, length-drop}
use Rattle.algebra.specs.Euclid.{Euclid, quotient_by, next, done}
use Rattle.algebra.proofs.Euclid.{done-last}
use Rattle.algebra.specs.PrimeField.{PrimeField, scalar_field}
use Rattle.field.specs.Fields.{field_at, modulus}
use Rattle.field.proofs.Fields.{p-at}
use Rattle.lists.specs.Degrees.{significant}
use Rattle.lists.specs.Words.{ZeroFrom, series_of, Tight}
use Rattle.lists.proofs.Extents.{after-significant}
use Rattle.lists.proofs.Words.{Carries, series_of-carries}
use Rattle.euclid_round.specs.Round.{last_word, round_steps, round_fits, remaining, quotient_words}
use Rattle.euclid_round.proofs.Parts.{Shorten, Rounded, shortened}
use Rattle.euclid_round.proofs.Rounds.{round-ready, round_steps-le, end-euclid, rounds-few, length-remaining, length-quotient_words, remaining-low, round-quotient, round-euclid, round-smaller}
use Rattle.list_gcd.specs.Quotients.{Trail}
use Rattle.list_gcd.specs.Internal.{Buffer, euclid_on, RoundKept, Led, Ends}
use Rattle.list_gcd.proofs.Kept.{quotient-kept, trail-none, trail-next}

-- after a round of so many steps, which leaves fewer words than ny, the rest of the words is enough for the next ones
room-left : (at nx ny steps left room : ℕ) → at + (max nx ny + 2 * ny) ≤ room → steps ≡ nx - (ny - 1) → 0 < ny → left < ny
    → at + (steps + 1) + (max ny left + 2 * left) ≤ room
room-left at nx ny steps left room l e some less = omega arith

module _ (F : PrimeField) (n : ℕ) where
  open F.series.ring use {Carrier as S}

  next_last : (q : S) (z : Euclid F.series (scalar_field F)) → (next F.series (scalar_field F) q z).last ≡ z.last
  unfolding next
  next_last q z = refl

  next-rounds : (q : S) (z : Euclid F.series (scalar_field F)) → (next F.series (scalar_field F) q z).rounds ≡ suc z.rounds
  unfolding next
  next-rounds q z = refl

  done-rounds : (s : S) → (done F.series (scalar_field F) s).rounds ≡ 0
  unfolding done
  done-rounds s = refl

  pub record LedOn (x₀ y₀ y x' : List ℕ) (rounds : ℕ) (words' : List ℕ) (at' ny left room : ℕ) : Type 0 where
    pub next : Led F n x₀ y₀ y x' (rounds + 1) words'
    pub count : left ≡ significant x'
    pub smaller : left < ny
    pub few : rounds < n
    pub enough : at' + (max ny left + 2 * left) ≤ room
    pub within : at' ≤ room

  pub led-start : {x y : List ℕ} → Buffer F n x → Buffer F n y → Led F n x y x y 0 []
  led-start {x} {y} bx by =
      record { buffer_x = bx; buffer_y = by; last = refl; count = omega arith; trail = trail-none F n (euclid_on F n x y) }

  module _ {x₀ y₀ x y : List ℕ} {rounds : ℕ} {words : List ℕ} (t : Led F n x₀ y₀ x y rounds words) where
    -- a round made
    module _ (some : 0 < significant y) where
      carries : Carries F (quotient_words F x y) (quotient_by F.series (scalar_field F) n (significant y - 1) (series_of F x) (series_of F y))
      carries = round-quotient F n x y t.buffer_x.below t.buffer_y.below t.buffer_x.size t.buffer_y.size some

      step : euclid_on F n x y ≡ next F.series (scalar_field F) (series_of F (quotient_words F x y)) (euclid_on F n y (remaining F x y))
      unfolding euclid_on
      step =
          round-euclid F n x y t.buffer_x.below t.buffer_y.below t.buffer_x.size t.buffer_y.size some
          ∙ ap (λ q. next F.series (scalar_field F) q (euclid_on F n y (remaining F x y))) (sym (series_of-carries F carries))

      step-last : (euclid_on F n x y).last ≡ (euclid_on F n y (remaining F x y)).last
      step-last = ap (λ z. z.last) step ∙ next_last _ _

      step-rounds : (euclid_on F n x y).rounds ≡ suc (euclid_on F n y (remaining F x y)).rounds
      step-rounds = ap (λ z. z.rounds) step ∙ next-rounds _ _

      steps_are : length (quotient_words F x y) ≡ round_steps x y
      steps_are = length-quotient_words F n x y t.buffer_x.below t.buffer_y.below t.buffer_x.size t.buffer_y.size some

      step-trail : Trail F n (euclid_on F n x₀ y₀) (euclid_on F n y (remaining F x y)) (words ++ (quotient_words F x y ++ (round_steps x y ∷ [])))
      step-trail =
          subst (λ i. Trail F n (euclid_on F n x₀ y₀) (euclid_on F n y (remaining F x y)) (words ++ (quotient_words F x y ++ (i ∷ [])))) steps_are
          (trail-next F n (quotient_words F x y)
          (record { few = let most = round_steps-le x y in let size = t.buffer_x.size in omega (arith, steps_are); below = carries.below })
          step t.trail)

      led-round : Led F n x₀ y₀ y (remaining F x y) (rounds + 1) (words ++ (quotient_words F x y ++ (round_steps x y ∷ [])))
      led-round =
          record {
            buffer_x = t.buffer_y;
            buffer_y = record {
              size = length-remaining F n x y t.buffer_x.below t.buffer_y.below t.buffer_x.size t.buffer_y.size some;
              below = remaining-low F n x y t.buffer_x.below t.buffer_y.below t.buffer_x.size t.buffer_y.size some;
            };
            last = sym step-last ∙ t.last;
            count = let e = t.count in omega (arith, step-rounds);
            trail = step-trail;
          }

      -- so the number of rounds is small
      led-few : Buffer F n x₀ → Buffer F n y₀ → rounds < n
      led-few bx by =
          let e = t.count in
          let l : (euclid_on F n x₀ y₀).rounds ≤ n = unfold euclid_on in rounds-few F n x₀ y₀ bx.below by.below bx.size by.size in
          omega (arith, step-rounds)

    -- as the code makes it
    pub led_on : (at : ℕ) {nx ny room steps left : ℕ} {x' words' : List ℕ} → Buffer F n x₀ → Buffer F n y₀ → nx ≡ significant x → ny ≡ significant y
        → ¬ (ny ≡ 0) → at + (max nx ny + 2 * ny) ≤ room → RoundKept F x y words steps left x' words'
        → LedOn x₀ y₀ y x' rounds words' (at + (steps + 1)) ny left room
    unfolding round_steps
    led_on at {nx} {ny} {room} {steps} {left} bx by ex ey full enough r =
        record {
          next = rw (r.remainder, r.quotient, r.steps_are) (led-round some);
          count = r.count;
          smaller = fewer;
          few = led-few some bx by;
          enough = rest;
          within = omega (arith, rest);
        }
      where
        some : 0 < significant y
        some = omega arith

        fewer : left < ny
        fewer =
            let less = round-smaller F n x y t.buffer_x.below t.buffer_y.below t.buffer_x.size t.buffer_y.size some in
            omega (arith, less, r.count ∙ ap significant r.remainder)

        rest : at + (steps + 1) + (max ny left + 2 * left) ≤ room
        rest = room-left at nx ny steps left room enough (r.steps_are ∙ ap₂ (λ i j. i - (j - 1)) (sym ex) (sym ey)) (omega arith) fewer

    -- the end
    module _ (none : significant y ≡ 0) where
      ended : euclid_on F n x y ≡ done F.series (scalar_field F) (series_of F x)
      unfolding euclid_on
      ended = end-euclid F n x y t.buffer_x.below t.buffer_y.below t.buffer_x.size t.buffer_y.size none

      pub led-end : Ends F n x₀ y₀ x rounds words
      led-end =
          record {
            count = let e = t.count in omega (arith, ap (λ z. z.rounds) ended, done-rounds (series_of F x));
            holds = record {
              buffer = t.buffer_x;
              series = sym (ap (λ z. z.last) ended ∙ done-last F.series (scalar_field F) (series_of F x)) ∙ t.last;
            };
            trail = subst (λ z. Trail F n (euclid_on F n x₀ y₀) z words) ended t.trail;
          }

-- what a round wants of its buffers
pub round-wants : (k n : ℕ) {x y : List ℕ} {ny : ℕ} → Buffer (field_at k) n x → ny ≡ significant y → Tight (modulus k) x × ZeroFrom ny y
round-wants k n {x} {y} b e = (
  record { at = λ i. rw (p-at k) at (b.below i) },
  record { at = λ i l. after-significant y i (omega arith) },
)

-- a round on words, its quotient put from word `at` on; n words stand in each buffer
module _ (k n nx ny at : ℕ) (x y kept : List ℕ) {steps left : ℕ} {x' lent q' : List ℕ} (bx : Buffer (field_at k) n x)
    (by : Buffer (field_at k) n y) (ex : nx ≡ significant x) (ey : ny ≡ significant y) (some : 0 < ny)
    (room : at + (max nx ny + 2 * ny) ≤ length kept) (el : lent ≡ take (length kept - at) (drop at kept)) (same : length x' ≡ length x) (s : Shorten k nx ny x y lent steps left x' q') where
  made : Rounded k x y lent steps left x' q'
  made = shortened k nx ny x y lent ex ey same s

  lent-long : length lent ≡ length kept - at
  lent-long = ap length el ∙ simp (length-take, length-drop) (omega arith)

  steps-few : round_steps x y + 1 ≤ length lent
  unfolding round_steps
  steps-few = omega (arith, lent-long)

  fits : round_fits (modulus k) x y lent ≡ true
  unfolding last_word
  fits = round-ready (modulus k) x y lent (omega arith) (rw (p-at k) at (by.below (significant y - 1))) (let f = steps-few in omega arith)

  steps-is : steps ≡ round_steps x y
  steps-is = made.steps-made ∙ ap (λ b. cond b (round_steps x y) 0) fits

  pub steps-fit : (steps ≤ n) × (at + steps < length kept)
  steps-fit =
      let most = round_steps-le x y in
      let size = bx.size in
      (omega (arith, steps-is), omega (arith, steps-is, steps-few, lent-long))

  quotient_is : q' ≡ quotient_words (field_at k) x y ++ drop (round_steps x y) lent
  quotient_is = made.quotient ∙ ap (λ b. cond b (quotient_words (field_at k) x y ++ drop (round_steps x y) lent) lent) fits

  quotient-long : length (quotient_words (field_at k) x y) ≡ steps
  quotient-long =
      length-quotient_words (field_at k) n x y bx.below by.below bx.size by.size (omega arith) ∙ sym steps-is

  pub round-kept : (rest : List ℕ) → RoundKept (field_at k) x y (take at kept) steps left x' (take (at + (steps + 1)) (set (take at kept ++ (q' ++ rest)) (at + steps) steps))
  round-kept rest =
      record {
        steps_are = steps-is;
        count = made.count;
        remainder = made.words ∙ ap (λ b. cond b (remaining (field_at k) x y) x) fits;
        quotient =
            ap (λ l. take (at + (steps + 1)) (set (take at kept ++ l) (at + steps) steps))
            (ap (λ l. l ++ rest) quotient_is ∙ append_assoc (quotient_words (field_at k) x y) (drop (round_steps x y) lent) rest)
            ∙ quotient-kept kept (quotient_words (field_at k) x y) (drop (round_steps x y) lent ++ rest) at steps (omega arith) quotient-long
            (rw (length-append (drop (round_steps x y) lent) rest, length-drop (round_steps x y) lent) (omega (arith, steps-few)));
      }

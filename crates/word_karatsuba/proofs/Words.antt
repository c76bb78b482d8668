-- Words modulo p, and lists of words below p.
--     plus-is, minus_is     a sum and a difference, as a row has them
--     tight-..              lists whose words are below p: zeros, rows
-- Assumes nothing.
use mathlib.Core.Path.{◌≡◌, sym, ◌∙◌, ap, ap₂}
use mathlib.Core.List.{List}
use Prim.Native.Nat.{ℕ, ◌+◌, ◌-◌, ◌*◌, ◌%◌, ◌≤◌, ◌<◌}
use native.Mathlib.Nat.{mod-lt, mod-eq_of_lt, add-mod-mod}
use native.Mathlib.Omega.{arith}
use Rattle.lists.specs.Words.{ZeroFrom, Tight}
use Rattle.word_montgomery.proofs.Words.{same}
use Rattle.word_row.specs.Rows.{row, row_from}
use Rattle.word_row.proofs.RowWords.{row_from-below}
use Rattle.word_division.specs.Reduction.{negated}

pub plus-is : (p a b : ℕ) {c r : ℕ} → 0 < p → c ≡ b % p → r ≡ (a + (p - (p - c))) % p → r ≡ (a + 1 * b) % p
plus-is p a b {c} pos e f =
    f ∙ ap (λ n. (a + n) % p) (back ∙ e) ∙ add-mod-mod a b p ∙ ap (λ n. (a + n) % p) once
  where
    low : b % p < p
    low = mod-lt b pos

    back : p - (p - c) ≡ c
    back = omega (arith, low, e)

    once : b ≡ 1 * b
    once = omega arith

-- p - 1 times b is minus b
minus-at : (q a b : ℕ) → b ≤ q + 1 → (a + (q + 1 - b)) % (q + 1) ≡ (a + q * b) % (q + 1)
minus-at q a b l = same (q + 1) (a + (q + 1 - b)) (a + q * b) b 1 (omega arith)

pub minus_is : (p a b : ℕ) {r : ℕ} → 2 ≤ p → b < p → r ≡ (a + (p - b)) % p → r ≡ (a + negated p 1 * b) % p
unfolding negated
minus_is p a b l h e =
    e ∙ ap (λ n. (a + (n - b)) % n) whole ∙ minus-at (p - 1) a b (omega arith) ∙ ap₂ (λ n m. (a + m * b) % n) (sym whole) (sym one)
  where
    whole : p ≡ p - 1 + 1
    whole = omega arith

    one : (p - 1 % p) % p ≡ p - 1
    one = ap (λ n. (p - n) % p) (mod-eq_of_lt l) ∙ mod-eq_of_lt (omega arith)

module _ (p : ℕ) (pos : 0 < p) where
  pub tight-zero : {x : List ℕ} → ZeroFrom 0 x → Tight p x
  tight-zero {x} z = record { at = λ k. rw (z.at k (omega arith)) pos }

  pub tight-row : (x : List ℕ) (m : ℕ) (y : List ℕ) {z : List ℕ} → Tight p x → z ≡ row p x m y → Tight p z
  unfolding row_from
  tight-row x m y t e = rw e (record { at = row_from-below p 0 x m y pos t.at })

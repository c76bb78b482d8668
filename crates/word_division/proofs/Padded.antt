-- Words below p: minus a product by `sub_row`, and the division whose divisor has zeros after its words.
--     minus-digit, minus_one             the factor of a row
--     padded-reduced, padded-digits      one turn of the division
-- Assumes nothing.
use mathlib.Core.Path.{◌≡◌, refl, sym, ◌∙◌, ap}
use mathlib.Core.List.{List, ◌++◌}
use Prim.Native.Nat.{ℕ, ◌+◌, ◌-◌, ◌*◌, ◌%◌, ◌≤◌, ◌<◌}
use native.Mathlib.Nat.{mod-mod, mul-one}
use lib.ListN.{length, get_or, take, drop, set}
use lib.Seq.{length-take-le}
use Rattle.lists.specs.Words.{ZeroFrom, Tight}
use Rattle.word_row.specs.Rows.{row_from, minus_product}
use Rattle.word_division.specs.Reduction.{negated, reduced, digits}
use Rattle.word_division.proofs.Cut.{row_from-cut}
use Rattle.word_division.proofs.Loops.{reduced-turn, digits-turn}

pub minus-digit : (p a inv : ℕ) → minus_product p a inv ≡ negated p ((a * inv) % p)
unfolding minus_product negated
minus-digit p a inv = ap (λ n. (p - n) % p) (sym (mod-mod (a * inv) p))

pub minus_one : (p a : ℕ) → minus_product p a 1 ≡ negated p a
unfolding minus_product negated
minus_one p a = ap (λ n. (p - n % p) % p) (mul-one a)

module _ (p inv n : ℕ) (y : List ℕ) (pos : 0 < p) (ny : n ≤ length y) (zy : ZeroFrom n y)
    (k : ℕ) (x : List ℕ) (lk : 0 < k) (tight : Tight p x) {z : List ℕ} {c : ℕ}
    (ec : c ≡ (get_or x (n - 1 + (k - 1)) 0 * inv) % p) (ez : z ≡ row_from p (k - 1) x (minus_product p (get_or x (n - 1 + (k - 1)) 0) inv) y) where
  row_is : z ≡ row_from p (k - 1) x (negated p c) (take n y)
  row_is =
      ez ∙ ap (λ m. row_from p (k - 1) x m y) (minus-digit p (get_or x (n - 1 + (k - 1)) 0) inv ∙ ap (negated p) (sym ec))
      ∙ sym (row_from-cut p pos n zy (k - 1) x (negated p c) tight.at)

  digit-is : c ≡ (get_or x (length (take n y) - 1 + (k - 1)) 0 * inv) % p
  digit-is = ec ∙ ap (λ l. (get_or x (l - 1 + (k - 1)) 0 * inv) % p) (sym (length-take-le n y ny))

  pub padded-reduced : reduced p inv (take n y) (k - 1) z ≡ reduced p inv (take n y) k x
  padded-reduced = reduced-turn p inv (take n y) k x lk digit-is refl row_is

  pub padded-digits : (q : List ℕ) → k ≤ length q
      → digits p inv (take n y) (k - 1) z ++ drop (k - 1) (set q (k - 1) c) ≡ digits p inv (take n y) k x ++ drop k q
  padded-digits q lq = digits-turn p inv (take n y) k x q lk lq digit-is refl row_is

-- Words that are expanded by halves: the first h of n words, and the other m.
--     sign_at p plus k        1, or (-1)^k modulo p
--     signs p plus n          the first n of these
--     base F plus             the polynomial 1 + t, or 1 - t
--     power_row F plus m      the words of (1 ± t)^m, m + 1 of them
--     joined_series           (1 ± t)^m times the first h words of x plus t^h times the other m, as a series
--     joined F plus h x       the words of it, as many as x has
--     Room h n k o            the lengths fit: h of n words, k of a power of 1 ± t, and o of the result
-- Theorems (proofs/Split):
--     expanded-joined         the two parts, expanded and joined, are all words expanded
-- Assumes nothing.
use Rattle.std.specs.Prelude.{◌≡◌, Bool, cond, List, ℕ, zero, suc, ◌+◌, ◌-◌, ◌≤◌, ◌<◌, length, take, drop}
use Rattle.algebra.specs.Ring.{pow}
use Rattle.algebra.specs.Series.{t}
use Rattle.algebra.specs.OneMinusT.{⟨1-t⟩}
use Rattle.algebra.specs.Substitute.{⟨1+u⟩}
use Rattle.algebra.specs.PrimeField.{PrimeField, value}
use Rattle.lists.specs.Tabulate.{tabulate}
use Rattle.lists.specs.Words.{series_of}
use Rattle.word_expansion.specs.Expansion.{signed}

unfoldable pub sign_at : (p : ℕ) → Bool → ℕ → ℕ
sign_at p plus zero = 1
sign_at p plus (suc k) = signed p plus (sign_at p plus k)

unfoldable pub signs : (p : ℕ) → Bool → ℕ → List ℕ
signs p plus n = tabulate n (sign_at p plus)

module _ (F : PrimeField) where
  open F.series.ring use {Carrier as S, add as ◌+ˢ◌, mul as ◌*ˢ◌}

  infixl 65 ◌+ˢ◌
  infixl 70 ◌*ˢ◌
  unfoldable pub base : Bool → S
  base plus = cond plus (⟨1+u⟩ F.series) (⟨1-t⟩ F.series)

  unfoldable pub power_row : Bool → ℕ → List ℕ
  power_row plus m = tabulate (suc m) (λ k. value F (F.series.coeff (pow F.series.ring (base plus) m) k))

  unfoldable pub joined_series : Bool → (h : ℕ) → List ℕ → S
  joined_series plus h x =
      pow F.series.ring (base plus) (length x - h) *ˢ series_of F (take h x) +ˢ pow F.series.ring (t F.series) h *ˢ series_of F (drop h x)

  unfoldable pub joined : Bool → (h : ℕ) → List ℕ → List ℕ
  joined plus h x = tabulate (length x) (λ k. value F (F.series.coeff (joined_series plus h x) k))

abbrev pub Room : (h n k o : ℕ) → Type 0
Room h n k o = (1 ≤ h) × (h < n) × (h + k ≡ n + 1) × (o ≡ n)

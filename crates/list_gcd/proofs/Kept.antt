-- A round's quotient put after those that are kept.
-- Theorems:
--     quotient-kept            the words after a quotient was written behind them, and then the number of its words
--     trail-none, trail-next   no quotient; one quotient more
-- Assumes nothing.
use mathlib.Core.Path.{◌≡◌, refl, ◌∙◌, ap}
use mathlib.Core.List.{List, [], ◌∷◌, ◌++◌, append_assoc}
use Prim.Native.Nat.{ℕ, suc, ◌+◌, ◌≤◌, ◌<◌}
use native.Mathlib.Omega.{arith}
use lib.ListN.{length, set, take, length-append}
use lib.Seq.{take-suc-set, length-take-le}
use Rattle.algebra.specs.Euclid.{Euclid, next}
use Rattle.algebra.specs.PrimeField.{PrimeField, scalar_field}
use Rattle.lists.specs.Words.{series_of}
use Rattle.lists.proofs.Parts.{part_filled}
use Rattle.list_gcd.specs.Quotients.{laid, before, Quotient, Trail}

-- rest is what stands behind the quotient q, at least a word
pub quotient-kept : (words q rest : List ℕ) (at n : ℕ) → at ≤ length words → length q ≡ n → 0 < length rest
    → take (at + (n + 1)) (set (take at words ++ (q ++ rest)) (at + n) n) ≡ take at words ++ (q ++ (n ∷ []))
quotient-kept words q rest at n inside e some =
    ap (λ i. take i (set (take at words ++ (q ++ rest)) (at + n) n)) next
    ∙ take-suc-set (take at words ++ (q ++ rest)) (at + n) n room
    ∙ ap (λ l. l ++ (n ∷ [])) (part_filled words q rest at n inside e) ∙ append_assoc (take at words) q (n ∷ [])
  where
    next : at + (n + 1) ≡ suc (at + n)
    next = omega arith

    room : at + n < length (take at words ++ (q ++ rest))
    room =
        rw (length-append (take at words) (q ++ rest), length-append q rest, length-take-le at words inside) (omega arith)

module _ (F : PrimeField) (n : ℕ) where
  -- the answer to which and from which the rounds lead
  abbrev Answer : Type 0
  Answer = Euclid F.series (scalar_field F)

  pub trail-none : (z : Answer) → Trail F n z z []
  unfolding before laid
  trail-none z = record { kept = record { quotients = []; each = tt; words_are = refl }; from = refl }

  pub trail-next : {z₀ z z' : Answer} {words : List ℕ} (q : List ℕ) → Quotient F n q → z ≡ next F.series (scalar_field F) (series_of F q) z'
      → Trail F n z₀ z words → Trail F n z₀ z' (words ++ (q ++ (length q ∷ [])))
  unfolding before laid
  trail-next q of-q e t =
      record {
        kept = record { quotients = q ∷ t.kept.quotients; each = (of-q, t.kept.each); words_are = ap (λ l. l ++ (q ++ (length q ∷ []))) t.kept.words_are };
        from = t.from ∙ ap (before F t.kept.quotients) e;
      }

-- The loops that lay out the factors.
--     stand-low, stand-high     a word below 2^15 stands for itself, any other for itself less p
--     stand-zero, odd-zero      so does 0
--     centre-start              how the loop over the words of a list begins
--     spread-next               one turn of the loop over pairs of words
-- Assumes nothing.
use Rattle.std.proofs.Common.{◌≡◌, ℕ, ◌+◌, ◌*◌, ◌%◌, ◌<◌, ◌≤◌, List, get_or, sym, ◌∙◌, subst, arith}
use native.Mathlib.Decide.{ℕ_discrete}
use Rattle.lists.specs.Words.{ZeroFrom}
use Rattle.word_pairs.specs.Pairs.{up}
use Rattle.word_strips.specs.Strips.{Spread}
use Rattle.word_layout.specs.Layout.{Stand, Centred, Repeated}

pub stand-low : (p a : ℕ) → a < 32768 → Stand p a a × (0 < up a)
unfolding up
stand-low p a h = (record { turns = 0; at = omega arith }, omega arith)

pub stand-high : (p a r : ℕ) → 32768 ≤ a → a < 65536 → 32768 ≤ p → p < 65536 → r < 65536 → (r + p) % 65536 ≡ a → Stand p a r × (0 < up r)
unfolding up
stand-high p a r h g q l f e = (record { turns = 1; at = omega (arith, e) }, omega (arith, e))

pub stand-zero : (p : ℕ) → Stand p 0 0
unfolding up
stand-zero p = record { turns = 0; at = omega arith }

pub odd-zero : 0 < up 0
unfolding up
odd-zero = omega arith

pub centre-start : (p d : ℕ) (l s : List ℕ) → ZeroFrom 0 s → Centred p d l s 0
centre-start p d l s z = record {
  low = λ k h. z.at k (omega arith);
  done = λ k h. absurd (omega arith);
  rest = λ k h. z.at k (omega arith);
  odd = record { at = λ k. subst (λ x. 0 < up x) (sym (z.at k (omega arith))) odd-zero };
}

pub spread-next : {x : List ℕ} {d : ℕ} {v v' : List ℕ} {j : ℕ} → Repeated (32 * j) (get_or x (d + 2 * j) 0) (get_or x (d + 2 * j + 1) 0) 16 v v'
    → Spread j v x d → Spread (j + 1) v' x d
spread-next {x} {d} {v} {v'} {j} t c =
    record { first = λ l e q h. first l e q h (ℕ_discrete e j); second = λ l e q h. second l e q h (ℕ_discrete e j) }
  where
    turned : (l : ℕ) → 2 * l + 32 * j ≡ 32 * j + 2 * l
    turned l = omega arith

    first : (l e : ℕ) → l < 16 → e < j + 1 → Dec (e ≡ j) → get_or v' (2 * l + 32 * e) 0 ≡ get_or x (d + 2 * e) 0
    first l e q h (yes f) = rw (f, turned l) (t.first l q)
    first l e q h (no f) = t.below (2 * l + 32 * e) (omega (arith, f)) ∙ c.first l e q (omega arith)

    second : (l e : ℕ) → l < 16 → e < j + 1 → Dec (e ≡ j) → get_or v' (2 * l + 32 * e + 1) 0 ≡ get_or x (d + 2 * e + 1) 0
    second l e q h (yes f) = rw (f, turned l) (t.second l q)
    second l e q h (no f) = t.below (2 * l + 32 * e + 1) (omega (arith, f)) ∙ c.second l e q (omega arith)

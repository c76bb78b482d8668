-- A product modulo p by groups of sixteen rows, in two sums modulo 2^32: of whole pairs, and of their high halves.
--     Grid                  the sums after g groups of rows of 16 n outputs; Steps says it group by group
--     Laid p a y w x        the factors as the groups read them: the first in x, the second, y, in w, each word beside the one before it
--     sum_to n f             the sum of the first n terms
--     low_of a b             the sum of the low halves: that of the whole pairs less that of the high halves
--     high_of p b            the sum of the high halves and 512 p; it is a number as long as there are at most 64 groups
--     Reducible              both are so small that the reduction has 31 bits
--     reduced_words          the first n words, reduced
-- Theorems (proofs/Steps):
--     grid-reducible, grid-near     after at most 64 groups the sums are reducible, and are the rows modulo p
-- Assumes nothing.
use Rattle.std.specs.Prelude.{◌≡◌, ℕ, zero, suc, ◌+◌, ◌-◌, ◌*◌, ◌%◌, ◌≤◌, List, slice_index}
use Rattle.lists.specs.Tabulate.{tabulate}
use Rattle.word_strips.specs.Strips.{Span}
use Rattle.word_layout.specs.Layout.{Stand}

abbrev pub Steps : (w x : List ℕ) (n : ℕ) (lo₀ hi₀ : List ℕ) → ℕ → (lo hi : List ℕ) → Type 0
Steps w x n lo₀ hi₀ zero lo hi = (lo ≡ lo₀) × (hi ≡ hi₀)
Steps w x n lo₀ hi₀ (suc g) lo hi = (lo' : List ℕ) × (hi' : List ℕ) × Steps w x n lo₀ hi₀ g lo' hi' × Span w x (16 * g) 0 (16 * n) lo' hi' lo hi

pub record Grid (w x : List ℕ) (n : ℕ) (lo₀ hi₀ : List ℕ) (g : ℕ) (lo hi : List ℕ) : Type 0 where
  pub steps : Steps w x n lo₀ hi₀ g lo hi

pub record Laid (p : ℕ) (a y w x : List ℕ) : Type 0 where
  pub first : (i : ℕ) → Stand p (slice_index a i) (slice_index x i)
  pub upper : (q : ℕ) → Stand p (slice_index y (q + 1)) (slice_index w (2 * q))
  pub lower : (q : ℕ) → Stand p (slice_index y q) (slice_index w (2 * q + 1))

unfoldable pub sum_to : ℕ → (ℕ → ℕ) → ℕ
sum_to zero f = 0
sum_to (suc n) f = sum_to n f + f n

unfoldable pub low_of : (a b : ℕ) → ℕ
low_of a b = (a + 65536 * (65536 - b % 65536)) % 4294967296

unfoldable pub high_of : (p b : ℕ) → ℕ
high_of p b = (b + 512 * p) % 4294967296

pub record Reducible (p : ℕ) (lo hi : List ℕ) : Type 0 where
  pub low : (k : ℕ) → low_of (slice_index lo k) (slice_index hi k) ≤ 33554432
  pub high : (k : ℕ) → high_of p (slice_index hi k) ≤ 50331648

unfoldable pub reduced_words : (p n : ℕ) → (lo hi : List ℕ) → List ℕ
reduced_words p n lo hi = tabulate n (λ k. (low_of (slice_index lo k) (slice_index hi k) + 65536 * high_of p (slice_index hi k)) % p)

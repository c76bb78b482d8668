-- The h and the number of rounds that document 01 defines for an album, list by list, however they are computed. A zero list is
-- passed over, in no round.
--     Turns f lists h k         from the result so far f, the GCD with each of the lists that is not zero, in turn, ends with h; in
--                               each turn the result so far stands as f; k is the sum of the turns' rounds
--     TheAlbumGcd lists h k     the first list that is not zero, its top zeros removed and scaled to end in 1, takes 0 rounds; the
--                               turns of the later lists lead from it to h in k rounds
-- Theorems (proofs/Defined):
--     album-is-the     the h and rounds of an album's GCD are these
--     album-only       and no others are
--     album-lone       a lone list that is not zero takes 0 rounds
-- Assumes nothing.
use Rattle.std.specs.Prelude.{◌≡◌, List, [], ◌∷◌, ℕ, ◌+◌}
use Rattle.algebra.specs.PrimeField.{PrimeField}
use Rattle.lists.specs.Degrees.{significant}
use Rattle.lists.specs.Lists.{scaled}
use Rattle.euclid_theory.specs.Defined.{MonicOf, TheGcd}

module _ (F : PrimeField) where
  pub data Turns : List ℕ → List (List ℕ) → List ℕ → ℕ → Type 0 where
    none : {f : List ℕ} → Turns f [] f 0
    passed : {f c h : List ℕ} {lists : List (List ℕ)} {k : ℕ} → significant c ≡ 0 → Turns f lists h k → Turns f (c ∷ lists) h k
    turn : {f c g h : List ℕ} {lists : List (List ℕ)} {j k : ℕ} → ¬ (significant c ≡ 0) → TheGcd F f c g j → Turns g lists h k
        → Turns f (c ∷ lists) h (j + k)

  pub data TheAlbumGcd : List (List ℕ) → List ℕ → ℕ → Type 0 where
    passed : {c h : List ℕ} {lists : List (List ℕ)} {k : ℕ} → significant c ≡ 0 → TheAlbumGcd lists h k → TheAlbumGcd (c ∷ lists) h k
    first : {c f h : List ℕ} {lists : List (List ℕ)} {k : ℕ} → ¬ (significant c ≡ 0) → MonicOf F (scaled F c) f → Turns f lists h k
        → TheAlbumGcd (c ∷ lists) h k

-- The parts of some bytes.
--     filled-short                there are no more parts that are not empty than parts
--     parts-short                 there are no more parts than bytes
--     parts-counted               a part ends at each b, and where b does not come last, one more ends with the bytes
--     parts_at, parts_whole       the first part ends at the first b; where there is none, it is all of the bytes
--     filled_after, filled_none   each b in front makes an empty part; where all are b, all parts are empty
--     filled_at, filled_whole     where no b stands in front, the first part is not empty: it ends at the first b, or is all of the bytes
-- Assumes nothing.
use mathlib.Core.Path.{◌≡◌, refl, ◌∙◌, ap}
use mathlib.Core.Bool.{Bool, true, false, cond}
use mathlib.Core.List.{List, [], ◌∷◌}
use Prim.Native.Nat.{ℕ, zero, suc, ◌+◌, ◌≤◌, ◌<◌}
use native.Mathlib.Omega.{arith}
use lib.Dec.{eqb}
use lib.ListN.{length, get_or, take, drop, length-take}
use borrow.Author.Tests.{eq-eqb, ne_eqb}
use Rattle.std.specs.List.{filter, count_by}
use Rattle.std.proofs.lemmas.List.Sums.{length-filter}
use Rattle.bind_text.specs.Text.{onto, parts, filled_of}

filled_part : (part : List ℕ) (rest : List (List ℕ)) → 0 < length part → filled_of (part ∷ rest) ≡ part ∷ filled_of rest
unfolding filled_of
filled_part part rest l = ap (λ t. cond t (filled_of rest) (part ∷ filled_of rest)) (ne_eqb (length part) 0 (λ e. omega arith))

pub filled-short : (some : List (List ℕ)) → length (filled_of some) ≤ length some
unfolding filled_of
filled-short [] = omega arith
filled-short (part ∷ rest) = go (eqb (length part) 0) (filled-short rest)
  where
    go : (t : Bool) → length (filled_of rest) ≤ length rest → length (cond t (filled_of rest) (part ∷ filled_of rest)) ≤ suc (length rest)
    go true l = omega arith
    go false l = omega arith

module _ (b : ℕ) where
  onto-short : (x n : ℕ) (some : List (List ℕ)) → length some ≤ n → length (onto x some) ≤ suc n
  unfolding onto
  onto-short x n [] l = omega arith
  onto-short x n (part ∷ rest) l = omega arith

  pub parts-short : (s : List ℕ) → length (parts b s) ≤ length s
  unfolding parts
  parts-short [] = omega arith
  parts-short (x ∷ s) = go (eqb x b) (parts-short s)
    where
      go : (t : Bool) → length (parts b s) ≤ length s → length (cond t ([] ∷ parts b s) (onto x (parts b s))) ≤ suc (length s)
      go true l = omega arith
      go false l = onto-short x (length s) (parts b s) l

  parts-some : (x : ℕ) (s : List ℕ) → 0 < length (parts b (x ∷ s))
  unfolding onto parts
  parts-some x s = go (eqb x b) (parts b s)
    where
      go : (t : Bool) (some : List (List ℕ)) → 0 < length (cond t ([] ∷ some) (onto x some))
      go true some = omega arith
      go false [] = omega arith
      go false (part ∷ rest) = omega arith

  parts-filtered : (s : List ℕ) (i : ℕ) → i + 1 ≡ length s
      → length (parts b s) ≡ length (filter (λ x. eqb x b) s) + cond (eqb (get_or s i 0) b) 0 1
  unfolding onto parts
  parts-filtered [] i l = absurd (omega arith)
  parts-filtered (x ∷ []) (suc i) l = absurd (omega arith)
  parts-filtered (x ∷ y ∷ s) zero l = absurd (omega arith)
  parts-filtered (x ∷ []) zero l = go (eqb x b)
    where
      go : (t : Bool) → length (cond t ([] ∷ []) (onto x [])) ≡ length (cond t (x ∷ []) []) + cond t 0 1
      go true = refl
      go false = refl
  parts-filtered (x ∷ y ∷ s) (suc i) l = go (eqb x b) (parts b (y ∷ s)) _ _ (parts-some y s) (parts-filtered (y ∷ s) i (omega arith))
    where
      go : (t : Bool) (some : List (List ℕ)) (ends : List ℕ) (n : ℕ) → 0 < length some → length some ≡ length ends + n
          → length (cond t ([] ∷ some) (onto x some)) ≡ length (cond t (x ∷ ends) ends) + n
      go true some ends n l e = omega arith
      go false [] ends n l e = absurd (omega arith)
      go false (part ∷ rest) ends n l e = omega arith

  pub parts-counted : (s : List ℕ) (i : ℕ) → i + 1 ≡ length s
      → length (parts b s) ≡ count_by (λ x. eqb x b) s + cond (eqb (get_or s i 0) b) 0 1
  parts-counted s i l = parts-filtered s i l ∙ ap (λ n. n + cond (eqb (get_or s i 0) b) 0 1) (length-filter (λ x. eqb x b) s)

  pub parts_at : (s : List ℕ) (i : ℕ) → i < length s → get_or s i 0 ≡ b → ((k : ℕ) → k < i → get_or s k 0 ≡ b → ⊥)
      → parts b s ≡ take i s ∷ parts b (drop (suc i) s)
  unfolding onto parts
  parts_at [] i l e f = absurd (omega arith)
  parts_at (x ∷ s) zero l e f = ap (λ t. cond t ([] ∷ parts b s) (onto x (parts b s))) (eq-eqb x b e)
  parts_at (x ∷ s) (suc i) l e f =
      ap (λ t. cond t ([] ∷ parts b s) (onto x (parts b s))) (ne_eqb x b (f 0 (omega arith)))
      ∙ ap (onto x) (parts_at s i (omega arith) e (λ k h. f (suc k) (omega arith)))

  pub parts_whole : (s : List ℕ) → 0 < length s → ((k : ℕ) → k < length s → get_or s k 0 ≡ b → ⊥) → parts b s ≡ s ∷ []
  unfolding onto parts
  parts_whole [] l f = absurd (omega arith)
  parts_whole (x ∷ []) l f = ap (λ t. cond t ([] ∷ []) (onto x [])) (ne_eqb x b (f 0 (omega arith)))
  parts_whole (x ∷ y ∷ s) l f =
      ap (λ t. cond t ([] ∷ parts b (y ∷ s)) (onto x (parts b (y ∷ s)))) (ne_eqb x b (f 0 (omega arith)))
      ∙ ap (onto x) (parts_whole (y ∷ s) (omega arith) (λ k h. f (suc k) (omega arith)))

  -- the parts that are not empty
  pub filled_after : (s : List ℕ) (i : ℕ) → i ≤ length s → ((k : ℕ) → k < i → get_or s k 0 ≡ b) → filled_of (parts b s) ≡ filled_of (parts b (drop i s))
  unfolding parts filled_of
  filled_after s zero l f = refl
  filled_after [] (suc i) l f = absurd (omega arith)
  filled_after (x ∷ s) (suc i) l f =
      ap (λ t. filled_of (cond t ([] ∷ parts b s) (onto x (parts b s)))) (eq-eqb x b (f 0 (omega arith)))
      ∙ filled_after s i (omega arith) (λ k h. f (suc k) (omega arith))

  pub filled_none : (s : List ℕ) → ((k : ℕ) → k < length s → get_or s k 0 ≡ b) → filled_of (parts b s) ≡ []
  unfolding parts filled_of
  filled_none [] f = refl
  filled_none (x ∷ s) f =
      ap (λ t. filled_of (cond t ([] ∷ parts b s) (onto x (parts b s)))) (eq-eqb x b (f 0 (omega arith)))
      ∙ filled_none s (λ k h. f (suc k) (omega arith))

  pub filled_at : (s : List ℕ) (i : ℕ) → (get_or s 0 0 ≡ b → ⊥) → i < length s → get_or s i 0 ≡ b → ((k : ℕ) → k < i → get_or s k 0 ≡ b → ⊥)
      → filled_of (parts b s) ≡ take i s ∷ filled_of (parts b (drop (suc i) s))
  filled_at s zero p l e f = absurd (p e)
  filled_at s (suc i) p l e f =
      ap filled_of (parts_at s (suc i) l e f)
      ∙ filled_part (take (suc i) s) (parts b (drop (suc (suc i)) s)) (omega (arith, length-take (suc i) s))

  pub filled_whole : (s : List ℕ) → 0 < length s → ((k : ℕ) → k < length s → get_or s k 0 ≡ b → ⊥) → filled_of (parts b s) ≡ s ∷ []
  unfolding filled_of
  filled_whole s l f = ap filled_of (parts_whole s l f) ∙ filled_part s [] l

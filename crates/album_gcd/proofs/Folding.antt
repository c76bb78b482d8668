-- The loop over the lists, from the zero list [0].
--     Folding i x n k a     x holds the result after the first i lists, at k rounds; a is their least power so far
-- Assumes nothing.
use mathlib.Core.Path.{◌≡◌, refl, sym, ◌∙◌, ap, ap₂, subst}
use mathlib.Core.List.{List, [], ◌∷◌}
use Prim.Native.Nat.{ℕ, zero, suc, ◌+◌, ◌*◌, ◌≤◌, ◌<◌}
use native.Mathlib.Numerals.{add-one}
use native.Mathlib.Omega.{arith}
use lib.ListN.{get_or, length, take, drop, drop_of_length-le}
use Rattle.std.specs.Prelude.{Option, None}
use Rattle.algebra.specs.PrimeField.{PrimeField}
use Rattle.refusal.specs.Limits.{max_words}
use Rattle.lists.proofs.Padded.{padded-is}
use Rattle.album_reader.specs.Internal.{Held}
use Rattle.album_reader.proofs.Held.{held-take}
use Rattle.album_gcd.specs.Internal.{zero_start, least_with, with_list, fold_gcd, Joined, Folded}
use Rattle.album_gcd.proofs.Folds.{fold-none, fold-drop, start-listed}
use Rattle.album_gcd.proofs.Power.{Lowest, lowest_start, lowest-with, lowest-end}

module _ (F : PrimeField) (most : ℕ) (lists : List (List ℕ)) where
  pub record Folding (i : ℕ) (x : List ℕ) (n k : ℕ) (a : Option ℕ) : Type 0 where
    pub list : List ℕ
    pub held : Held F.p most x n list
    pub few : k ≤ max_words * i
    pub rest : fold_gcd F (record { list = list; rounds = k }) (drop i lists) ≡ fold_gcd F zero_start lists
    pub low : Lowest lists i a

  zero-at : (k : ℕ) → ◌≡◌ {A = ℕ} (get_or (0 ∷ []) k 0) 0
  zero-at zero = refl
  zero-at (suc k) = refl

  pub folding-start : (x : List ℕ) → 0 < most → length x ≡ most → ((k : ℕ) → get_or x k 0 ≡ 0) → Folding 0 x 1 0 None
  folding-start x l e z =
      record {
        list = 0 ∷ [];
        held =
            record {
              listed = start-listed F most l;
              words = refl;
              slice = padded-is most (0 ∷ []) x l e (λ k _. z k ∙ sym (zero-at k));
            };
        few = omega arith;
        rest = refl;
        low = lowest_start lists;
      }

  pub folding-next : most ≤ max_words → {i n k n' k' : ℕ} {a a' : Option ℕ} {x x' c : List ℕ} → Folding i x n k a → i < length lists → c ≡ get_or lists i []
      → Joined F most (take n x) k a c x' n' k' a' → Folding (i + 1) x' n' k' a'
  folding-next room {i} {n} {k} {n'} {k'} {a} {a'} {x} {x'} {c} w l e t =
      record {
        list = t.list;
        held = t.held;
        few = let before = w.few in let here = t.few in omega arith;
        rest =
            ap (λ j. fold_gcd F (record { list = t.list; rounds = k' }) (drop j lists)) (add-one i)
            ∙ ap (λ r. fold_gcd F r (drop (suc i) lists)) (sym joined)
            ∙ sym (fold-drop F (record { list = w.list; rounds = k }) lists i l) ∙ w.rest;
        low = lowest-with lists i a w.low (t.least ∙ ap (least_with a) e);
      }
    where
      joined : with_list F (record { list = w.list; rounds = k }) (get_or lists i []) ≡ record { list = t.list; rounds = k' }
      joined =
          ap₂ (λ f c. with_list F (record { list = f; rounds = k }) c) (sym (held-take w.held)) (sym e) ∙ t.is

  pub folding-end : {i n k : ℕ} {a : Option ℕ} {x : List ℕ} → Folding i x n k a → length lists ≤ i → Folded F most lists x n k a
  folding-end {i} {n} {k} {a} {x} w l =
      record {
        held = subst (λ r. Held F.p most x n r.list) whole w.held;
        rounds = ap (λ r. r.rounds) whole;
        least = lowest-end lists i a w.low l;
      }
    where
      whole : record { list = w.list; rounds = k } ≡ fold_gcd F zero_start lists
      whole =
          sym (ap (fold_gcd F (record { list = w.list; rounds = k })) (drop_of_length-le lists l) ∙ fold-none F (record { list = w.list; rounds = k }))
          ∙ w.rest

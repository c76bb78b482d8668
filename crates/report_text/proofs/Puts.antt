-- Texts put one after the other.
--     Left      a text of which a first part is put, and the rest is left
-- Assumes nothing.
use mathlib.Core.Path.{◌≡◌, refl, sym, ◌∙◌, ap, subst}
use mathlib.Core.List.{List, [], ◌∷◌, ◌++◌, append_assoc, append-nil}
use Prim.Native.Nat.{ℕ, ◌+◌, ◌<◌}
use native.Mathlib.Numerals.{add-one}
use native.Mathlib.Decide.{dec_lt}
use native.Mathlib.Omega.{arith}
use lib.ListN.{length, get_or, take, set, replicate, length-append, length-set, length-replicate, get_or-replicate, get_or-eq_default}
use lib.Seq.{take-suc-set}
use Rattle.std.proofs.lemmas.List.{get_or-set_other}
use Rattle.lists.specs.Words.{ZeroFrom}
use Rattle.report_text.specs.Internal.{Room, Put}

-- nothing
pub put-none : (at : ℕ) (a : List ℕ) → Put [] at a a at
put-none at a = record { same = refl; next = omega arith; bytes = sym (append-nil (take at a)); after = λ k l. refl }

-- one byte stored
pub put_byte : (v at : ℕ) (a : List ℕ) → at < length a → Put (v ∷ []) at a (set a at v) (at + 1)
put_byte v at a l =
    record {
      same = length-set a at v;
      next = omega arith;
      bytes = rw add-one (take-suc-set a at v l);
      after = λ k m. get_or-set_other a at k v 0 (λ e. omega arith);
    }

module _ {t u : List ℕ} {at k : ℕ} {a b : List ℕ} where
  pub put_then : {r : ℕ} {c : List ℕ} → Put t at a b k → Put u k b c r → Put (t ++ u) at a c r
  put_then x y =
      record {
        same = y.same ∙ x.same;
        next = omega (arith, x.next, y.next, length-append t u);
        bytes = y.bytes ∙ ap (λ l. l ++ u) x.bytes ∙ append_assoc (take at a) t u;
        after = λ j l. y.after j l ∙ x.after j (omega (arith, y.next));
      }

  -- the room that is left after the first of two texts
  pub room-then : Room (t ++ u) at a → Put t at a b k → Room u k b
  room-then w x = record { fits = omega (arith, w.fits, x.next, x.same, length-append t u) }

-- the room of the first of two texts
pub room-first : (t u : List ℕ) {at : ℕ} {a : List ℕ} → Room (t ++ u) at a → Room t at a
room-first t u w = record { fits = omega (arith, w.fits, length-append t u) }

-- the same text and place, written otherwise
pub put_is : {t u : List ℕ} {at r k : ℕ} {a b : List ℕ} → t ≡ u → r ≡ k → Put t at a b r → Put u at a b k
put_is {t} {u} {at} {r} {k} {a} {b} e q x = subst (λ l. Put l at a b k) e (subst (λ n. Put t at a b n) q x)

-- the bytes of a page with no text
abbrev zeros : ℕ → List ℕ
zeros n = replicate n 0

zero-at : (n k : ℕ) → Dec (k < n) → get_or (zeros n) k 0 ≡ 0
zero-at n k (yes l) = get_or-replicate n k 0 0 l
zero-at n k (no l) = get_or-eq_default (zeros n) 0 (omega (arith, length-replicate {A = ℕ} n 0))

pub all-zero : (n : ℕ) → ZeroFrom 0 (replicate n 0)
all-zero n = record { at = λ k l. zero-at n k (dec_lt k n) }

-- the same room, written otherwise
pub room-is : {t u : List ℕ} {at : ℕ} {a : List ℕ} → t ≡ u → Room t at a → Room u at a
room-is {t} {u} {at} {a} e w = subst (λ l. Room l at a) e w

pub record Left (whole rest : List ℕ) (at : ℕ) (a b : List ℕ) (r : ℕ) : Type 0 where
  pub text : List ℕ
  pub put : Put text at a b r
  pub is : text ++ rest ≡ whole

module _ {whole : List ℕ} {at : ℕ} {a : List ℕ} where
  pub left-start : Left whole whole at a a at
  left-start = record { text = []; put = put-none at a; is = refl }

  module _ {rest : List ℕ} {b : List ℕ} {k : ℕ} where
    -- one part more
    pub left-next : (t next : List ℕ) {c : List ℕ} {r : ℕ} → rest ≡ t ++ next → Left whole rest at a b k → Put t k b c r
        → Left whole next at a c r
    left-next t next e w x =
        record {
          text = w.text ++ t;
          put = put_then w.put x;
          is = append_assoc w.text t next ∙ ap (λ l. w.text ++ l) (sym e) ∙ w.is;
        }

    -- the room of the next part
    pub left-room : (t next : List ℕ) → rest ≡ t ++ next → Left whole rest at a b k → Room whole at a → Room t k b
    left-room t next e w v = room-first t next (room-then (room-is (sym w.is ∙ ap (λ l. w.text ++ l) e) v) w.put)

pub left_end : {whole : List ℕ} {at k : ℕ} {a b : List ℕ} → Left whole [] at a b k → Put whole at a b k
left_end w = put_is (sym (append-nil w.text) ∙ w.is) refl w.put

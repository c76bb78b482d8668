-- The bytes that an entry names, and those of a list that can be read.
-- Assumes nothing.
use mathlib.Core.Path.{◌≡◌, refl, sym, ap, ap₂, ◌∙◌}
use mathlib.Core.Bool.{true, false, and-false}
use mathlib.Core.List.{List, []}
use Prim.Native.Nat.{ℕ, ◌+◌, ◌*◌, ◌-◌, ◌≤◌, ◌<◌}
use native.Mathlib.Omega.{arith}
use lib.Dec.{ltb}
use lib.ListN.{length, take, drop}
use borrow.Author.Tests.{lt-ltb, le-ltb, le-leb, lt-leb}
use Rattle.std.specs.Prelude.{Ok, Err}
use Rattle.std.specs.Result.{is_err}
use Rattle.refusal.specs.Refusal.{Outcome}
use Rattle.refusal.specs.Lowest.{lowest}
use Rattle.refusal.specs.declared.Refusal.{Refusal}
use Rattle.field.specs.Fields.{modulus}
use Rattle.lists.specs.Bytes.{Bytes, bytes_of}
use Rattle.lists.proofs.Bytes.{length-bytes_of}
use Rattle.album_layout.specs.Layout.{count, degree_at, offset_at, start_at, nth_list}
use Rattle.album_layout.specs.Calls.{check_refusals, body_of, body_place}
use Rattle.album_layout.specs.Internal.{Obeys, named, body_at, place_at}
use Rattle.album_layout.proofs.Places.{length-list, body-inside}
use Rattle.album_layout.proofs.Judged.{call-fine}
use Rattle.album_layout.proofs.Whole.{body_back}

module _ (s : List ℕ) (i : ℕ) where
  pub named_past : count s ≤ i → named s i ≡ false
  unfolding named
  named_past l = rw (le-ltb i (count s) l)

  pub named-out : length s < offset_at s i + 2 * (degree_at s i + 1) → named s i ≡ false
  unfolding named
  named-out l = rw (lt-leb (offset_at s i + 2 * (degree_at s i + 1)) (length s) l) (and-false (ltb i (count s)))

  named_in : i < count s → offset_at s i + 2 * (degree_at s i + 1) ≤ length s → named s i ≡ true
  unfolding named
  named_in l m = rw (lt-ltb i (count s) l, le-leb (offset_at s i + 2 * (degree_at s i + 1)) (length s) m)

  pub body-none : named s i ≡ false → ([] ≡ body_at s i) × (0 ≡ place_at s i)
  unfolding body_at place_at
  body-none e = rw e (refl, refl)

  -- the part that the code takes, from and up to the places that it computes
  pub body-part : i < count s → (from degree : ℕ) → from ≡ offset_at s i → degree ≡ degree_at s i → from + 2 * (degree + 1) ≤ length s
      → (take (from + 2 * (degree + 1) - from) (drop from s) ≡ body_at s i) × (from ≡ place_at s i)
  unfolding body_at place_at
  body-part l from degree f d m =
      let n : from + 2 * (degree + 1) - from ≡ 2 * (degree_at s i + 1) = omega arith in
      rw (named_in l (omega arith)) (ap₂ (λ k j. take k (drop j s)) n f, f)

  module _ (o : Obeys s) (l : i < count s) where
    pub body-start : (body_at s i ≡ take (2 * (degree_at s i + 1)) (drop (start_at s i) s)) × (place_at s i ≡ start_at s i)
    unfolding body_at place_at
    body-start =
        rw (named_in l (body-inside s o i l))
        (ap (λ k. take (2 * (degree_at s i + 1)) (drop k s)) (o.placed i l), o.placed i l)

    pub body_bytes : Bytes s → body_at s i ≡ bytes_of (nth_list s i)
    body_bytes bytes = body-start.0 ∙ body_back s o bytes i l

    pub body-some : Bytes s → 0 < length (body_at s i)
    body-some bytes = omega (arith, ap length (body_bytes bytes), length-bytes_of (nth_list s i), length-list s i)

-- a list that can be read, and one that cannot
read : (o : Outcome) → is_err o ≡ false → o ≡ Ok tt
read (Ok tt) e = refl
read (Err why) e = cc

refused : (o : Outcome) → is_err o ≡ true → (why : Refusal) × (o ≡ Err why)
refused (Ok tt) e = absurd cc
refused (Err why) e = (why, refl)

module _ (k : ℕ) (s : List ℕ) (i : ℕ) {o : Outcome} (judged : o ≡ lowest (check_refusals (modulus k) s i)) where
  pub body-done : is_err o ≡ false → (body_at s i ≡ body_of k s i) × (place_at s i ≡ body_place k s i) × Obeys s × (i < count s)
  unfolding body_of body_place
  body-done e =
      let d = sym judged ∙ read o e in
      let fine = call-fine (modulus k) s i d in
      let part = body-start s i fine.0 fine.1 in
      rw d (part.0, part.1, fine.0, fine.1)

  pub body_refused : is_err o ≡ true → ([] ≡ body_of k s i) × (0 ≡ body_place k s i) × ¬ (lowest (check_refusals (modulus k) s i) ≡ Ok tt)
  unfolding body_of body_place
  body_refused e = let w = refused o e in rw (sym judged ∙ w.1) (refl, refl, λ d. cc)

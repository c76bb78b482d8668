-- What the call answers, leaves in the slice of h and promises.
-- Assumes nothing.
use mathlib.Core.Path.{◌≡◌, sym, ◌∙◌, ap, ap₂}
use mathlib.Core.List.{List, [], ◌∷◌}
use Prim.Native.Nat.{ℕ, suc, ◌-◌, ◌≤◌, ◌<◌}
use native.Mathlib.Decide.{dec_lt}
use native.Mathlib.Omega.{arith}
use lib.ListN.{get_or, length, take, get_or-eq_default}
use lib.Seq.{take_at}
use Rattle.std.specs.Prelude.{Option, Ok, Err}
use Rattle.algebra.specs.PrimeField.{PrimeField}
use Rattle.refusal.specs.Refusal.{reply, written}
use Rattle.refusal.specs.Lowest.{lowest}
use Rattle.refusal.specs.declared.Refusal.{Refusal}
use Rattle.lists.specs.Degrees.{naive_degree}
use Rattle.lists.specs.Lists.{Coefficients}
use Rattle.lists.specs.Refused.{IsList}
use Rattle.euclid_theory.specs.Gcd.{common_power}
use Rattle.lists.specs.Padded.{padded}
use Rattle.lists.proofs.Padded.{get_or-padded}
use Rattle.album_theory.specs.Albums.{album_gcd}
use Rattle.album_theory.proofs.Albums.{coefficients-none}
use Rattle.album_theory.proofs.Greatest.{album-length, album-ends, album-is-greatest}
use Rattle.album_layout.specs.Layout.{lists_of}
use Rattle.list_gcd.specs.Calls.{gcd_reply}
use Rattle.album_gcd.specs.Calls.{album_gcd_rows, album_gcd_values, AlbumGreatestSo}
use Rattle.album_gcd.specs.Internal.{zero_start, fold_gcd, Folded, Answered}
use Rattle.album_gcd.proofs.Folds.{fold-album}
use Rattle.album_gcd.proofs.Zeros.{Nonzero}

pub refused : (F : PrimeField) (most : ℕ) (s h : List ℕ) {why : Refusal} → lowest (album_gcd_rows F.p most s h) ≡ Err why
    → Answered F most s h h (Err why)
refused F most s h e =
    record {
      answer = sym (ap (λ o. reply o (album_gcd_values F (lists_of s))) e);
      writes = sym (ap (λ o. written o (padded most (album_gcd F (lists_of s)).list) h) e);
      greatest = tt;
    }

module _ (F : PrimeField) (most : ℕ) (big : most ≤ F.p) (lists : List (List ℕ))
    (listed : (i : ℕ) → i < length lists → IsList F.p most (get_or lists i [])) (one : Nonzero lists) where
  pub each : (i : ℕ) → Coefficients F (get_or lists i [])
  each i = go (dec_lt i (length lists))
    where
      go : Dec (i < length lists) → Coefficients F (get_or lists i [])
      go (yes l) = record { short = let s = (listed i l).short in omega arith; below = (listed i l).words }
      go (no f) = rw (get_or-eq_default lists [] {n = i} (omega arith)) (coefficients-none F)

  long : length (album_gcd F lists).list ≡ suc (naive_degree (album_gcd F lists).list)
  long = album-length F lists each one.index one.some

  promised : AlbumGreatestSo F lists (padded most (album_gcd F lists).list) (naive_degree (album_gcd F lists).list) (common_power lists)
  promised =
      record {
        ends = get_or-padded most (album_gcd F lists).list _ ∙ album-ends F lists each one.index one.some;
        zeros =
            λ k l. get_or-padded most (album_gcd F lists).list k
            ∙ get_or-eq_default (album_gcd F lists).list 0 (omega (arith, long));
        greatest = rw cut (album-is-greatest F lists each one.index one.some);
      }
    where
      cut : take (suc (naive_degree (album_gcd F lists).list)) (padded most (album_gcd F lists).list) ≡ (album_gcd F lists).list
      cut = unfold padded in take_at (album_gcd F lists).list _ _ long

  module _ {x : List ℕ} {n k c : ℕ} {a : Option ℕ} (f : Folded F most lists x n k a) (e : c ≡ common_power lists) where
    whole : album_gcd F lists ≡ fold_gcd F zero_start lists
    whole = fold-album F lists each one.index one.some

    slice : x ≡ padded most (album_gcd F lists).list
    slice = f.held.slice ∙ ap (λ r. padded most r.list) (sym whole)

    degree : n - 1 ≡ naive_degree (album_gcd F lists).list
    unfolding naive_degree
    degree = ap (λ m. m - 1) (f.held.words ∙ ap (λ r. length r.list) (sym whole))

    answer : gcd_reply (Ok (record { degree = record { 0 = n - 1 }; power = record { 0 = c }; rounds = record { 0 = k } }))
        ≡ record { number = 0; values = album_gcd_values F lists }
    unfolding album_gcd_values
    answer =
        ap (λ m. record { number = 0; values = m ∷ c ∷ k ∷ [] }) degree
        ∙ ap₂ (λ m l. record { number = 0; values = naive_degree (album_gcd F lists).list ∷ m ∷ l ∷ [] }) e
        (f.rounds ∙ ap (λ r. r.rounds) (sym whole))

module _ (F : PrimeField) (most : ℕ) (big : most ≤ F.p) (s h : List ℕ)
    (listed : (i : ℕ) → i < length (lists_of s) → IsList F.p most (get_or (lists_of s) i [])) (one : Nonzero (lists_of s)) where
  pub answered : {x : List ℕ} {n k c : ℕ} {a : Option ℕ} → Ok tt ≡ lowest (album_gcd_rows F.p most s h) → Folded F most (lists_of s) x n k a
      → c ≡ common_power (lists_of s) → Answered F most s h x (Ok (record { degree = record { 0 = n - 1 }; power = record { 0 = c }; rounds = record { 0 = k } }))
  answered {x} {n} {k} {c} {a} e f ec =
      let values = answer F most big (lists_of s) listed one f ec in
      let b = slice F most big (lists_of s) listed one f ec in
      record {
        answer = values ∙ ap (λ o. reply o (album_gcd_values F (lists_of s))) e;
        writes = b ∙ ap (λ o. written o (padded most (album_gcd F (lists_of s)).list) h) e;
        greatest = rw (degree F most big (lists_of s) listed one f ec, ec, b) (promised F most big (lists_of s) listed one);
      }

-- What writing an album refuses, as the chain of tests that the code makes, and what is known of its inputs where nothing is refused.
-- Assumes nothing.
use mathlib.Core.Path.{◌≡◌, refl, sym, ◌∙◌}
use mathlib.Core.Bool.{not, false}
use mathlib.Core.List.{List, [], ◌∷◌, map}
use Prim.Native.Nat.{ℕ, zero, suc, ◌≤◌, ◌<◌}
use native.Mathlib.Omega.{arith}
use lib.Dec.{eqb, ltb}
use lib.ListN.{length, get_or}
use borrow.Author.Tests.{eqb-true, eqb-false, ltb-false, not-false, eq-eqb, ne_eqb, le-ltb}
use Rattle.std.specs.Prelude.{Ok}
use Rattle.refusal.specs.Limits.{max_degree, max_lists, max_words, max_bytes}
use Rattle.refusal.specs.Lowest.{lowest}
use Rattle.refusal.specs.declared.Refusal.TheVariants.{Count, Contents, Length, LooseWord, Misfit}
use Rattle.refusal.proofs.First.{refuse, first-is, refuse-done, or-false}
use Rattle.lists.specs.Degrees.{naive_degree}
use Rattle.lists.specs.Refused.{has_loose}
use Rattle.album_writer.specs.Cut.{words_for}
use Rattle.album_writer.specs.Calls.{wrong_lists, has_high, write_rows}
use Rattle.album_writer.specs.Internal.{Low}

-- ---- a number of lists that an album can have
pub some-lists : (n : ℕ) → wrong_lists n ≡ false → (0 < n) × (n ≤ max_lists)
unfolding wrong_lists
some-lists n e =
    let b = or-false (eqb n 0) (ltb max_lists n) e in
    let some = eqb-false n 0 b.0 in
    (omega arith, ltb-false max_lists n b.1)

pub right-lists : (n : ℕ) → 0 < n → n ≤ max_lists → wrong_lists n ≡ false
unfolding wrong_lists
right-lists n some few = simp (ne_eqb n 0 (λ z. omega arith), le-ltb max_lists n few)

-- ---- degrees of at most the limit
module _ (most : ℕ) where
  pub none-high : (degrees : List ℕ) → has_high most degrees ≡ false → (k : ℕ) → get_or degrees k 0 ≤ most
  unfolding has_high
  none-high [] e k = omega arith
  none-high (d ∷ degrees) e zero = ltb-false most d (or-false (ltb most d) (has_high most degrees) e).0
  none-high (d ∷ degrees) e (suc k) = none-high degrees (or-false (ltb most d) (has_high most degrees) e).1 k

  pub all-low : (degrees : List ℕ) → ((k : ℕ) → get_or degrees k 0 ≤ most) → has_high most degrees ≡ false
  unfolding has_high
  all-low [] h = refl
  all-low (d ∷ degrees) h = rw (le-ltb most d (h 0)) (all-low degrees (λ k. h (suc k)))

-- the naive degrees of lists of at most the longest length
pub short-degrees : (lists : List (List ℕ)) → ((k : ℕ) → k < length lists → length (get_or lists k []) ≤ max_words) → Low (map naive_degree lists)
unfolding naive_degree
short-degrees [] h k = omega arith
short-degrees (c ∷ lists) h zero = omega (arith, h 0 (omega arith))
short-degrees (c ∷ lists) h (suc k) = short-degrees lists (λ i l. h (suc i) (omega arith)) k

-- ---- the call
pub write-judged : (p : ℕ) (words degrees out : List ℕ)
    → lowest (write_rows p words degrees out)
    ≡ refuse (wrong_lists (length degrees)) Count
    (refuse (has_high max_degree degrees) Contents
    (refuse (not (eqb (length words) (words_for degrees))) Length
    (refuse (has_loose p words) LooseWord (refuse (ltb (length out) max_bytes) Misfit (Ok tt)))))
unfolding write_rows
write-judged p words degrees out = first-is (write_rows p words degrees out) tt

pub record Taken (p : ℕ) (words degrees out : List ℕ) : Type 0 where
  pub some : 0 < length degrees
  pub few : length degrees ≤ max_lists
  pub low : Low degrees
  pub size : length words ≡ words_for degrees
  pub tight : has_loose p words ≡ false
  pub room : max_bytes ≤ length out

pub taken : (p : ℕ) (words degrees out : List ℕ) → lowest (write_rows p words degrees out) ≡ Ok tt → Taken p words degrees out
taken p words degrees out e =
    let count = refuse-done (wrong_lists (length degrees)) _ _ (sym (write-judged p words degrees out) ∙ e) in
    let high = refuse-done (has_high max_degree degrees) _ _ count.1 in
    let sum = refuse-done (not (eqb (length words) (words_for degrees))) _ _ high.1 in
    let loose = refuse-done (has_loose p words) _ _ sum.1 in
    let short = refuse-done (ltb (length out) max_bytes) _ _ loose.1 in
    let lists = some-lists (length degrees) count.0 in
    record {
      some = lists.0;
      few = lists.1;
      low = none-high max_degree degrees high.0;
      size = eqb-true (length words) _ (not-false _ sum.0);
      tight = loose.0;
      room = ltb-false (length out) max_bytes short.0;
    }

pub taken-done : (p : ℕ) (words degrees out : List ℕ) → Taken p words degrees out → lowest (write_rows p words degrees out) ≡ Ok tt
taken-done p words degrees out t =
    write-judged p words degrees out
    ∙ simp (
      right-lists (length degrees) t.some t.few,
      all-low max_degree degrees t.low,
      eq-eqb (length words) (words_for degrees) t.size,
      t.tight,
      le-ltb (length out) max_bytes t.room,
    )

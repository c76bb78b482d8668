-- Laws of a stack that lies in two slices.
--     filled-low          it has at most max_words words for each list
--     top-size            the size that stands last is that of the list on top
--     top-words           the last words are those of the list on top
--     taken               the stack without the list on top
--     put_on              the stack with a list more, whose words were put behind it
--     reword              the same stack by other words
--     Tops, tops          what is known of the numbers where the stack has a list
--     Twos, twos          and where it has two
-- Assumes nothing.
use mathlib.Core.Path.{◌≡◌, refl, sym, ◌∙◌, ap, ap₂, subst}
use mathlib.Core.List.{List, [], ◌∷◌, ◌++◌, append-nil}
use Prim.Native.Nat.{ℕ, suc, ◌+◌, ◌-◌, ◌*◌, ◌≤◌, ◌<◌}
use native.Mathlib.Numerals.{add-one}
use native.Mathlib.Omega.{arith}
use lib.ListN.{length, get_or, set, take, drop, length-append}
use lib.Seq.{get_or-take, get_or_at, take-suc-set}
use Rattle.refusal.specs.Limits.{max_words}
use Rattle.lists.specs.Refused.{IsList}
use Rattle.lists.proofs.Parts.{part_filled, front_of, part_of}
use Rattle.line_values.specs.Internal.{Stack, packed, sizes_of, Lists, Stacked}

sizes-length : (s : Stack) → length (sizes_of s) ≡ length s
sizes-length [] = refl
sizes-length (c ∷ s) = let n = sizes-length s in length-append (sizes_of s) (length c ∷ []) ∙ omega arith

packed-low : (p most : ℕ) → most ≤ max_words → (s : Stack) → Lists p most s → length (packed s) ≤ max_words * length s
packed-low p most m [] h = omega arith
packed-low p most m (c ∷ s) h =
    let short = h.0.short in
    let rest = packed-low p most m s h.1 in
    let n = length-append (packed s) c in
    omega arith

module _ {p most : ℕ} {words sizes : List ℕ} {top filled : ℕ} where
  pub filled-low : {st : Stack} → most ≤ max_words → Stacked p most words sizes top filled st → filled ≤ max_words * top
  filled-low {st} m h =
      let low = packed-low p most m st h.lists in
      let n = h.size in
      let t = h.height in
      omega arith

  module _ (c : List ℕ) (s : Stack) (h : Stacked p most words sizes top filled (c ∷ s)) where
    height-is : top ≡ suc (length s)
    height-is = h.height

    size_is : filled ≡ length (packed s) + length c
    size_is = h.size ∙ length-append (packed s) c

    pub top-size : get_or sizes (top - 1) 0 ≡ length c
    top-size =
        let t = height-is in
        sym (get_or-take top sizes (top - 1) 0 (omega arith))
        ∙ ap (λ l. get_or l (top - 1) 0) h.lengths
        ∙ get_or_at (sizes_of s) (length c) [] 0 (top - 1) (omega (arith, sizes-length s))

    before : filled - get_or sizes (top - 1) 0 ≡ length (packed s)
    before = let k = top-size in let f = size_is in omega arith

    pub top-words : {from m : ℕ} → from ≡ filled - get_or sizes (top - 1) 0 → m ≡ filled - from → take m (drop from words) ≡ c
    top-words {from} {m} e q =
        let k = top-size in
        let f = size_is in
        part_of words (packed s) c [] filled from m (h.held ∙ sym (ap (λ a. packed s ++ a) (append-nil c))) (e ∙ before) (omega arith)

    pub taken : Stacked p most words sizes (top - 1) (filled - get_or sizes (top - 1) 0) s
    taken =
        let t = height-is in
        let lower : top - 1 ≡ length s = omega arith in
        record {
          height = lower;
          size = before;
          held = front_of words (packed s) c filled _ h.held before;
          lengths = front_of sizes (sizes_of s) (length c ∷ []) top (top - 1) h.lengths (lower ∙ sym (sizes-length s));
          lists = h.lists.1;
        }

  pub put_on : {st : Stack} → Stacked p most words sizes top filled st → (c rest : List ℕ) {n : ℕ} → IsList p most c → n ≡ length c
      → filled ≤ length words → top < length sizes
      → Stacked p most (take filled words ++ (c ++ rest)) (set sizes top n) (top + 1) (filled + n) (c ∷ st)
  put_on {st} h c rest {n} l e f t =
      let a = h.height in
      let b = h.size in
      record {
        height = omega arith;
        size = omega (arith, length-append (packed st) c);
        held = part_filled words c rest filled n f (sym e) ∙ ap (λ w. w ++ c) h.held;
        lengths = rw add-one (take-suc-set sizes top n t) ∙ ap₂ (λ s m. s ++ (m ∷ [])) h.lengths e;
        lists = (l, h.lists);
      }

-- the same stack by other words
pub reword : {p most : ℕ} {words words' sizes : List ℕ} {top filled : ℕ} {s : Stack} → words ≡ words'
    → Stacked p most words sizes top filled s → Stacked p most words' sizes top filled s
reword {p} {most} {words} {words'} {sizes} {top} {filled} {s} e h = subst (λ w. Stacked p most w sizes top filled s) e h

-- what is known of the numbers of a stack of some lists
pub record Tops (most : ℕ) (words sizes : List ℕ) (top filled : ℕ) : Type 0 where
  pub some : 1 ≤ get_or sizes (top - 1) 0
  pub short : get_or sizes (top - 1) 0 ≤ most
  pub inside : get_or sizes (top - 1) 0 ≤ filled
  pub below : filled - get_or sizes (top - 1) 0 ≤ max_words * (top - 1)
  pub full : filled ≤ max_words * top

module _ {p most : ℕ} {words sizes : List ℕ} {top filled : ℕ} (m : most ≤ max_words) where
  pub tops : (st : Stack) → Stacked p most words sizes top filled st → 1 ≤ top → Tops most words sizes top filled
  tops [] h l = absurd (let t = h.height in omega arith)
  tops (c ∷ s) h l =
      let k = top-size c s h in
      let f = size_is c s h in
      let list = h.lists.0 in
      let some = list.some in
      let short = list.short in
      record { some = omega arith; short = omega arith; inside = omega arith; below = filled-low m (taken c s h); full = filled-low m h }

  -- the stack without the list on top, whatever that is
  pub lower : (st : Stack) → Stacked p most words sizes top filled st → 1 ≤ top
      → (s : Stack) × Stacked p most words sizes (top - 1) (filled - get_or sizes (top - 1) 0) s
  lower [] h l = absurd (let t = h.height in omega arith)
  lower (c ∷ s) h l = (s, taken c s h)

-- the same of a stack of two lists at least
pub record Twos (most : ℕ) (words sizes : List ℕ) (top filled : ℕ) : Type 0 where
  pub first : Tops most words sizes top filled
  pub second-inside : get_or sizes (top - 2) 0 ≤ filled - get_or sizes (top - 1) 0
  pub second_below : filled - get_or sizes (top - 1) 0 - get_or sizes (top - 2) 0 ≤ max_words * (top - 2)

pub twos : {p most : ℕ} {words sizes : List ℕ} {top filled : ℕ} → most ≤ max_words → (st : Stack) → Stacked p most words sizes top filled st → 2 ≤ top
    → Twos most words sizes top filled
twos {p} {most} {words} {sizes} {top} {filled} m st h l =
    let under = lower m st h (omega arith) in
    let second = tops m under.0 under.1 (omega arith) in
    let lower-size : top - 1 - 1 ≡ top - 2 = omega arith in
    let size = ap (λ i. get_or sizes i 0) lower-size in
    let inside = second.inside in
    let below = second.below in
    record { first = tops m st h (omega arith); second-inside = omega arith; second_below = omega arith }

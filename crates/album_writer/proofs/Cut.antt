-- Lists in one buffer of words, and the same lists apart.
--     few_words      degrees of at most the limit: a bound on the words
--     length_cut     as many lists as degrees
-- Theorems:
--     joined-cut     words that are as many as the degrees say are those of the lists cut from them
--     degrees-cut    the naive degrees of these lists are the given ones
--     cut-joined     lists of at least one word are cut from their own words by their own naive degrees
--     joined-size    these words are as many as the degrees say
--     joined-loose   a list has a loose word exactly where the words of all lists have one
-- Assumes nothing.
use mathlib.Core.Path.{◌≡◌, refl, sym, ◌∙◌, ap, ap₂}
use mathlib.Core.Bool.{Bool, true, false, ◌||◌}
use mathlib.Core.List.{List, [], ◌∷◌, ◌++◌, map}
use Prim.Native.Nat.{ℕ, suc, ◌+◌, ◌-◌, ◌*◌, ◌≤◌, ◌<◌}
use native.Mathlib.Omega.{arith}
use lib.Dec.{leb}
use lib.ListN.{length, get_or, take, drop, length-drop, length-append, take-append-drop}
use lib.Seq.{length-take-le, take_at, drop_at}
use Rattle.refusal.specs.Limits.{max_words}
use Rattle.lists.specs.Degrees.{naive_degree}
use Rattle.lists.specs.Refused.{has_loose, any_of}
use Rattle.album_writer.specs.Cut.{words_for, cut_by, joined}
use Rattle.album_writer.specs.Internal.{Low}

-- every list has a word
abbrev pub AllSome : List (List ℕ) → Type 0
AllSome lists = (k : ℕ) → k < length lists → 0 < length (get_or lists k [])

-- ---- cut from a buffer
pub few_words : (degrees : List ℕ) → Low degrees → words_for degrees ≤ max_words * length degrees
unfolding words_for
few_words [] h = omega arith
few_words (d ∷ degrees) h = omega (arith, few_words degrees (λ k. h (suc k)), h 0)

pub length_cut : (degrees words : List ℕ) → length (cut_by degrees words) ≡ length degrees
unfolding cut_by
length_cut [] words = refl
length_cut (d ∷ degrees) words = ap suc (length_cut degrees (drop (d + 1) words))

pub none_left : (words : List ℕ) → length words ≡ 0 → words ≡ []
none_left [] e = refl
none_left (x ∷ words) e = absurd (omega arith)

pub joined-cut : (degrees words : List ℕ) → length words ≡ words_for degrees → joined (cut_by degrees words) ≡ words
unfolding joined cut_by words_for
joined-cut [] words e = sym (none_left words e)
joined-cut (d ∷ degrees) words e =
    ap (λ r. take (d + 1) words ++ r) (joined-cut degrees (drop (d + 1) words) (simp length-drop (omega arith)))
    ∙ take-append-drop (d + 1) words

pub degrees-cut : (degrees words : List ℕ) → words_for degrees ≤ length words → map naive_degree (cut_by degrees words) ≡ degrees
unfolding cut_by words_for naive_degree
degrees-cut [] words l = refl
degrees-cut (d ∷ degrees) words l =
    ap₂ ◌∷◌ (omega (arith, length-take-le (d + 1) words (omega arith)))
    (degrees-cut degrees (drop (d + 1) words) (simp length-drop (omega arith)))

-- ---- put together
pub cut-joined : (lists : List (List ℕ)) → AllSome lists → cut_by (map naive_degree lists) (joined lists) ≡ lists
unfolding cut_by joined naive_degree
cut-joined [] h = refl
cut-joined (c ∷ lists) h =
    ap₂ ◌∷◌ (take_at c (joined lists) (length c - 1 + 1) back)
    (ap (cut_by (map naive_degree lists)) (drop_at c (joined lists) (length c - 1 + 1) back) ∙ cut-joined lists (λ k l. h (suc k) (omega arith)))
  where
    back : length c ≡ length c - 1 + 1
    back = let l = h 0 (omega arith) in omega arith

pub joined-size : (lists : List (List ℕ)) → AllSome lists → length (joined lists) ≡ words_for (map naive_degree lists)
unfolding joined words_for naive_degree
joined-size [] h = refl
joined-size (c ∷ lists) h =
    let some = h 0 (omega arith) in
    length-append c (joined lists) ∙ omega (arith, joined-size lists (λ k l. h (suc k) (omega arith)))

or_assoc : (a b c : Bool) → (a || b) || c ≡ a || (b || c)
or_assoc true b c = refl
or_assoc false b c = refl

loose-append : (p : ℕ) (a b : List ℕ) → has_loose p (a ++ b) ≡ has_loose p a || has_loose p b
unfolding has_loose
loose-append p [] b = refl
loose-append p (x ∷ a) b = ap (λ t. leb p x || t) (loose-append p a b) ∙ sym (or_assoc (leb p x) (has_loose p a) (has_loose p b))

pub joined-loose : (p : ℕ) (lists : List (List ℕ)) → any_of (has_loose p) lists ≡ has_loose p (joined lists)
unfolding joined has_loose
joined-loose p [] = refl
joined-loose p (c ∷ lists) = ap (λ t. has_loose p c || t) (joined-loose p lists) ∙ sym (loose-append p c (joined lists))

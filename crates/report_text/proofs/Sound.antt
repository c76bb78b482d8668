-- What the GCD of an album gives its report.
--     Answer     a slice whose first w + 1 words are h, and the common power c
-- Assumes nothing.
use mathlib.Core.Path.{◌≡◌, refl, sym, ◌∙◌, ap, ap₂, subst}
use mathlib.Core.Bool.{Bool, true, false}
use mathlib.Core.List.{List, [], ◌∷◌, ◌++◌}
use Prim.Native.Nat.{ℕ, ◌+◌, ◌≤◌, ◌<◌}
use native.Mathlib.Decide.{dec_lt}
use native.Mathlib.Omega.{arith}
use lib.ListN.{length, get_or, take, get_or-eq_default}
use lib.Seq.{take_at}
use Rattle.std.specs.Prelude.{Ok, Err, Result}
use Rattle.algebra.specs.PrimeField.{PrimeField}
use Rattle.refusal.specs.Limits.{max_words}
use Rattle.refusal.specs.Refusal.{reply, written}
use Rattle.refusal.specs.Lowest.{lowest}
use Rattle.refusal.specs.declared.Refusal.{Refusal}
use Rattle.refusal.specs.declared.Refusal.TheVariants.{AllZero}
use Rattle.lists.specs.declared.NaiveDegree.{NaiveDegree}
use Rattle.lists.specs.declared.Power.{Power}
use Rattle.lists.specs.Degrees.{naive_degree}
use Rattle.lists.proofs.Extents.{power_le}
use Rattle.euclid_theory.specs.Gcd.{common_power}
use Rattle.lists.specs.Padded.{padded}
use Rattle.lists.proofs.Padded.{padded-inside, get_or-padded}
use Rattle.euclid_theory.proofs.Powers.{common_power-attained}
use Rattle.album_theory.specs.Albums.{album_gcd}
use Rattle.album_layout.specs.Layout.{lists_of}
use Rattle.album_layout.specs.Internal.{Passed}
use Rattle.list_gcd.specs.declared.Gcd.{Gcd}
use Rattle.list_gcd.specs.declared.Rounds.{Rounds}
use Rattle.list_gcd.specs.Calls.{gcd_reply}
use Rattle.album_gcd.specs.Calls.{all_zero, album_gcd_rows, album_gcd_values, AlbumGreatestSo, AlbumGreatest}
use Rattle.album_gcd.proofs.Judging.{judged-zero, judged-done}
use Rattle.album_gcd.proofs.Zeros.{nonzero}
use Rattle.report_text.specs.Text.{decimal, line}
use Rattle.report_text.specs.Report.{⟨lists⟩, ⟨refused⟩, list_lines, gcd_lines, refused_line, sound_report}
use Rattle.report_text.specs.Internal.{max_answer, answer_lines}
use Rattle.report_text.proofs.Fits.{gcd-fits}

pub record Answer (lists : List (List ℕ)) (h slice : List ℕ) (w c : ℕ) : Type 0 where
  pub some : all_zero lists ≡ false
  pub list : take (w + 1) slice ≡ h
  pub words : length h ≡ w + 1
  pub short : length h ≤ length slice
  pub word : (k : ℕ) → get_or h k 0 ≡ get_or slice k 0
  pub power : c ≡ common_power lists

-- a power is below the number of words
pub common-power-short : (lists : List (List ℕ)) (most : ℕ) → 0 < most → all_zero lists ≡ false
    → ((j : ℕ) → j < length lists → length (get_or lists j []) ≤ most) → common_power lists < most
common-power-short lists most l e each =
    let one = nonzero lists e in
    let a = common_power-attained lists one.index one.some in
    rw a.is (omega (arith, power_le (get_or lists a.index []), go a.index (dec_lt a.index (length lists))))
  where
    go : (i : ℕ) → Dec (i < length lists) → length (get_or lists i []) ≤ most
    go i (yes k) = each i k
    go i (no f) = rw (get_or-eq_default lists [] {n = i} (omega arith)) (omega arith)

module _ (F : PrimeField) (most : ℕ) (s h : List ℕ) (e : Passed F.p s) (q : length h ≡ most) where
  reply-zero : all_zero (lists_of s) ≡ true → reply (lowest (album_gcd_rows F.p most s h)) (album_gcd_values F (lists_of s)) ≡ record { number = 9; values = [] }
  reply-zero z = ap (λ o. reply o (album_gcd_values F (lists_of s))) (sym (judged-zero F.p most s h e z))

  reply-done : all_zero (lists_of s) ≡ false
      → reply (lowest (album_gcd_rows F.p most s h)) (album_gcd_values F (lists_of s)) ≡ record { number = 0; values = album_gcd_values F (lists_of s) }
  reply-done z = ap (λ o. reply o (album_gcd_values F (lists_of s))) (sym (judged-done F.p most s h e z q))

  -- a refusal says that all lists are zero
  module _ (why : Refusal) (a : gcd_reply (Err why) ≡ reply (lowest (album_gcd_rows F.p most s h)) (album_gcd_values F (lists_of s))) where
    pub refused-zero : all_zero (lists_of s) ≡ true
    refused-zero = go (all_zero (lists_of s)) refl
      where
        go : (b : Bool) → all_zero (lists_of s) ≡ b → all_zero (lists_of s) ≡ true
        go true z = z
        go false z =
            unfold album_gcd_values in absurd (let v = ap (λ r. length r.values) (a ∙ reply-done z) in omega arith)

    pub refused-line : refused_line why ≡ refused_line AllZero
    unfolding refused_line
    refused-line = ap (λ n. line (⟨refused⟩ ∷ decimal n ∷ [])) (ap (λ r. r.number) (a ∙ reply-zero refused-zero))

  module _ {h' : List ℕ} (w : NaiveDegree) (c : Power) (k : Rounds)
      (a : gcd_reply (Ok (record { degree = w; power = c; rounds = k })) ≡ reply (lowest (album_gcd_rows F.p most s h)) (album_gcd_values F (lists_of s)))
      (b : h' ≡ written (lowest (album_gcd_rows F.p most s h)) (padded most (album_gcd F (lists_of s)).list) h)
      (g : AlbumGreatestSo F (lists_of s) h' w.0 c.0) where
    done-some : all_zero (lists_of s) ≡ false
    done-some = go (all_zero (lists_of s)) refl
      where
        go : (b : Bool) → all_zero (lists_of s) ≡ b → all_zero (lists_of s) ≡ false
        go true z = absurd (let v = ap (λ r. r.number) (a ∙ reply-zero z) in omega arith)
        go false z = z

    values : w.0 ∷ c.0 ∷ k.0 ∷ [] ≡ album_gcd_values F (lists_of s)
    values = ap (λ r. r.values) (a ∙ reply-done done-some)

    slice : h' ≡ padded most (album_gcd F (lists_of s)).list
    slice = b ∙ ap (λ o. written o (padded most (album_gcd F (lists_of s)).list) h) (sym (judged-done F.p most s h e done-some q))

    word : (j : ℕ) → get_or (album_gcd F (lists_of s)).list j 0 ≡ get_or h' j 0
    word j = sym (ap (λ l. get_or l j 0) slice ∙ get_or-padded most (album_gcd F (lists_of s)).list j)

    -- h ends in 1, so it has a word w
    words : length (album_gcd F (lists_of s)).list ≡ w.0 + 1
    words = go (dec_lt w.0 (length (album_gcd F (lists_of s)).list))
      where
        degree : w.0 ≡ naive_degree (album_gcd F (lists_of s)).list
        degree = unfold album_gcd_values in ap (λ v. get_or v 0 0) values

        go : Dec (w.0 < length (album_gcd F (lists_of s)).list) → length (album_gcd F (lists_of s)).list ≡ w.0 + 1
        go (yes l) = let d = degree in unfold naive_degree in omega arith
        go (no f) =
            absurd (let z = get_or-eq_default (album_gcd F (lists_of s)).list 0 {n = w.0} (omega arith) in omega (arith, word w.0, g.ends))

    pub done-answer : Answer (lists_of s) (album_gcd F (lists_of s)).list h' w.0 c.0
    unfolding padded album_gcd_values
    done-answer =
        record {
          some = done-some;
          list = ap (take (w.0 + 1)) slice ∙ take_at (album_gcd F (lists_of s)).list _ (w.0 + 1) words;
          words = words;
          short = omega (arith, ap length slice, padded-inside most (album_gcd F (lists_of s)).list);
          word = word;
          power = ap (λ v. get_or v 1 0) values;
        }

-- the same of any answer
pub answered : (F : PrimeField) (most : ℕ) (s h : List ℕ) → Passed F.p s → length h ≡ most → {h' : List ℕ} {w : NaiveDegree} {c : Power} {k : Rounds} {r : Result Gcd Refusal}
    → r ≡ Ok (record { degree = w; power = c; rounds = k }) → gcd_reply r ≡ reply (lowest (album_gcd_rows F.p most s h)) (album_gcd_values F (lists_of s))
    → h' ≡ written (lowest (album_gcd_rows F.p most s h)) (padded most (album_gcd F (lists_of s)).list) h
    → AlbumGreatest F (lists_of s) h' r → Answer (lists_of s) (album_gcd F (lists_of s)).list h' w.0 c.0
answered F most s h e q {h'} {w} {c} {k} {r} i a b g =
    done-answer F most s h e q w c k (ap gcd_reply (sym i) ∙ a) b (subst (AlbumGreatest F (lists_of s) h') i g)

-- the report's lines after those of the lists
module _ (F : PrimeField) (lists : List (List ℕ)) where
  pub answer-zero : all_zero lists ≡ true → answer_lines F lists ≡ refused_line AllZero
  unfolding answer_lines
  answer-zero z = rw z

  pub answer-gcd : {slice : List ℕ} {w c : ℕ} → Answer lists (album_gcd F lists).list slice w c
      → gcd_lines F (take (w + 1) slice) c ≡ answer_lines F lists
  unfolding answer_lines
  answer-gcd a = rw a.some (ap₂ (gcd_lines F) a.list a.power)

  pub sound-lines : sound_report F lists ≡ line (⟨lists⟩ ∷ decimal (length lists) ∷ []) ++ (list_lines 0 lists ++ answer_lines F lists)
  unfolding sound_report answer_lines
  sound-lines = refl

pub refused-answer : (F : PrimeField) (most : ℕ) (s h : List ℕ) → Passed F.p s → length h ≡ most → {why : Refusal} {r : Result Gcd Refusal} → r ≡ Err why
    → gcd_reply r ≡ reply (lowest (album_gcd_rows F.p most s h)) (album_gcd_values F (lists_of s)) → refused_line why ≡ answer_lines F (lists_of s)
refused-answer F most s h e q {why} {r} i a =
    let b = ap gcd_reply (sym i) ∙ a in
    refused-line F most s h e q why b ∙ sym (answer-zero F (lists_of s) (refused-zero F most s h e q why b))

pub answer-fits : (F : PrimeField) {lists : List (List ℕ)} {h slice : List ℕ} {w c : ℕ} → Answer lists h slice w c → length slice ≤ max_words
    → c < max_words → ((k : ℕ) → get_or slice k 0 < 65536) → length (gcd_lines F h c) ≤ max_answer
answer-fits F {lists} {h} {slice} {w} {c} a e l small =
    let words = a.words in
    let short = a.short in
    let fits = gcd-fits F h c (omega arith) (omega arith) (λ k. rw (a.word k) (small k)) in
    omega arith

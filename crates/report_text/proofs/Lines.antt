-- The lines of the report, as the code puts them: one part after the other.
--     fields      words, a space before each
-- Assumes nothing.
use mathlib.Core.Path.{◌≡◌, refl, sym, ◌∙◌, ap}
use mathlib.Core.Bool.{Bool, true, false, cond}
use mathlib.Core.List.{List, [], ◌∷◌, ◌++◌, append_assoc, map}
use Prim.Native.Nat.{ℕ, suc, ◌+◌, ◌≤◌, ◌<◌}
use native.Mathlib.Numerals.{add-one}
use native.Mathlib.Omega.{arith}
use lib.Dec.{eqb}
use lib.ListN.{length, get_or, drop, drop_of_length-le}
use lib.Seq.{drop-cons}
use borrow.Author.Tests.{eq-eqb, ne_eqb}
use Rattle.algebra.specs.PrimeField.{PrimeField}
use Rattle.lists.specs.Degrees.{naive_degree, significant, extent, power}
use Rattle.report_text.specs.Text.{decimal, line}
use Rattle.report_text.specs.Report.{⟨gcd⟩, ⟨-⟩, list_line, list_lines, gcd_degree, gcd_lines}
use Rattle.report_text.specs.Internal.{line_end}

pub named-line : (name : List ℕ) (n : ℕ) → line (name ∷ decimal n ∷ []) ≡ name ++ ((32 ∷ decimal n) ++ (10 ∷ []))
unfolding line
named-line name n = refl

-- the end of a list's line, by the number of its significant words
module _ (c : List ℕ) {used : ℕ} (e : used ≡ significant c) where
  pub end-zero : used ≡ 0 → line_end c ≡ 32 ∷ 45 ∷ 32 ∷ 45 ∷ 10 ∷ []
  unfolding line_end line
  end-zero z = rw (eq-eqb (significant c) 0 (sym e ∙ z))

  pub end-nonzero : ¬ (used ≡ 0) → {x q : ℕ} → x ≡ extent c → q ≡ power c
      → line_end c ≡ (32 ∷ decimal x) ++ ((32 ∷ decimal q) ++ (10 ∷ []))
  unfolding line_end line
  end-nonzero f ex eq = rw (ne_eqb (significant c) 0 (λ z. f (e ∙ z)), ex, eq)

-- d is the naive degree as the code finds it
pub list-line : (i : ℕ) (c : List ℕ) {d : ℕ} → d ≡ naive_degree c → list_line i c ≡ decimal i ++ ((32 ∷ decimal d) ++ line_end c)
unfolding list_line line_end line
list-line i c e = rw e (go (eqb (significant c) 0))
  where
    go : (b : Bool) → line (decimal i ∷ decimal (naive_degree c) ∷ cond b (⟨-⟩ ∷ ⟨-⟩ ∷ []) (decimal (extent c) ∷ decimal (power c) ∷ []))
        ≡ decimal i ++ ((32 ∷ decimal (naive_degree c)) ++ (32 ∷ line (cond b (⟨-⟩ ∷ ⟨-⟩ ∷ []) (decimal (extent c) ∷ decimal (power c) ∷ []))))
    go true = refl
    go false = refl

-- d is the degree in t as the code finds it
pub gcd-lines : (F : PrimeField) (h : List ℕ) (c : ℕ) {d : ℕ} → d ≡ gcd_degree F h c
    → gcd_lines F h c ≡ ⟨gcd⟩ ++ ((32 ∷ decimal d) ++ ((32 ∷ decimal c) ++ ((10 ∷ []) ++ line (map decimal h))))
unfolding gcd_lines line
gcd-lines F h c e = rw e (joined (decimal (gcd_degree F h c)) (decimal c) (line (map decimal h)))
  where
    joined : (d e w : List ℕ)
        → (⟨gcd⟩ ++ (32 ∷ (d ++ (32 ∷ (e ++ (10 ∷ [])))))) ++ w ≡ ⟨gcd⟩ ++ ((32 ∷ d) ++ ((32 ∷ e) ++ ((10 ∷ []) ++ w)))
    joined d e w = simp append_assoc

abbrev pub fields : List ℕ → List ℕ
fields [] = []
fields (x ∷ h) = (32 ∷ decimal x) ++ fields h

words-from : (x : ℕ) (h : List ℕ) → line (map decimal (x ∷ h)) ≡ decimal x ++ (fields h ++ (10 ∷ []))
unfolding line
words-from x [] = refl
words-from x (y ∷ h) = ap (λ t. decimal x ++ (32 ∷ t)) (words-from y h ∙ sym (append_assoc (decimal y) (fields h) (10 ∷ [])))

-- the first word, and the words from word k on
pub words-line : (h : List ℕ) → 0 < length h → line (map decimal h) ≡ decimal (get_or h 0 0) ++ (fields (drop 1 h) ++ (10 ∷ []))
words-line [] l = absurd (omega arith)
words-line (x ∷ h) l = words-from x h

pub fields-next : (h : List ℕ) (k : ℕ) → k < length h
    → fields (drop k h) ++ (10 ∷ []) ≡ (32 ∷ decimal (get_or h k 0)) ++ (fields (drop (k + 1) h) ++ (10 ∷ []))
fields-next h k l = rw (add-one, drop-cons h k 0) (append_assoc (32 ∷ decimal (get_or h k 0)) (fields (drop (suc k) h)) (10 ∷ []))

pub fields-end : (h : List ℕ) (k : ℕ) → length h ≤ k → fields (drop k h) ++ (10 ∷ []) ≡ 10 ∷ []
fields-end h k l = ap (λ t. fields t ++ (10 ∷ [])) (drop_of_length-le h l)

-- the lines of the lists from list i on
pub lines_next : (lists : List (List ℕ)) (i : ℕ) → i < length lists
    → list_lines i (drop i lists) ≡ list_line i (get_or lists i []) ++ list_lines (i + 1) (drop (i + 1) lists)
unfolding list_lines
lines_next lists i l = rw (add-one, drop-cons lists i []) refl

pub lines_end : (lists : List (List ℕ)) (i : ℕ) → length lists ≤ i → list_lines i (drop i lists) ≡ []
unfolding list_lines
lines_end lists i l = ap (list_lines i) (drop_of_length-le lists l)

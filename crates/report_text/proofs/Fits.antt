-- The report fits: every number has at most five digits.
-- Assumes nothing.
use mathlib.Core.Path.{◌≡◌, refl}
use mathlib.Core.List.{List, [], ◌∷◌, map}
use Prim.Native.Nat.{ℕ, suc, ◌+◌, ◌*◌, ◌≤◌, ◌<◌}
use native.Mathlib.Decide.{ℕ_discrete}
use native.Mathlib.Omega.{arith}
use lib.ListN.{length, get_or, length-append}
use Rattle.algebra.specs.PrimeField.{PrimeField}
use Rattle.refusal.specs.Refusal.{number}
use Rattle.refusal.specs.declared.Refusal.{Refusal}
use Rattle.refusal.proofs.Answers.{number-range}
use Rattle.lists.specs.Degrees.{naive_degree, significant, extent, power}
use Rattle.lists.proofs.Extents.{significant-le, power-is}
use Rattle.report_text.specs.Text.{decimal, line}
use Rattle.report_text.specs.Report.{⟨refused⟩, list_line, list_lines, gcd_degree, gcd_lines, refused_line}
use Rattle.report_text.specs.Internal.{line_end}
use Rattle.report_text.proofs.Digits.{decimal-short}
use Rattle.report_text.proofs.Degrees.{gcd-degree-most}
use Rattle.report_text.proofs.Lines.{fields, named-line, end-zero, end-nonzero, list-line, gcd-lines, words-line}

-- a word has at most five digits
digits : (n : ℕ) → n < 65536 → length (decimal n) ≤ 5
digits n l = decimal-short 4 n (omega arith)

pub named-fits : (name : List ℕ) (n : ℕ) → n < 65536 → length (line (name ∷ decimal n ∷ [])) ≤ length name + 7
named-fits name n l = rw (named-line name n) (simp length-append (omega (arith, digits n l)))

pub refused-fits : (why : Refusal) → length (refused_line why) ≤ 14
unfolding refused_line
refused-fits why = named-fits ⟨refused⟩ (number why) (omega (arith, number-range why))

end_fits : (c : List ℕ) → length c ≤ 65536 → length (line_end c) ≤ 13
end_fits c l = go (ℕ_discrete (significant c) 0)
  where
    go : Dec (significant c ≡ 0) → length (line_end c) ≤ 13
    go (yes z) = rw (end-zero c refl z) (omega arith)
    go (no f) =
        let s = significant-le c in
        let x : extent c < 65536 = unfold extent in omega arith in
        rw (end-nonzero c refl f refl refl)
        (simp length-append (omega (arith, digits (extent c) x, digits (power c) (omega (arith, power-is c f)))))

list-fits : (i : ℕ) (c : List ℕ) → i < 65536 → length c ≤ 65536 → length (list_line i c) ≤ 24
list-fits i c li lc =
    let d : naive_degree c < 65536 = unfold naive_degree in omega arith in
    rw (list-line i c refl) (simp length-append (omega (arith, digits i li, digits (naive_degree c) d, end_fits c lc)))

pub lines_fit : (lists : List (List ℕ)) (i : ℕ) → i + length lists ≤ 65536
    → ((j : ℕ) → j < length lists → length (get_or lists j []) ≤ 65536) → length (list_lines i lists) ≤ 24 * length lists
unfolding list_lines
lines_fit [] i l each = omega arith
lines_fit (c ∷ lists) i l each =
    let here = list-fits i c (omega arith) (each 0 (omega arith)) in
    let rest = lines_fit lists (suc i) (omega arith) (λ j k. each (suc j) (omega arith)) in
    rw length-append (omega arith)

fields_fit : (h : List ℕ) → ((k : ℕ) → get_or h k 0 < 65536) → length (fields h) ≤ 6 * length h
fields_fit [] small = omega arith
fields_fit (x ∷ h) small =
    let first = digits x (small 0) in
    let rest = fields_fit h (λ k. small (suc k)) in
    simp length-append (omega arith)

pub words-fit : (h : List ℕ) → 0 < length h → ((k : ℕ) → get_or h k 0 < 65536) → length (line (map decimal h)) ≤ 6 * length h
words-fit [] some small = absurd (omega arith)
words-fit (x ∷ h) some small =
    let first = digits x (small 0) in
    let rest = fields_fit h (λ k. small (suc k)) in
    rw (words-line (x ∷ h) some) (simp length-append (omega arith))

pub gcd-fits : (F : PrimeField) (h : List ℕ) (c : ℕ) → 0 < length h → length h + c ≤ 65536 → ((k : ℕ) → get_or h k 0 < 65536)
    → length (gcd_lines F h c) ≤ 16 + 6 * length h
gcd-fits F h c some few small =
    let d : gcd_degree F h c < 65536 = let most = gcd-degree-most F h c in unfold naive_degree in omega arith in
    rw (gcd-lines F h c refl)
    (simp length-append (omega (arith, digits (gcd_degree F h c) d, digits c (omega arith), words-fit h some small)))

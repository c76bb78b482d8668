-- What the functions behind the report need and do.
--     Room             a text fits into a slice from a place on
--     Put              a slice after a text is put at a place: the bytes before it and after it stay, and r is the place after it
--     line_end         a list's line after its naive degree: a space, then the extent and the power, or `-` for each
--     answer_lines     the report's lines after those of the lists
--     max_answer       a bound on their bytes: `gcd` and two numbers, then at most max_words words, each of at most five digits
-- Assumes nothing.
use Rattle.std.specs.Prelude.{◌≡◌, cond, List, [], ◌∷◌, ◌++◌, ℕ, ◌+◌, ◌*◌, ◌≤◌, eqb, length, get_or, take}
use Rattle.algebra.specs.PrimeField.{PrimeField}
use Rattle.refusal.specs.Limits.{max_words}
use Rattle.refusal.specs.declared.Refusal.TheVariants.{AllZero}
use Rattle.lists.specs.Degrees.{significant, extent, power}
use Rattle.euclid_theory.specs.Gcd.{common_power}
use Rattle.album_theory.specs.Albums.{album_gcd}
use Rattle.album_gcd.specs.Calls.{all_zero}
use Rattle.report_text.specs.Text.{decimal, line}
use Rattle.report_text.specs.Report.{⟨-⟩, gcd_lines, refused_line}

pub record Room (text : List ℕ) (at : ℕ) (slice : List ℕ) : Type 0 where
  pub fits : at + length text ≤ length slice

pub record Put (text : List ℕ) (at : ℕ) (old new : List ℕ) (r : ℕ) : Type 0 where
  pub same : length new ≡ length old
  pub next : r ≡ at + length text
  pub bytes : take r new ≡ take at old ++ text
  pub after : (k : ℕ) → r ≤ k → get_or new k 0 ≡ get_or old k 0

unfoldable pub line_end : List ℕ → List ℕ
line_end c = 32 ∷ line (cond (eqb (significant c) 0) (⟨-⟩ ∷ ⟨-⟩ ∷ []) (decimal (extent c) ∷ decimal (power c) ∷ []))

unfoldable pub answer_lines : PrimeField → List (List ℕ) → List ℕ
answer_lines F lists =
    cond (all_zero lists) (refused_line AllZero) (gcd_lines F (album_gcd F lists).list (common_power lists))

abbrev pub max_answer : ℕ
max_answer = 16 + 6 * max_words

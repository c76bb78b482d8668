-- What the call refuses, as the chain of tests that the code makes, and what it knows where nothing is refused.
--     judged-layout, -line, -index, -album, -misfit, -done     what the tests find, one after the other
--     lacks-found      the search of the program finds what the line's tree lacks
--     Accepted, accepted, accepted-passed     what is known where no row applies
--     valued, line-listed     a value that is not refused: a list that no call refuses
--     accepted-runs    where no row applies, the program can be run
--     answered    what the call then answers and writes
-- Assumes nothing.
use mathlib.Core.Path.{◌≡◌, refl, sym, ◌∙◌, ap, ap₂}
use mathlib.Core.Bool.{Bool, true, false, not}
use mathlib.Core.List.{List, [], ◌∷◌}
use Prim.Native.Nat.{ℕ, ◌≤◌}
use native.Mathlib.Omega.{arith}
use lib.Dec.{eqb}
use lib.ListN.{length, take}
use borrow.Author.Tests.{eq-eqb, ne_eqb, eqb-true, le-ltb, ltb-false, not-false}
use Rattle.std.specs.Prelude.{Ok, Err}
use Rattle.refusal.specs.Limits.{max_lists, max_line, max_open}
use Rattle.refusal.specs.Lowest.{Condition, ◌given-when◌, lowest, or_else}
use Rattle.refusal.specs.Refusal.{Reply, number, outcome_number, reply, written, Outcome}
use Rattle.refusal.proofs.Answers.{number-range}
use Rattle.refusal.specs.declared.Refusal.{Refusal}
use Rattle.refusal.specs.declared.Refusal.TheVariants.{Line, Nesting, Index, LooseWord, Misfit}
use Rattle.refusal.proofs.First.{refuse, first, first-is, first_then, refuse-done, or-else-done}
use Rattle.field.specs.Fields.{modulus, field_at, longest}
use Rattle.field.proofs.Fields.{longest-in, longest-full}
use Rattle.lists.specs.Degrees.{naive_degree}
use Rattle.lists.specs.Padded.{padded}
use Rattle.lists.specs.Refused.{has_loose, any_of, IsList}
use Rattle.album_layout.specs.Layout.{count, wrong_count, broken_layout, lists_of}
use Rattle.album_layout.specs.Internal.{layout_refusals, Passed}
use Rattle.album_layout.specs.Calls.{album_refusals}
use Rattle.album_layout.proofs.Judged.{album-loose, album-done, album-fine}
use Rattle.album_layout.proofs.Passed.{passed-each}
use Rattle.album_layout.proofs.Places.{length-lists}
use Rattle.lines.specs.Grammar.{deepest}
use Rattle.lines.specs.Lines.{outside_grammar, too_deep, line_refusals, read_outcome, ProgramOf}
use Rattle.lines.proofs.Height.{line-height}
use Rattle.lines.proofs.Operands.{reading_small}
use Rattle.lines.proofs.Lines.{inside_is}
use Rattle.lines.proofs.Readings.{reading-sound, reading-complete}
use Rattle.line_values.specs.Values.{Valued, value, refused, value_of, lacks}
use Rattle.line_values.specs.Calls.{lacks_operand, line_rows, value_in, line_value, late_of, list_in, line_outcome, line_answer, line_written}
use Rattle.line_values.specs.Internal.{lacks_byte, Runs, ValueSo}
use Rattle.line_values.proofs.Values.{value-listed}
use Rattle.line_values.proofs.Programs.{lacks-program, lacks-tokens}

-- an outcome is one or the other
never : {why : Refusal} → ◌≡◌ {A = Outcome} (Ok tt) (Err why) → ⊥
never {why} e = let n : 0 ≡ number why = ap outcome_number e in omega (arith, number-range why)

-- two tests, and what comes behind them
two : (a b : Bool) (v w : Refusal) (next : Outcome) → refuse a v (refuse b w next) ≡ or_else (refuse a v (refuse b w (Ok tt))) next
two true b v w next = refl
two false true v w next = refl
two false false v w next = refl

module _ (p most : ℕ) (s line out : List ℕ) where
  -- the tests behind those of the layout and of the line
  abbrev rest : List Condition
  rest =
      Index given-when lacks_operand s line ∷
      LooseWord given-when any_of (has_loose p) (lists_of s) ∷
      Misfit given-when not (eqb (length out) most) ∷
      []

  rows-judged : lowest (line_rows p most s line out) ≡ or_else (lowest (layout_refusals s)) (or_else (lowest (line_refusals line)) (first rest))
  unfolding line_rows layout_refusals line_refusals
  rows-judged =
      first_then (layout_refusals s) (Line given-when outside_grammar line ∷ Nesting given-when too_deep line ∷ rest) tt
      ∙ ap (or_else (lowest (layout_refusals s)))
      (two (outside_grammar line) (too_deep line) Line Nesting (first rest) ∙ ap (λ o. or_else o (first rest)) (sym (first-is (line_refusals line) tt)))

  pub judged-layout : {why : Refusal} → lowest (layout_refusals s) ≡ Err why → Err why ≡ lowest (line_rows p most s line out)
  judged-layout e = sym (rows-judged ∙ simp e)

  module _ (e : lowest (layout_refusals s) ≡ Ok tt) where
    pub judged-line : {why : Refusal} → lowest (line_refusals line) ≡ Err why → Err why ≡ lowest (line_rows p most s line out)
    judged-line f = sym (rows-judged ∙ simp (e, f))

    module _ (f : lowest (line_refusals line) ≡ Ok tt) where
      pub judged-index : lacks_operand s line ≡ true → Err Index ≡ lowest (line_rows p most s line out)
      judged-index t = sym (rows-judged ∙ simp (e, f, t))

      module _ (has : lacks_operand s line ≡ false) where
        -- what every call on the album refuses
        pub judged-album : {why : Refusal} → lowest (album_refusals p s) ≡ Err why → Err why ≡ lowest (line_rows p most s line out)
        judged-album {why} a = go (any_of (has_loose p) (lists_of s)) refl
          where
            go : (b : Bool) → any_of (has_loose p) (lists_of s) ≡ b → Err why ≡ lowest (line_rows p most s line out)
            go true t = sym a ∙ sym (album-loose p s e t) ∙ sym (rows-judged ∙ simp (e, f, has, t))
            go false t = absurd (never (album-done p s e t ∙ a))

        module _ (passed : Passed p s) where
          tight : any_of (has_loose p) (lists_of s) ≡ false
          tight = (album-fine p s passed).1

          pub judged-misfit : ¬ (length out ≡ most) → Err Misfit ≡ lowest (line_rows p most s line out)
          judged-misfit t = sym (rows-judged ∙ simp (e, f, has, tight, ne_eqb (length out) most t))

          pub judged-done : length out ≡ most → Ok tt ≡ lowest (line_rows p most s line out)
          judged-done t = sym (rows-judged ∙ simp (e, f, has, tight, eq-eqb (length out) most t))

  -- what is known where no row applies
  pub record Accepted : Type 0 where
    pub counted : wrong_count max_lists s ≡ false
    pub laid : broken_layout s ≡ false
    pub inside : outside_grammar line ≡ false
    pub shallow : too_deep line ≡ false
    pub has : lacks_operand s line ≡ false
    pub tight : any_of (has_loose p) (lists_of s) ≡ false
    pub fits : length out ≡ most

  pub accepted : lowest (line_rows p most s line out) ≡ Ok tt → Accepted
  unfolding line_rows
  accepted d =
      let a = refuse-done (wrong_count max_lists s) _ _ (sym (first-is (line_rows p most s line out) tt) ∙ d) in
      let b = refuse-done (broken_layout s) _ _ a.1 in
      let c = refuse-done (outside_grammar line) _ _ b.1 in
      let n = refuse-done (too_deep line) _ _ c.1 in
      let i = refuse-done (lacks_operand s line) _ _ n.1 in
      let w = refuse-done (any_of (has_loose p) (lists_of s)) _ _ i.1 in
      let m = refuse-done (not (eqb (length out) most)) _ _ w.1 in
      record {
        counted = a.0;
        laid = b.0;
        inside = c.0;
        shallow = n.0;
        has = i.0;
        tight = w.0;
        fits = eqb-true (length out) most (not-false _ m.0);
      }

  pub accepted-passed : Accepted → Passed p s
  unfolding layout_refusals
  accepted-passed h = sym (album-done p s (first-is (layout_refusals s) tt ∙ simp (h.counted, h.laid)) h.tight)

-- a value that is not refused
pub valued : (v : Valued) → late_of v ≡ Ok tt → v ≡ value (list_in v)
valued (value c) e = refl
valued (refused why) e = cc

-- the value of a line that is not refused is a list that no call refuses
pub line-listed : (k : ℕ) (s line out : List ℕ) → line_outcome k s line out ≡ Ok tt
    → IsList (modulus k) (longest k) (list_in (line_value (field_at k) (longest k) s line))
unfolding field_at line_value lacks_operand
line-listed k s line out e =
    let v = line_value (field_at k) (longest k) s line in
    let o = or-else-done (lowest (line_rows (modulus k) (longest k) s line out)) (late_of v) e in
    let a = accepted (modulus k) (longest k) s line out o.0 in
    let passed = accepted-passed (modulus k) (longest k) s line out a in
    let one = (inside_is line a.inside).1 in
    let has : lacks (length (lists_of s)) one.tree ≡ false = ap (λ n. lacks n one.tree) (length-lists s) ∙ sym (lacks-tokens (count s) one.is) ∙ a.has in
    let is = sym (ap (value_in (field_at k) (longest k) (lists_of s)) (reading-complete one.is)) ∙ valued v o.1 in
    value-listed (field_at k) (longest k) (longest-in k) (lists_of s) (passed-each (modulus k) s passed (longest k) (longest-full k)) one.tree (list_in v) has is

-- what reading the line finds, in a slice with room for every program
pub read_found : (line code : List ℕ) {o : Outcome} → max_line ≤ length code → o ≡ read_outcome line code → o ≡ lowest (line_refusals line)
read_found line code l e = e ∙ rw (le-ltb (length code) max_line l)

-- the program of a line
module _ (s line code : List ℕ) {n : ℕ} (g : ProgramOf line code (Ok n)) where
  lacks-is : lacks_byte (count s) (take n code) ≡ lacks_operand s line
  unfolding lacks_operand
  lacks-is =
      ap (lacks_byte (count s)) g.3
      ∙ lacks-program (count s) g.0 (reading_small line g.0 g.1)
      ∙ sym (lacks-tokens (count s) (reading-sound g.1))

  -- what the search was told and said
  pub lacks-found : {lists : ℕ} {b t : Bool} → lists ≡ count s → b ≡ lacks_byte lists (take n code) → b ≡ t → lacks_operand s line ≡ t
  lacks-found e f g = sym lacks-is ∙ ap (λ k. lacks_byte k (take n code)) (sym e) ∙ sym f ∙ g

  module _ (k : ℕ) (out : List ℕ) (d : Ok tt ≡ lowest (line_rows (modulus k) (longest k) s line out)) where
    known : Accepted (modulus k) (longest k) s line out
    known = accepted (modulus k) (longest k) s line out (sym d)

    pub accepted-runs : (Passed (modulus k) s) × (Runs s (take n code)) × (length out ≡ longest k)
    unfolding too_deep
    accepted-runs = (
      accepted-passed (modulus k) (longest k) s line out known,
      record {
        tree = g.0;
        is = g.3;
        small = reading_small line g.0 g.1;
        low = line-height line g.0 g.1 (ltb-false max_open (deepest 0 line) known.shallow);
        has = lacks-is ∙ known.has;
      },
      known.fits,
    )

    pub answered : {out' : List ℕ} {r : Reply} → ValueSo k s (take n code) out out' r
        → (r ≡ line_answer k s line out) × (out' ≡ line_written k s line out)
    unfolding line_value
    answered v =
        let h = v g.0 g.3 (reading_small line g.0 g.1) in
        let same : value_of (field_at k) (longest k) (lists_of s) g.0 ≡ line_value (field_at k) (longest k) s line = sym (ap (value_in (field_at k) (longest k) (lists_of s)) g.1) in
        let outcome = ap₂ or_else d (ap late_of same) in (
          h.0 ∙ ap₂ (λ o u. reply o (naive_degree (list_in u) ∷ [])) outcome same,
          h.1 ∙ ap₂ (λ o u. written o (padded (longest k) (list_in u)) out) outcome same,
        )

-- `album_writer::judge_write` meets its contract: it tests the rows in the order of their numbers.
-- Assumes nothing.
use mathlib.Core.Path.{◌≡◌, sym, ◌∙◌}
use mathlib.Core.Bool.{not, false}
use mathlib.Core.List.{List}
use Prim.Native.Nat.{ℕ}
use native.Mathlib.Omega.{arith}
use lib.Dec.{eqb, ltb}
use lib.ListN.{length}
use borrow.Author.Tests.{eq-eqb, ne_eqb, lt-ltb, le-ltb}
use Rattle.refusal.specs.Refusal.{Outcome}
use Rattle.std.specs.Prelude.{Ok}
use Rattle.refusal.specs.Limits.{max_degree, max_bytes}
use Rattle.refusal.specs.Lowest.{lowest}
use Rattle.refusal.specs.declared.Refusal.TheVariants.{Length, LooseWord, Misfit}
use Rattle.refusal.proofs.First.{refuse}
use Rattle.field.specs.Fields.{modulus}
use Rattle.lists.specs.Refused.{has_loose}
use Rattle.album_writer.specs.Cut.{words_for}
use Rattle.album_writer.specs.Calls.{wrong_lists, has_high, write_rows}
use Rattle.album_writer.proofs.Judged.{some-lists, write-judged}
use Rattle.album_writer.proofs.judge_write.Goals as goal

-- what the last two tests refuse
abbrev later : (field : ℕ) → (words out : List ℕ) → Outcome
later field words out = refuse (has_loose (modulus field) words) LooseWord (refuse (ltb (length out) max_bytes) Misfit (Ok tt))

-- number and degrees are right
degreed :
    (k : ℕ) (words degrees out : List ℕ)
    → wrong_lists (length degrees) ≡ false
    → has_high max_degree degrees ≡ false
    → lowest (write_rows (modulus k) words degrees out) ≡ refuse (not (eqb (length words) (words_for degrees))) Length (later k words out)
degreed k words degrees out count low = write-judged _ _ _ _ ∙ simp (count, low)

-- the sum is right too
summed :
    (k : ℕ) (words degrees out : List ℕ)
    → wrong_lists (length degrees) ≡ false
    → has_high max_degree degrees ≡ false
    → length words ≡ words_for degrees
    → lowest (write_rows (modulus k) words degrees out) ≡ later k words out
summed k words degrees out count low size = degreed k words degrees out count low ∙ simp (eq-eqb _ _ size)

pub returns-then-wrong_lists : goal.returns-then-wrong_lists
returns-then-wrong_lists c = sym (write-judged _ _ _ _ ∙ simp (sym c.wrong_lists.ensures ∙ c.if-wrong_lists.true))

pub returns-then-has_high : goal.returns-then-has_high
returns-then-has_high c =
    sym
    (write-judged _ _ _ _
    ∙ simp (
      sym c.wrong_lists.ensures ∙ c.if-wrong_lists.false,
      sym c.has_high.ensures ∙ c.if-has_high.true,
    ))

pub words_for-requires : goal.words_for-requires
words_for-requires c = (some-lists _ (sym c.wrong_lists.ensures ∙ c.if-wrong_lists.false)).1

pub returns-then-words-words_for : goal.returns-then-words-words_for
returns-then-words-words_for c =
    let count = sym c.wrong_lists.ensures ∙ c.if-wrong_lists.false in
    let other = ne_eqb _ _ (λ e. c.if-words-words_for.true (e ∙ sym c.words_for.ensures)) in
    sym (write-judged _ _ _ _ ∙ simp (count, sym c.has_high.ensures ∙ c.if-has_high.false, other))

pub returns-then-has_loose : goal.returns-then-has_loose
returns-then-has_loose c =
    let count = sym c.wrong_lists.ensures ∙ c.if-wrong_lists.false in
    let low = sym c.has_high.ensures ∙ c.if-has_high.false in
    let size = c.if-words-words_for.false ∙ c.words_for.ensures in
    sym (summed c.args.field _ _ _ count low size ∙ simp (sym c.has_loose.ensures ∙ c.if-has_loose.true))

pub returns-then-out-lt-MAX_BYTES : goal.returns-then-out-lt-MAX_BYTES
returns-then-out-lt-MAX_BYTES c =
    let count = sym c.wrong_lists.ensures ∙ c.if-wrong_lists.false in
    let low = sym c.has_high.ensures ∙ c.if-has_high.false in
    let size = c.if-words-words_for.false ∙ c.words_for.ensures in
    let tight = sym c.has_loose.ensures ∙ c.if-has_loose.false in
    sym (summed c.args.field _ _ _ count low size ∙ simp (tight, lt-ltb (length c.args.out.now) max_bytes (omega arith)))

pub returns : goal.returns
returns c =
    let count = sym c.wrong_lists.ensures ∙ c.if-wrong_lists.false in
    let low = sym c.has_high.ensures ∙ c.if-has_high.false in
    let size = c.if-words-words_for.false ∙ c.words_for.ensures in
    let tight = sym c.has_loose.ensures ∙ c.if-has_loose.false in
    sym (summed c.args.field _ _ _ count low size ∙ simp (tight, le-ltb (length c.args.out.now) max_bytes (omega arith)))

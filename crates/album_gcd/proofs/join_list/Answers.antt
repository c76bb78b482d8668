-- `album_gcd::join_list` meets its contract: a zero list is passed over, and the GCD of two lists that no call refuses is not refused.
-- Assumes nothing.
use mathlib.Core.Path.{◌≡◌, sym, ◌∙◌, ap}
use mathlib.Core.List.{List}
use Prim.Native.Nat.{ℕ}
use native.Mathlib.Omega.{arith}
use lib.ListN.{length}
use Rattle.field.specs.Fields.{field_at}
use Rattle.field.proofs.Fields.{longest-in, longest-room}
use Rattle.list_gcd.specs.Calls.{gcd_reply}
use Rattle.words.specs.Transfer.{copied_into}
use Rattle.words.proofs.Transfer.{copied-fit}
use Rattle.album_reader.proofs.Held.{held-length}
use Rattle.std.specs.Prelude.{Some}
use Rattle.std.proofs.Common.{rules, tests}
use Rattle.lists.specs.Degrees.{significant}
use Rattle.album_gcd.specs.Internal.{least_of}
use Rattle.album_gcd.proofs.Power.{least-is}
use Rattle.album_gcd.proofs.Joining.{join-over, join-never, join-few, join-with}
use Rattle.album_gcd.proofs.join_list.Goals as goal

pub returns-then-significant_words-eq0 : goal.returns-then-significant_words-eq0
unfolding field_at
returns-then-significant_words-eq0 c = join-over (field_at _) _ (longest-in _) _ _ c.requires.held _ _ (sym c.significant_words.ensures ∙ c.if-significant_words-eq0.true)

-- a copy to a slice that is as long
copied : {n : ℕ} {new : List ℕ} (from to : List ℕ) → new ≡ copied_into from to → length from ≡ n → length to ≡ n → new ≡ from
copied from to e f g = e ∙ copied-fit from to (f ∙ sym g)

pub returns-in_default : goal.returns-in_default
unfolding field_at
returns-in_default c =
    let some : ¬ (significant c.args.list.now ≡ 0) = λ z. c.if-significant_words-eq0.false (c.significant_words.ensures ∙ z) in
    absurd (join-never (field_at _) _ (longest-in _) _ c.requires.held (copied _ _ c.copy.ensures (held-length c.requires.held) c.requires.last_len.0) c.requires.list some c.in_default.field-0
    (ap gcd_reply (sym c.in_default.is) ∙ c.gcd_over.ensures.answer))

pub overflow_add-result-2 : goal.overflow_add-result-2
unfolding field_at
overflow_add-result-2 c =
    let some : ¬ (significant c.args.list.now ≡ 0) = λ z. c.if-significant_words-eq0.false (c.significant_words.ensures ∙ z) in
    let few = join-few (field_at _) _ (longest-in _) _ c.requires.held (copied _ _ c.copy.ensures (held-length c.requires.held) c.requires.last_len.0) c.requires.list some _ (ap gcd_reply (sym c.in-Ok.is) ∙ c.gcd_over.ensures.answer) in
    omega (arith, few, longest-room c.args.field)

pub returns : goal.returns
unfolding field_at
returns c =
    let some : ¬ (significant c.args.list.now ≡ 0) = λ z. c.if-significant_words-eq0.false (c.significant_words.ensures ∙ z) in
    let least = least-is c.args.so_far.least c.power_in-power.result.0 _ c.map_or.ensures (λ x k. search (rules, tests)) in
    join-with (field_at _) _ (longest-in _) _ c.requires.held (copied _ _ c.copy.ensures (held-length c.requires.held) c.requires.last_len.0) c.requires.list some _ (ap gcd_reply (sym c.in-Ok.is) ∙ c.gcd_over.ensures.answer)
    c.gcd_over.ensures.writes
    (least ∙ ap (λ d. Some (least_of c.args.so_far.least d)) c.power_in-power.ensures)

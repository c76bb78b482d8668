-- `bind_text::read_line` meets its contract. The loop's invariant: the words so far are read.
-- Assumes nothing.
use mathlib.Core.Path.{◌≡◌, sym, ◌∙◌, ap}
use mathlib.Core.Logic.{inl}
use native.Mathlib.Omega.{arith}
use lib.ListN.{length, length-map}
use Rattle.std.specs.Iterator.Adapters.{enumerate_source, enumerate_count}
use Rattle.std.proofs.lemmas.List.{take_all, length_push}
use Rattle.std.proofs.lemmas.List.FromFn.{length-enumerate_from}
use Rattle.std.proofs.lemmas.Iterator.Consumers.{YieldsList-at, YieldsList-from_first, YieldsList-from_enumerate, YieldsList-turn, YieldsList-end}
use Rattle.bind_text.specs.Text.{fields_of, list_of}
use Rattle.bind_text.specs.Internal.{words_left}
use Rattle.bind_text.proofs.Lists.{fields-short, length-list}
use Rattle.bind_text.proofs.Reading.{Word, word-at, one_more}
use Rattle.bind_text.proofs.read_line.Goals as goal

here : (c : goal.After-number) → Word c.args.line.now (length c.loop-n.yielded) c.in-Some.n c.in-Some.digits.now
here c =
    word-at c.args.line.now _ _ _
    (YieldsList-turn
    (YieldsList-at c.into_iter-n-iterator.ensures.into_iter_gives
    (YieldsList-from_enumerate
    (YieldsList-at c.enumerate-n-items.ensures.source (YieldsList-from_first (λ digits. digits.now) words_left (fields_of c.args.line.now) cc))
    c.enumerate-n-items.ensures.count))
    c.loop-n.yielded _ c.loop-n.yielded_by c.next.result c.next.new.self _ c.in-Some.is c.next.ensures.steps)

pub bounds-out-n : goal.bounds-out-n
bounds-out-n c = let word = here c in omega (arith, word.place)

pub loop-n-preserved : goal.loop-n-preserved
loop-n-preserved c =
    let word = here c in
    rw length_push
    (one_more c.loop-n.out _ _ _ _ word.place (omega arith) (simp length-map word.inside) c.loop-n.invariant (c.number.ensures ∙ word.value))

pub returns : goal.returns
returns c =
    let end =
    YieldsList-end
    (YieldsList-at c.into_iter-n-iterator.ensures.into_iter_gives
    (YieldsList-from_enumerate
    (YieldsList-at c.enumerate-n-items.ensures.source (YieldsList-from_first (λ digits. digits.now) words_left (fields_of c.args.line.now) cc))
    c.enumerate-n-items.ensures.count))
    c.loop-n.yielded _ c.loop-n.yielded_by c.next.result c.next.new.self c.in-None.is c.next.ensures.steps in
    let size : length c.loop-n.yielded ≡ length (list_of c.args.line.now) = end.1 ∙ length-enumerate_from 0 _ ∙ sym (length-list c.args.line.now) in
    sym (take_all _ c.loop-n.out (omega arith)) ∙ c.loop-n.invariant ∙ take_all _ _ (simp length-map (omega arith))

pub loop-n-init-derived : goal.loop-n-init-derived
loop-n-init-derived c =
    let gives = c.into_iter-n-iterator.ensures.into_iter_gives in
    let items = c.enumerate-n-items.ensures in
    let count = ap enumerate_count gives ∙ items.count in
    let left = ap (λ s. length (words_left (enumerate_source s))) gives ∙ ap (λ s. length (words_left s)) items.source in
    ((tt, tt, inl (omega (arith, count, left, fields-short c.args.line.now))), tt)

pub offset_bounds-out-n : goal.offset_bounds-out-n
offset_bounds-out-n c = let word = here c in omega (arith, word.place)

-- The iterator over the lines of a text: `next` gives the first of those that are left, and leaves the others.
-- Assumes nothing.
use Rattle.std.proofs.Common.{[], ◌∷◌, length, ap, sym, ◌∙◌, rules, arith, add-one, refl}
use Rattle.std.proofs.lemmas.List.{take_rest}
use Rattle.bind_text.proofs.Lists.{lines_at, lines_whole, lines_none}
use Rattle.bind_text.proofs.LinesIterator.next.Goals as goal

pub returns-then-is_empty-clause-steps : goal.returns-then-is_empty-clause-steps
returns-then-is_empty-clause-steps c =
    let none = lines_none c.args.self.now.0.now (search rules) in (none, none)

pub returns-in-Some-clause-steps : goal.returns-in-Some-clause-steps
returns-in-Some-clause-steps c =
    let text = c.args.self.now.0.now in
    let at = lines_at text c.in-Some.end (search rules) (search rules) (search rules) in
    at ∙ simp (take_rest, add-one)

pub returns-in-Some-clause-goes : goal.returns-in-Some-clause-goes
returns-in-Some-clause-goes c =
    let text = c.args.self.now.0.now in
    let at = lines_at text c.in-Some.end (search rules) (search rules) (search rules) in
    record { on = λ _. (tt, tt, simp (take_rest, add-one) (omega (arith, ap length at))); keeps = tt; rests = λ _. tt }

pub returns-in-None-clause-steps : goal.returns-in-None-clause-steps
returns-in-None-clause-steps c =
    let text = c.args.self.now.0.now in
    lines_whole text (search rules) (search rules) ∙ ap (λ r. text ∷ r) (sym (lines_none [] refl))

pub returns-in-None-clause-goes : goal.returns-in-None-clause-goes
returns-in-None-clause-goes c =
    let text = c.args.self.now.0.now in
    let whole = ap length (lines_whole text (search rules) (search rules)) in
    let none = ap length (lines_none [] refl) in
    record { on = λ _. (tt, tt, omega arith); keeps = tt; rests = λ _. tt }

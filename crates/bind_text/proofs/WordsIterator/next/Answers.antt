-- The iterator over the numbers of a line: `next` gives the first of those that are left, and leaves the others.
-- Assumes nothing.
use Rattle.std.proofs.Common.{[], ◌∷◌, ◌-◌, length, ap, sym, ◌∙◌, rules, tests, arith, add-one}
use lib.ListN.{take, drop}
use Rattle.std.proofs.lemmas.List.{take_rest}
use Rattle.bind_text.proofs.Lists.{fields_none, fields_at, fields_whole}
use Rattle.bind_text.proofs.WordsIterator.next.Goals as goal

pub returns-in_err-start-clause-steps : goal.returns-in_err-start-clause-steps
returns-in_err-start-clause-steps c =
    let none = fields_none c.args.self.now.0.now (search (rules, tests)) in
    simp c.from_residual.ensures (none, none)

pub returns-in-Some-clause-steps : goal.returns-in-Some-clause-steps
returns-in-Some-clause-steps c =
    let line = c.args.self.now.0.now in
    let start = c.in_ok-start.start in
    let at = fields_at line _ start (take_rest line start) (search rules) (search (rules, tests)) (search (rules, tests))
    c.in-Some.end (search rules) (search (rules, tests)) (search (rules, tests)) in
    at ∙ simp (take_rest, add-one)

pub returns-in-Some-clause-goes : goal.returns-in-Some-clause-goes
returns-in-Some-clause-goes c =
    let line = c.args.self.now.0.now in
    let start = c.in_ok-start.start in
    let at = fields_at line _ start (take_rest line start) (search rules) (search (rules, tests)) (search (rules, tests))
    c.in-Some.end (search rules) (search (rules, tests)) (search (rules, tests)) in
    record { on = λ _. (tt, tt, simp (take_rest, add-one) (omega (arith, ap length at))); keeps = tt; rests = λ _. tt }

pub returns-in-None-clause-steps : goal.returns-in-None-clause-steps
returns-in-None-clause-steps c =
    let line = c.args.self.now.0.now in
    let start = c.in_ok-start.start in
    let whole = fields_whole line _ start (take_rest line start) (search rules) (search (rules, tests)) (search (rules, tests)) (search (rules, tests)) in
    let none = fields_none [] (λ k l. absurd (omega arith)) in
    whole ∙ ap (λ r. r ∷ []) (sym (take_rest line start)) ∙ ap (λ r. take (length line - start) (drop start line) ∷ r) (sym none)

pub returns-in-None-clause-goes : goal.returns-in-None-clause-goes
returns-in-None-clause-goes c =
    let line = c.args.self.now.0.now in
    let start = c.in_ok-start.start in
    let whole = fields_whole line _ start (take_rest line start) (search rules) (search (rules, tests)) (search (rules, tests)) (search (rules, tests)) in
    let none = ap length (fields_none [] (λ k l. absurd (omega arith))) in
    record { on = λ _. (tt, tt, omega (arith, ap length whole)); keeps = tt; rests = λ _. tt }

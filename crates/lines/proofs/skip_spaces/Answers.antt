-- `lines::skip_spaces` meets its contract: the bytes before the first that is no space are spaces.
-- Assumes nothing.
use Rattle.std.proofs.Common.{◌≡◌, ◌∙◌, ◌+◌, ◌-◌, rules, tests, arith, length, length-drop, get_or-drop}
use lib.ListN.{drop}
use Rattle.std.proofs.lemmas.Iterator.{IsFirst-from_position, YieldsList-from_slice}
use Rattle.std.proofs.lemmas.List.{take_rest}
use Rattle.lines.proofs.Scan.{spaces-to}
use Rattle.lines.proofs.skip_spaces.Goals as goal

pub returns-in-Some : goal.returns-in-Some
returns-in-Some c =
    let line = c.args.line.now in
    let at = c.args.at in
    let n = c.in-Some.spaces in
    let first = IsFirst-from_position _ _ c.position.result (λ b. b ≡ 32 → ⊥) (λ b. b ≡ 32) c.position.ensures.ran (YieldsList-from_slice (drop at line) (c.iter.ensures.rest ∙ take_rest line at)) (λ x q k. search (rules, tests)) (λ x q k. search (rules, tests)) in
    let found = rw c.in-Some.is at first in
    spaces-to line at n (omega (arith, found.0, length-drop at line)) found.2 (λ _ e. found.1 0 (get_or-drop at line n 0 ∙ e))

pub returns-in-None : goal.returns-in-None
returns-in-None c =
    let line = c.args.line.now in
    let at = c.args.at in
    let n = length line - at in
    let first = IsFirst-from_position _ _ c.position.result (λ b. b ≡ 32 → ⊥) (λ b. b ≡ 32) c.position.ensures.ran (YieldsList-from_slice (drop at line) (c.iter.ensures.rest ∙ take_rest line at)) (λ x q k. search (rules, tests)) (λ x q k. search (rules, tests)) in
    let none = rw c.in-None.is at first in
    let all : at + n ≡ length line = omega arith in
    rw (← all) (spaces-to line at n (omega arith) (λ k d l h. none k d l (omega (arith, length-drop at line))) (λ l e. omega arith))

-- `lists::judge_lists` meets its contract: the tests stand in the order of the numbers.
-- Assumes nothing.
use mathlib.Core.Path.{◌≡◌, sym, ◌∙◌}
use mathlib.Core.Bool.{false}
use Rattle.field.specs.Fields.{modulus, longest}
use Rattle.lists.specs.Refused.{wrong_length, has_loose}
use Rattle.lists.proofs.Judged.{judged}
use Rattle.lists.proofs.judge_lists.Goals as goal

pub returns-then-wrong_length : goal.returns-then-wrong_length
returns-then-wrong_length c = sym (judged _ _ _ ∙ simp (sym c.wrong_length.ensures ∙ c.if-wrong_length.true))

pub returns-then-wrong_length-2 : goal.returns-then-wrong_length-2
returns-then-wrong_length-2 c = sym (judged _ _ _ ∙ simp (sym c.wrong_length.ensures ∙ c.if-wrong_length.false, sym c.wrong_length-2.ensures ∙ c.if-wrong_length-2.true))

pub returns-then-has_loose : goal.returns-then-has_loose
returns-then-has_loose c =
    let f-fits : wrong_length (longest c.args.field) c.args.f.now ≡ false = sym c.wrong_length.ensures ∙ c.if-wrong_length.false in
    let g-fits : wrong_length (longest c.args.field) c.args.g.now ≡ false = sym c.wrong_length-2.ensures ∙ c.if-wrong_length-2.false in
    sym (judged _ _ _ ∙ simp (f-fits, g-fits, sym c.has_loose.ensures ∙ c.if-has_loose.true))

pub returns-then-has_loose-2 : goal.returns-then-has_loose-2
returns-then-has_loose-2 c =
    let f-fits : wrong_length (longest c.args.field) c.args.f.now ≡ false = sym c.wrong_length.ensures ∙ c.if-wrong_length.false in
    let g-fits : wrong_length (longest c.args.field) c.args.g.now ≡ false = sym c.wrong_length-2.ensures ∙ c.if-wrong_length-2.false in
    let f-reduced : has_loose (modulus c.args.field) c.args.f.now ≡ false = sym c.has_loose.ensures ∙ c.if-has_loose.false in
    sym (judged _ _ _ ∙ simp (f-fits, g-fits, f-reduced, sym c.has_loose-2.ensures ∙ c.if-has_loose-2.true))

pub returns : goal.returns
returns c =
    let f-fits : wrong_length (longest c.args.field) c.args.f.now ≡ false = sym c.wrong_length.ensures ∙ c.if-wrong_length.false in
    let g-fits : wrong_length (longest c.args.field) c.args.g.now ≡ false = sym c.wrong_length-2.ensures ∙ c.if-wrong_length-2.false in
    let f-reduced : has_loose (modulus c.args.field) c.args.f.now ≡ false = sym c.has_loose.ensures ∙ c.if-has_loose.false in
    sym (judged _ _ _ ∙ simp (f-fits, g-fits, f-reduced, sym c.has_loose-2.ensures ∙ c.if-has_loose-2.false))

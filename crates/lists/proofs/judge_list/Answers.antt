-- `lists::judge_list` meets its contract: the tests stand in the order of the numbers.
-- Assumes nothing.
use mathlib.Core.Path.{sym, ◌∙◌}
use Rattle.lists.proofs.Judged.{judged}
use Rattle.lists.proofs.judge_list.Goals as goal

pub returns-then-wrong_length : goal.returns-then-wrong_length
returns-then-wrong_length c = sym (judged _ _ _ ∙ simp (sym c.wrong_length.ensures ∙ c.if-wrong_length.true))

pub returns-then-has_loose : goal.returns-then-has_loose
returns-then-has_loose c = sym (judged _ _ _ ∙ simp (sym c.wrong_length.ensures ∙ c.if-wrong_length.false, sym c.has_loose.ensures ∙ c.if-has_loose.true))

pub returns : goal.returns
returns c = sym (judged _ _ _ ∙ simp (sym c.wrong_length.ensures ∙ c.if-wrong_length.false, sym c.has_loose.ensures ∙ c.if-has_loose.false))

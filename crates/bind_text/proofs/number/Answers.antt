-- `bind_text::number` meets its contract: each turn of the fold is one digit more, cut off at the largest word.
-- Assumes nothing.
use mathlib.Core.Path.{◌∙◌}
use Rattle.std.proofs.Common.{rules, tests}
use Rattle.std.proofs.lemmas.Iterator.{YieldsList-from_slice}
use Rattle.std.proofs.lemmas.Iterator.Consumers.{fold_from_yields_List}
use Rattle.bind_text.proofs.Numbers.{next, fold-value}
use Rattle.bind_text.proofs.number.Goals as goal

pub returns : goal.returns
returns c =
    fold_from_yields_List _ next _ _ c.fold.ensures.ran (YieldsList-from_slice c.args.digits.now cc) (λ a x b q k. search (rules, tests)) ∙ fold-value c.args.digits.now

-- `bind_text::has_wrong_line` meets its contract: `any` is the search for a list of a wrong length.
-- Assumes nothing.
use mathlib.Core.Path.{◌∙◌}
use Rattle.std.proofs.Common.{rules, tests}
use Rattle.std.proofs.lemmas.Iterator.Consumers.{YieldsList-from_first}
use Rattle.std.proofs.lemmas.Iterator.Search.{any_from_yields_List}
use Rattle.refusal.specs.Limits.{max_words}
use Rattle.lists.specs.Refused.{wrong_length}
use Rattle.bind_text.specs.Text.{list_of, lines_of}
use Rattle.bind_text.specs.Internal.{lines_left}
use Rattle.bind_text.proofs.Lists.{wrong-any}
use Rattle.bind_text.proofs.has_wrong_line.Goals as goal

pub returns : goal.returns
returns c =
    let text = c.args.text.now in
    any_from_yields_List (λ line. wrong_length max_words (list_of line)) c.any.new.self _ _ c.any.ensures.ran
    (YieldsList-from_first (λ line. line.now) lines_left (lines_of text) (cc)) (λ x b q k. search (rules, tests))
    ∙ wrong-any text

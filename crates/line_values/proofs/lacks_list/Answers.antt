-- `line_values::lacks_list` meets its contract.
-- Assumes nothing.
use Rattle.std.proofs.Common.{◌∙◌, rules, tests}
use Rattle.std.proofs.lemmas.Iterator.{YieldsList-from_slice}
use Rattle.std.proofs.lemmas.Iterator.Search.{any_from_yields_List}
use Rattle.line_values.specs.Internal.{lacks_one}
use Rattle.line_values.proofs.Programs.{any-lacks}
use Rattle.line_values.proofs.lacks_list.Goals as goal

pub returns : goal.returns
returns c =
    any_from_yields_List (lacks_one c.args.lists) _ _ c.any.result c.any.ensures.ran (YieldsList-from_slice c.args.code.now c.iter.ensures.rest) (λ x b q k. search (rules, tests))
    ∙ any-lacks c.args.lists c.args.code.now

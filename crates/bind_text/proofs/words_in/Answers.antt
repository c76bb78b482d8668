-- `bind_text::words_in` meets its contract: there are no more numbers than bytes, so their number fits.
-- Assumes nothing.
use mathlib.Core.Path.{◌∙◌, sym}
use Rattle.std.proofs.Common.{inl, arith}
use Rattle.std.proofs.lemmas.Iterator.Consumers.{YieldsList-from_first, count_from_yields_List}
use Rattle.bind_text.specs.Text.{fields_of}
use Rattle.bind_text.specs.Internal.{words_left}
use Rattle.bind_text.proofs.Lists.{fields-short, length-list}
use Rattle.bind_text.proofs.words_in.Goals as goal

pub count-requires-clause-fits : goal.count-requires-clause-fits
count-requires-clause-fits c = inl (omega (arith, fields-short c.args.line.now))

pub returns : goal.returns
returns c =
    let line = c.args.line.now in
    count_from_yields_List _ _ c.count.ensures.ran (YieldsList-from_first (λ digits. digits.now) words_left (fields_of line) cc) ∙ sym (length-list line)

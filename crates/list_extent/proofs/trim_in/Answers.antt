-- `list_extent::trim_in` meets its contract: the significant words of the scaled form, unscaled.
-- Assumes nothing.
use Rattle.field.specs.Fields.{field_at, longest}
use Rattle.field.proofs.Fields.{p-at, longest-in}
use Rattle.field_tables.specs.Factorials.{Tables}
use Rattle.word_scaling.proofs.Weights.{scale-is}
use Rattle.list_extent.proofs.Trimmed.{trimmed}
use Rattle.list_extent.proofs.trim_in.Goals as goal

pub returns : goal.returns
returns c =
    let tables : Tables (field_at c.args.field) (longest c.args.field) c.factorials-whole.result.now c.inverse_factorials-part.result.now =
    record { factorials = c.factorials-whole.ensures; inverses = c.inverse_factorials-part.ensures } in
    let wide = longest-in c.args.field in
    let fits = c.requires.trim_fits in
    let f = c.args.f.now in
    let form = scale-is (field_at _) (p-at _) _ wide _ _ tables f c.args.s.now c.requires.s_len fits.short c.weigh.ensures in
    trimmed (field_at _) (p-at _) _ wide _ _ tables f fits form c.weigh-2.ensures

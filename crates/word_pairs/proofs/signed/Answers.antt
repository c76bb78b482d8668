-- `word_pairs::signed` meets its contract: the bits of a word, read as signed.
-- Assumes nothing.
use Rattle.std.proofs.Common.{sym, ap, ◌∙◌, subst, w16, w32, to_z, of_z}
use mir.ValLaws.{to_z-of_z, of_z-to_z}
use Rattle.word_pairs.specs.Pairs.{up, Diff}
use Rattle.word_pairs.proofs.Integers.{signed_is}
use Rattle.word_pairs.proofs.signed.Goals as goal

pub returns : goal.returns
returns c =
    let x = c.args.x in
    let is =
    to_z-of_z w32 c.from.result (record { sfits = c.from.type_inv }) ∙ c.from.ensures ∙ ap (λ z. to_z w16 (of_z w16 z)) c.cast_signed.ensures
    ∙ ap (λ n. to_z w16 n) (of_z-to_z w16 x c.ranges.x) in
    subst (λ z. Diff z (up x) 32768) (sym is) (signed_is x c.ranges.x.fits)

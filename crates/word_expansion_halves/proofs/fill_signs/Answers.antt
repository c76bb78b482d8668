-- `word_expansion_halves::fill_signs` meets its contract. The loop's invariant: the words below k are written, and the next sign is at hand.
-- Assumes nothing.
use mathlib.Core.Path.{sym, ◌∙◌}
use native.Mathlib.Omega.{arith}
use lib.ListN.{length}
use Rattle.lists.proofs.Filled.{fill_start, fill_step, fill_end}
use Rattle.word_expansion_halves.proofs.Row.{signs-length, signs-at, sign_zero, sign-next, sign_fits}
use Rattle.word_expansion_halves.proofs.fill_signs.Goals as goal

pub loop-word-init : goal.loop-word-init
loop-word-init c = (fill_start _ _, sym (sign_zero _ _))

pub next_sign-sign-requires : goal.next_sign-sign-requires
next_sign-sign-requires c = sign_fits _ _ c.requires _ c.loop-word.invariant.1

pub loop-word-preserved : goal.loop-word-preserved
loop-word-preserved c =
    let at = c.loop-word.invariant in (
      fill_step _ at.0 (omega arith) (at.1 ∙ sym (signs-at _ _ _ _ (omega arith))),
      sign-next _ _ _ at.1 c.next_sign-sign.ensures,
    )

pub returns : goal.returns
returns c =
    let a = c.args in
    fill_end c.loop-word.invariant.0 (omega (arith, signs-length a.p a.plus (length a.x.now))) (omega arith)

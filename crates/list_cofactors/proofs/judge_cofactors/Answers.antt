-- `list_cofactors::judge_cofactors` meets its contract: its tests are the rows of the table, lowest number first.
-- Assumes nothing.
use mathlib.Core.Path.{sym, ◌∙◌}
use Rattle.std.proofs.lemmas.Result.{err_from_is_err_and}
use Rattle.list_cofactors.proofs.Slices.{refused-gcd, misfit-a, misfit-b, none-refused}
use Rattle.list_cofactors.proofs.judge_cofactors.Goals as goal

pub returns-in_err-judge_gcd : goal.returns-in_err-judge_gcd
returns-in_err-judge_gcd c =
    let p = err_from_is_err_and c.from_residual.result c.from_residual.ensures.1 in rw (p.1, p.2) (refused-gcd _ _ _ _ _ _ _ (sym c.judge_gcd.ensures ∙ c.in_err-judge_gcd.was))

pub returns-then-a-cofactor_words : goal.returns-then-a-cofactor_words
returns-then-a-cofactor_words c =
    misfit-a _ _ _ _ _ _ _ (sym c.judge_gcd.ensures ∙ c.in_ok-judge_gcd.was) c.cofactor_words.ensures c.if-a-cofactor_words.true

pub returns-then-b-cofactor_words : goal.returns-then-b-cofactor_words
returns-then-b-cofactor_words c =
    misfit-b _ _ _ _ _ _ _ (sym c.judge_gcd.ensures ∙ c.in_ok-judge_gcd.was) c.cofactor_words.ensures c.if-a-cofactor_words.false c.cofactor_words-2.ensures c.if-b-cofactor_words.true

pub returns : goal.returns
returns c =
    none-refused _ _ _ _ _ _ _ (sym c.judge_gcd.ensures ∙ c.in_ok-judge_gcd.was) c.cofactor_words.ensures c.if-a-cofactor_words.false c.cofactor_words-2.ensures c.if-b-cofactor_words.false

-- From a polynomial in t to one in u, with t = u/(1+u): the way back from homogenisation.
--     form_term e s j     s_j · u^j · (1+u)^(e-j)
--     form e s            (1+u)^e · s(u/(1+u)): the sum of these terms over j from 0 to e. Of a polynomial P(t) of degree at most e it is the
--                        scaled form of the list of naive degree e that means P.
-- Theorems (proofs/Form):
--     hom-form, form-hom     homogenisation undoes it, and it undoes homogenisation, on polynomials of degree at most e
--     below-hom              a homogenisation at n has degree at most n
--     degree-⟨1-t⟩^          (1-t)^c has degree c
-- Assumes nothing.
use Rattle.std.specs.Prelude.{ℕ, suc, ◌-◌}
use Rattle.algebra.specs.Ring.{CommRing, pow}
use Rattle.algebra.specs.Series.{SeriesRing, C, t}
use Rattle.algebra.specs.Substitute.{⟨1+u⟩}
use Rattle.algebra.specs.Sum.{sum}

module _ {Rg : CommRing} (X : SeriesRing Rg) where
  open X.ring use {Carrier as S, mul as ◌*ˢ◌}

  infixl 70 ◌*ˢ◌
  unfoldable pub form_term : ℕ → S → ℕ → S
  form_term e s j = C X (X.coeff s j) *ˢ pow X.ring (t X) j *ˢ pow X.ring (⟨1+u⟩ X) (e - j)

  unfoldable pub form : ℕ → S → S
  form e s = sum X (suc e) (form_term e s)

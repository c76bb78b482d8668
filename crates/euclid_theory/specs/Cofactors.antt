-- The cofactors a and b of two lists f and g, not both zero: a·f + b·g = (1-t)^(m-w)·h, where w is the naive degree of h. Document 01's
-- conditions and this identity fix both.
--     AreCofactors      what document 01 asks of a and b
-- Assumes nothing.
use Rattle.std.specs.Prelude.{◌≡◌, List, ℕ, suc, ◌-◌, ◌<◌, length}
use Rattle.algebra.specs.OneMinusT.{⟨1-t⟩^}
use Rattle.algebra.specs.PrimeField.{PrimeField}
use Rattle.lists.specs.Degrees.{naive_degree, significant, extent}
use Rattle.lists.specs.Lists.{Coefficients, meaning}
use Rattle.euclid_theory.specs.Gcd.{identity_degree, gcd_of}

module _ (F : PrimeField) where
  open F.series.ring use {add as ◌+ˢ◌, mul as ◌*ˢ◌}

  infixl 65 ◌+ˢ◌
  infixl 70 ◌*ˢ◌
  pub record AreCofactors (f g a b : List ℕ) : Type 0 where
    pub coefficients_a : Coefficients F a
    pub coefficients_b : Coefficients F b
    pub length_a : length a ≡ suc (identity_degree f g - naive_degree f)
    pub length_b : length b ≡ suc (identity_degree f g - naive_degree g)
    pub identity : meaning F a *ˢ meaning F f +ˢ meaning F b *ˢ meaning F g
        ≡ ⟨1-t⟩^ F.series (identity_degree f g - naive_degree (gcd_of F f g)) *ˢ meaning F (gcd_of F f g)
    pub a_zero : significant f ≡ 0 → significant a ≡ 0
    pub b_zero : 0 < significant f → extent f ≡ naive_degree (gcd_of F f g) → significant b ≡ 0
    pub b_small : 0 < significant f → 0 < significant b → extent b < extent f - naive_degree (gcd_of F f g)

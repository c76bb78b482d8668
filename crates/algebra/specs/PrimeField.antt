-- A prime p, the field Z/p and the series over it, in one record; numbers and elements of the field.
--     PrimeField         a prime p, with the formal series over Z/p
--     scalars F          the ring Z/p
--     scalar_field F     that it is a field
--     positive F         0 < p
--     residue F n        the element of the field that the number n stands for
--     value F a          the number below p that stands for a
--     inverse F a        1/a, where a is not 0
--     computes           stands for all that a closed computation has to open: say `unfolding computes`
-- Theorems (proofs/PrimeField):
--     residue-value, value-residue              the numbers below p and the elements of the field, one to one
--     residue-add, residue-mul, residue-neg     the residue of a sum, a product and a negative
--     choose-residue-nonzero                    the binomial coefficients C(n, k) are not 0 in the field, for n below p
-- Assumes nothing.
use Rattle.std.specs.Prelude.{Bool, true, ℕ, ◌<◌}
use Rattle.algebra.specs.Ring.{CommRing, IsField, pow}
use Rattle.algebra.specs.Prime.{Prime}
use Rattle.algebra.specs.Modular as Z
use Rattle.algebra.specs.Zp.{Zp, Zp_field}
use Rattle.algebra.specs.ResiduesLaws.{pos_of}
use Rattle.algebra.specs.Modular.{residue_mod, value_mod}
use Rattle.algebra.specs.Series.{SeriesRing, series, constant_at, variable_at, C, t}
use Rattle.algebra.specs.Polynomial.{monomial}
use Rattle.algebra.specs.OneMinusT.{⟨1-t⟩, ⟨1-t⟩^}
use Rattle.algebra.specs.Substitute.{⟨1+u⟩}
use Rattle.algebra.specs.Sum.{sum, total}
use Rattle.algebra.specs.Degree.{size}
use Rattle.algebra.specs.Division.{digit, step, remainder, quotient}
use Rattle.algebra.specs.Euclid.{done, next, euclid}
use Rattle.algebra.specs.Monic.{top_inverse, monic}
use Rattle.algebra.specs.Choose.{choose}

pub record PrimeField : Type 1 where
  pub p : ℕ
  pub prime : Prime p
  pub series : SeriesRing (Zp p prime)

abbrev pub scalars : PrimeField → CommRing
scalars F = Zp F.p F.prime

abbrev pub scalar_field : (F : PrimeField) → IsField (scalars F)
scalar_field F = Zp_field F.p F.prime

abbrev pub positive : (F : PrimeField) → 0 < F.p
positive F = pos_of F.p F.prime

unfoldable pub residue : (F : PrimeField) → ℕ → (scalars F).Carrier
residue F n = residue_mod F.p (positive F) n

unfoldable pub value : (F : PrimeField) → (scalars F).Carrier → ℕ
value F a = value_mod F.p (positive F) a

unfoldable pub inverse : (F : PrimeField) → (scalars F).Carrier → (scalars F).Carrier
inverse F a = (scalar_field F).inv a

unfoldable pub computes : Bool
unfolding residue value inverse Z.residue_mod Z.value_mod Z.ring-mod Z.inverse_in Z.inverse_mod Z.euclid_mod Z.equal
    series constant_at variable_at C t pow choose monomial size digit step remainder quotient done next euclid top_inverse
    monic ⟨1+u⟩ ⟨1-t⟩ ⟨1-t⟩^ sum total
computes = true

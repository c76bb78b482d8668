-- The numbers modulo a prime p, a field.
--     Zp p prime           the ring Z/p
--     Zp_field p prime     that it is a field
-- Assumes nothing.
use Rattle.std.specs.Prelude.{ℕ}
use Rattle.algebra.specs.Ring.{CommRing, IsField}
use Rattle.algebra.specs.Prime.{Prime}
use Rattle.algebra.specs.Modular.{ring-mod, inverse_in, equal}
use Rattle.algebra.specs.ModularLaws.{mul-inverse_in, one≢zero}
use Rattle.algebra.specs.ResiduesLaws.{pos_of}

module _ (p : ℕ) (prime : Prime p) where
  abbrev pub Zp : CommRing
  Zp = ring-mod p (pos_of p prime)

  abbrev pub Zp_field : IsField Zp
  Zp_field = record { inv = inverse_in p prime; mul-inv = mul-inverse_in p prime; one≢zero = one≢zero p prime; dec = equal p prime }

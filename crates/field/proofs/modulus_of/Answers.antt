-- `field::modulus_of` meets its contract.
-- Assumes nothing.
use Rattle.field.specs.Fields.{modulus}
use Rattle.field.proofs.Fields.{third}
use Rattle.field.proofs.modulus_of.Goals as goal

pub returns-in-0 : goal.returns-in-0
unfolding modulus
returns-in-0 c = rw c.in-0.is

pub returns-in-1 : goal.returns-in-1
unfolding modulus
returns-in-1 c = rw c.in-1.is

pub returns-in_default : goal.returns-in_default
unfolding modulus
returns-in_default c = rw (third c.args.field c.in_default.in_default-own.rest.0.1 c.in_default.in_default-own.rest.1)

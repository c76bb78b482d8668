-- `list_gcd::common_power` meets its contract, by which of the two lists are zero.
-- Assumes nothing.
use native.Mathlib.Omega.{arith}
use Rattle.list_gcd.proofs.Power.{none, first, second, both}
use Rattle.list_gcd.proofs.common_power.Goals as goal

pub returns-in-0-eq0 : goal.returns-in-0-eq0
returns-in-0-eq0 c =
    let a = c.args in
    omega (arith, none a.f.now a.g.now (omega arith) (omega arith))

pub returns-in-0-default : goal.returns-in-0-default
returns-in-0-default c =
    let a = c.args in
    omega (arith, second a.f.now a.g.now (omega arith) (λ e. c.in-0-default.is-1.1 (omega arith)))

pub returns-in_default-eq0 : goal.returns-in_default-eq0
returns-in_default-eq0 c =
    let a = c.args in
    omega (arith, first a.f.now a.g.now (λ e. c.in_default-eq0.is-0.1 (omega arith)) (omega arith))

pub returns-in_default : goal.returns-in_default
returns-in_default c =
    let a = c.args in
    omega (arith, both a.f.now a.g.now (λ e. c.in_default.is-0.1 (omega arith)) (λ e. c.in_default.is-1.1 (omega arith)))

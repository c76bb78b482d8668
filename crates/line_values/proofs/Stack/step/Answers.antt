-- `line_values::Stack::step` meets its contract, whichever byte x is.
-- Assumes nothing.
use mathlib.Core.Path.{◌≡◌, sym, ap, ◌∙◌}
use Prim.Native.Nat.{ℕ}
use Rattle.std.proofs.Common.{rules, Ok, Result}
use Rattle.lines.specs.declared.Operator.{Operator}
use Rattle.lines.specs.declared.Operator.TheVariants.{Derive}
use Rattle.lines.specs.Program.{derive_byte, byte_of}
use Rattle.lines.proofs.Operators.{operator-byte, operator-high, derive-only}
use Rattle.line_values.proofs.Steps.{step-derive, step-join, some-derive, some-join, stepped-as}
use Rattle.line_values.proofs.Stack.step.Goals as goal

abbrev is : Operator → Result Operator ℕ
is o = Ok o

pub derive_top-requires-clause-lying : goal.derive_top-requires-clause-lying
derive_top-requires-clause-lying c =
    let ready = c.requires.ready in
    let x : c.args.x ≡ derive_byte = operator-byte c.args.x Derive (sym c.try_from.ensures ∙ c.in-Ok-Derive.is ∙ ap is c.in-Ok-Derive.field-0-is) in
    (ready.lying, some-derive c.args.x c.args.self.now.top x ready.enough)

pub returns-in-Ok-Derive : goal.returns-in-Ok-Derive
returns-in-Ok-Derive c =
    let x : c.args.x ≡ derive_byte = operator-byte c.args.x Derive (sym c.try_from.ensures ∙ c.in-Ok-Derive.is ∙ ap is c.in-Ok-Derive.field-0-is) in
    stepped-as (λ st. step-derive _ _ _ _ st x) _ _ (Ok tt) c.derive_top.ensures

pub join_top-requires : goal.join_top-requires
join_top-requires c =
    let ready = c.requires.ready in
    let x : c.args.x ≡ byte_of c.in-Ok.operator = operator-byte c.args.x c.in-Ok.operator (sym c.try_from.ensures ∙ c.in-Ok.is) in
    let other : c.in-Ok.operator ≡ Derive → ⊥ = search rules in
    let two = some-join (byte_of c.in-Ok.operator) c.args.self.now.top (operator-high c.in-Ok.operator) (λ e. other (derive-only c.in-Ok.operator e)) (rw x at ready.enough) in
    record { lying = (ready.lying, two); room_len = c.requires.room_len }

pub returns-in-Ok : goal.returns-in-Ok
returns-in-Ok c =
    let x : c.args.x ≡ byte_of c.in-Ok.operator = operator-byte c.args.x c.in-Ok.operator (sym c.try_from.ensures ∙ c.in-Ok.is) in
    let other : c.in-Ok.operator ≡ Derive → ⊥ = search rules in
    rw x (stepped-as (λ st. step-join _ _ _ _ st (operator-high c.in-Ok.operator) (λ e. other (derive-only c.in-Ok.operator e))) _ _ c.join_top.result c.join_top.ensures)

-- `field_inverse::inverse_over` meets its contract: every coefficient but 0 has an inverse, so no call gives 11.
-- Assumes nothing.
use mathlib.Core.Path.{◌≡◌, refl}
use mathlib.Core.Logic.{inl, inr}
use native.Mathlib.Omega.{arith}
use Rattle.field.specs.Field.{inverse_of}
use Rattle.field.specs.Fields.{field_at, modulus}
use Rattle.field.proofs.Fields.{p-at}
use Rattle.field_inverse.proofs.Answers.{inverse-loose, inverse-zero, answered}
use Rattle.field_inverse.proofs.Tried.{is_found, not-zero}
use Rattle.refusal.proofs.Clauses.{answer_and_inverts}
use Rattle.field_inverse.proofs.inverse_over.Goals as goal

pub returns-then-modulus_of-a : goal.returns-then-modulus_of-a
returns-then-modulus_of-a c = let a = c.args in record { answer = rw (inverse-loose (modulus a.field) a.a (omega arith)); inverts = inl refl }

pub returns-then-a-eq0 : goal.returns-then-a-eq0
returns-then-a-eq0 c = let a = c.args in record { answer = rw (inverse-zero (modulus a.field) a.a (omega arith) c.if-a-eq0.true); inverts = inr refl }

pub returns-then-b-eq0 : goal.returns-then-b-eq0
returns-then-b-eq0 c =
    let is_inverse : c.find-b.result ≡ inverse_of (field_at c.args.field) c.args.a = c.find-b.ensures in
    let a = c.args in
    answer_and_inverts (absurd (not-zero (field_at _) (p-at _) a.a (omega arith) (omega arith) is_inverse (omega arith)))

pub returns : goal.returns
returns c =
    let is_inverse : c.find-b.result ≡ inverse_of (field_at c.args.field) c.args.a = c.find-b.ensures in
    let a = c.args in
    let all = answered (field_at _) (p-at _) a.a _ (omega arith) (omega arith) (is_found (field_at _) (p-at _) a.a (omega arith) (omega arith) _ is_inverse) in
    record { answer = all.answer; inverts = all.inverts }

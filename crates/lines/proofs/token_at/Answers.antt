-- `lines::token_at` meets its contract: one law of proofs/Scan for each way through it.
-- Assumes nothing.
use mathlib.Core.Path.{◌≡◌, ◌∙◌}
use mathlib.Core.Bool.{true, false}
use mathlib.Core.List.{◌∷◌}
use Prim.Native.Nat.{◌+◌, ◌-◌, ◌<◌}
use native.Mathlib.Omega.{arith}
use lib.ListN.{length, get_or}
use Rattle.lines.specs.declared.Token.TheVariants.{Number}
use Rattle.lines.specs.Grammar.{is_digit}
use Rattle.lines.specs.Internal.{rest_of}
use Rattle.lines.proofs.Scan.{digit-at, rest_end, rest-sign, rest-last, rest-digit, rest-digits}
use Rattle.lines.proofs.token_at.Goals as goal
use Rattle.lines.proofs.token_at.Goals.{in-Some+else-is_ascii_digit, in_default}

-- only spaces are left
pub returns-in_err-a : goal.returns-in_err-a
returns-in_err-a c =
    let place = c.skip_spaces-i.result in
    rw c.from_residual.ensures (c.skip_spaces-i.ensures.same ∙ rest_end c.args.line.now place c.in_err-a.ensures.lookup.3)

-- no digit
pub returns-then-not-is_ascii_digit : goal.returns-then-not-is_ascii_digit
returns-then-not-is_ascii_digit c =
    let bytes = c.args.line.now in
    let place = c.skip_spaces-i.result in
    let skipped = c.skip_spaces-i.ensures in
    let here : place < length bytes = c.in_ok-a.ensures.lookup.3.0 in
    let a : c.in_ok-a.field-0.now ≡ get_or bytes place 0 = c.in_ok-a.ensures.lookup.3.1 0 in
    let no : is_digit (get_or bytes place 0) ≡ false = digit-at a c.is_ascii_digit.ensures.value c.if-not-is_ascii_digit.true in
    rw (c.sign_of.ensures, a)
    (record { is = skipped.same ∙ rest-sign bytes place here (skipped.found here) no; past = omega arith; within = omega arith })

-- two digits
pub returns-then-is_ascii_digit : goal.returns-then-is_ascii_digit
returns-then-is_ascii_digit c =
    let bytes = c.args.line.now in
    let place = c.skip_spaces-i.result in
    let here : place < length bytes = c.in_ok-a.ensures.lookup.3.0 in
    let a : c.in_ok-a.field-0.now ≡ get_or bytes place 0 = c.in_ok-a.ensures.lookup.3.1 0 in
    let one : is_digit (get_or bytes place 0) ≡ true = digit-at a c.is_ascii_digit.ensures.value c.if-not-is_ascii_digit.false in
    let next : place + 1 < length bytes = c.in-Some.ensures.lookup.3.0 in
    let b : c.in-Some.field-0.now ≡ get_or bytes (place + 1) 0 = c.in-Some.ensures.lookup.3.1 0 in
    let two : is_digit (get_or bytes (place + 1) 0) ≡ true = digit-at b c.is_ascii_digit-in-Some.ensures.value c.if-is_ascii_digit.true in
    rw (a, b)
    (record { is = c.skip_spaces-i.ensures.same ∙ rest-digits bytes place here one next two; past = omega arith; within = omega arith })

-- a digit, and no digit behind it
pub returns : goal.returns
returns c =
    let bytes = c.args.line.now in
    let place = c.skip_spaces-i.result in
    let here : place < length bytes = c.in_ok-a.ensures.lookup.3.0 in
    let a : c.in_ok-a.field-0.now ≡ get_or bytes place 0 = c.in_ok-a.ensures.lookup.3.1 0 in
    let one : is_digit (get_or bytes place 0) ≡ true = digit-at a c.is_ascii_digit.ensures.value c.if-not-is_ascii_digit.false in
    let read : rest_of bytes place ≡ Number (get_or bytes place 0 - 48) ∷ rest_of bytes (place + 1) =
    elim c.match-get.branch [
      | in-Some+else-is_ascii_digit w ↦
          let next : place + 1 < length bytes = w.in-Some.ensures.lookup.3.0 in
          let b : w.in-Some.field-0.now ≡ get_or bytes (place + 1) 0 = w.in-Some.ensures.lookup.3.1 0 in
          rest-digit bytes place here one next (digit-at b w.is_ascii_digit-in-Some.ensures.value w.if-is_ascii_digit.false)
      | in_default w ↦ rest-last bytes place here one w.in_default.ensures.lookup.3
    ] in
    rw a (record { is = c.skip_spaces-i.ensures.same ∙ read; past = omega arith; within = omega arith })

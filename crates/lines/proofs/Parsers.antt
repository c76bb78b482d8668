-- The laws of proofs/Turns, of a parser.
--     number-parsed, derived-parsed, group-parsed      a factor
--     group-unclosed, group-unended                    an expression in parentheses that does not end with one
--     product-turned, product-failed                   one factor more, and none behind *
--     sum-turned, sum-failed                           one term more, and none behind + or -
-- Assumes nothing.
use mathlib.Core.Path.{◌≡◌, refl, ◌∙◌}
use mathlib.Core.List.{List, []}
use Prim.Native.Nat.{ℕ, ◌+◌}
use native.Mathlib.Omega.{arith}
use lib.ListN.{set}
use Rattle.std.specs.Prelude.{Some}
use Rattle.lines.specs.declared.Operator.{Operator}
use Rattle.lines.specs.declared.Parser.{Parser}
use Rattle.lines.specs.declared.Token.{Token}
use Rattle.lines.specs.declared.Token.TheVariants.{Number, Times, Derive, Open, Close}
use Rattle.lines.specs.Program.{multiply_byte, derive_byte, byte_of}
use Rattle.lines.specs.Reader.{outside, SumPlace, TermPlace, FactorPlace, first_factor, first_term, want}
use Rattle.lines.specs.Internal.{rest_of, Follows, SumSign, Past, Room, Same, Wrote, Got, Read, PastFactor, PastProducts, PastTerm, PastSums, PastExpression}
use Rattle.lines.proofs.Turns.{number_read, derive-read, group-read, group-ends, group-open, products-turn, products-fail, sums-turn, sums-fail, sign-past, room_for}

-- what one reading leaves is where the next one begins
through : {a b c : Parser} {at : ℕ} → Same a b → Same (record b { at = at }) c → Same a c
through h g = record { line = g.line ∙ h.line; code = g.code ∙ h.code; room = g.room ∙ h.room }

itself : (a : Parser) → Same a a
itself a = record { line = refl; code = refl; room = refl }

wrote : {past : Past} {line : List ℕ} {at : ℕ} {old : List ℕ} {n x : ℕ} {next end : Parser} → Wrote x next end
    → Got past line at old n (set next.code.now next.filled x) next.at (next.filled + 1)
    → Got past line at old n end.code.now end.at end.filled
wrote w g = rw (w.code, w.at, w.filled) g

module _ {old : Parser} (room : Room old) where
  pub number-parsed : {v after : ℕ} {end : Parser} → Follows old.line.now old.at (Number v) after → Wrote v (record old { at = after }) end
      → Read PastFactor old end
  number-parsed {v} {after} f w =
      record {
        same = through (itself old) w.same;
        got =
            wrote w
            (number_read old.line.now old.at after old.code.now old.filled old.code.now v f
            (omega (arith, room.behind, room.enough, f.past, f.within)));
      }

  pub derived-parsed : {x after : ℕ} {next end : Parser} → Follows old.line.now old.at Derive after
      → Read PastFactor (record old { at = after }) next → x ≡ derive_byte → Wrote x next end → Read PastFactor old end
  derived-parsed {x} {after} {next} f h e w =
      let g = h.got in
      record {
        same = through (through (itself old) h.same) w.same;
        got =
            wrote w
            (rw e
            (derive-read old.line.now old.at after old.code.now old.filled next.code.now next.at next.filled f g
            (omega (arith, room.behind, room.enough, f.past, g.short, g.within, h.same.room))));
      }

module _ {old next : Parser} {after : ℕ} (f : Follows old.line.now old.at Open after) (h : Read PastExpression (record old { at = after }) next) where
  pub group-parsed : {beyond : ℕ} → Follows next.line.now next.at Close beyond → Read PastFactor old (record next { at = beyond })
  group-parsed {beyond} l =
      record {
        same = record { line = h.same.line; code = h.same.code; room = h.same.room };
        got = group-read old.line.now old.at after old.code.now old.filled next.code.now next.at next.filled beyond f h.got (rw h.same.line at l);
      }

  pub group-unended : rest_of next.line.now next.at ≡ [] → (k : FactorPlace) → want (rest_of old.line.now old.at) k ≡ outside
  group-unended e =
      group-ends old.line.now old.at after old.code.now old.filled next.code.now next.at next.filled f h.got (rw h.same.line at e)

  pub group-unclosed : {t : Token} {beyond : ℕ} → Follows next.line.now next.at t beyond → (t ≡ Close → ⊥)
      → (k : FactorPlace) → want (rest_of old.line.now old.at) k ≡ outside
  group-unclosed {t} {beyond} l =
      group-open old.line.now old.at after old.code.now old.filled next.code.now next.at next.filled f h.got t beyond (rw h.same.line at l)

module _ {old here : Parser} {after : ℕ} where
  module _ (g : Read PastProducts old here) (s : Follows here.line.now here.at Times after) where
    pub product-failed : ((k : FactorPlace) → want (rest_of here.line.now after) k ≡ outside)
        → (k : TermPlace) → want (rest_of old.line.now old.at) (first_factor k) ≡ outside
    product-failed h =
        products-fail old.line.now old.at old.code.now old.filled here.code.now here.at here.filled after g.got (rw g.same.line at s) (rw g.same.line at h)

    pub product-turned : {x : ℕ} {next end : Parser} → Room old → Read PastFactor (record here { at = after }) next → x ≡ multiply_byte
        → Wrote x next end → Read PastProducts old end
    product-turned {x} {next} room h e w =
        let s' = rw g.same.line at s in
        let h' = rw g.same.line at h.got in
        let fits = room_for room.behind room.enough g.got s'.past s'.within g.same.room next.code.now next.at next.filled h' h.same.room in
        record {
          same = through (through g.same h.same) w.same;
          got =
              wrote w
              (products-turn old.line.now old.at old.code.now old.filled here.code.now here.at here.filled after g.got
              x next.code.now next.at next.filled e s' h' fits);
        }

  module _ (g : Read PastSums old here) {o : Operator} (s : SumSign here.line.now here.at (Some (o, after))) where
    pub sum-failed : ((k : TermPlace) → want (rest_of here.line.now after) (first_factor k) ≡ outside)
        → (k : SumPlace) → want (rest_of old.line.now old.at) (first_factor (first_term k)) ≡ outside
    sum-failed h =
        sums-fail old.line.now old.at old.code.now old.filled here.code.now here.at here.filled after g.got o (rw g.same.line at s) (rw g.same.line at h)

    pub sum-turned : {x : ℕ} {next end : Parser} → Room old → Read PastTerm (record here { at = after }) next → x ≡ byte_of o
        → Wrote x next end → Read PastSums old end
    sum-turned {x} {next} room h e w =
        let s' : SumSign old.line.now here.at (Some (o, after)) = rw g.same.line at s in
        let h' = rw g.same.line at h.got in
        let past = sign-past old.line.now here.at o after s' in
        let fits = room_for room.behind room.enough g.got past.0 past.1 g.same.room next.code.now next.at next.filled h' h.same.room in
        record {
          same = through (through g.same h.same) w.same;
          got =
              wrote w
              (sums-turn old.line.now old.at old.code.now old.filled here.code.now here.at here.filled after g.got
              o x next.code.now next.at next.filled s' e h' fits);
        }

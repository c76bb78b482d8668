-- `report_text::put_gcd` meets its contract: the parts of the two lines, one after the other.
-- Assumes nothing.
use mathlib.Core.Path.{refl, sym}
use mathlib.Core.List.{List, [], ◌∷◌, ◌++◌, map}
use Prim.Native.Nat.{ℕ}
use Rattle.field.specs.Fields.{field_at}
use Rattle.report_text.specs.Text.{decimal, line}
use Rattle.report_text.specs.Report.{⟨gcd⟩}
use Rattle.report_text.specs.Internal.{Room}
use Rattle.report_text.proofs.Puts.{put_is, put_then, room-is, room-first, room-then}
use Rattle.report_text.proofs.Lines.{gcd-lines}
use borrow.Author.Rules.{rules}
use Rattle.report_text.proofs.put_gcd.Goals as goal

-- the text after the power, after the degree, and after the name
abbrev afterPower : List ℕ → List ℕ
afterPower h = (10 ∷ []) ++ line (map decimal h)

abbrev afterDegree : List ℕ → ℕ → List ℕ
afterDegree h c = (32 ∷ decimal c) ++ afterPower h

abbrev afterName : List ℕ → (d c : ℕ) → List ℕ
afterName h d c = (32 ∷ decimal d) ++ afterDegree h c

pub put_bytes-requires : goal.put_bytes-requires
put_bytes-requires c = room-first ⟨gcd⟩ _ (room-is (gcd-lines (field_at _) c.args.h.now c.args.c.0 refl) c.requires.room)

pub put_field-requires : goal.put_field-requires
put_field-requires c =
    let name-room : Room (afterName c.args.h.now c.gcd_degree.result c.args.c.0) c.put_bytes.new.self.used c.put_bytes.new.self.bytes = room-then (room-is (gcd-lines (field_at _) c.args.h.now c.args.c.0 c.gcd_degree.ensures) c.requires.room) c.put_bytes.ensures in
    room-first _ _ name-room

pub put_field-requires-2 : goal.put_field-requires-2
put_field-requires-2 c =
    let name-room : Room (afterName c.args.h.now c.gcd_degree.result c.args.c.0) c.put_bytes.new.self.used c.put_bytes.new.self.bytes = room-then (room-is (gcd-lines (field_at _) c.args.h.now c.args.c.0 c.gcd_degree.ensures) c.requires.room) c.put_bytes.ensures in
    let degree-room : Room (afterDegree c.args.h.now c.args.c.0) c.put_field.new.self.used c.put_field.new.self.bytes = room-then name-room c.put_field.ensures in
    room-first _ _ degree-room

pub put-requires : goal.put-requires
put-requires c =
    let name-room : Room (afterName c.args.h.now c.gcd_degree.result c.args.c.0) c.put_bytes.new.self.used c.put_bytes.new.self.bytes = room-then (room-is (gcd-lines (field_at _) c.args.h.now c.args.c.0 c.gcd_degree.ensures) c.requires.room) c.put_bytes.ensures in
    let degree-room : Room (afterDegree c.args.h.now c.args.c.0) c.put_field.new.self.used c.put_field.new.self.bytes = room-then name-room c.put_field.ensures in
    let power-room : Room (afterPower c.args.h.now) c.put_field-2.new.self.used c.put_field-2.new.self.bytes = room-then degree-room c.put_field-2.ensures in
    room-first (10 ∷ []) _ power-room

pub put_words-requires : goal.put_words-requires
put_words-requires c =
    let name-room : Room (afterName c.args.h.now c.gcd_degree.result c.args.c.0) c.put_bytes.new.self.used c.put_bytes.new.self.bytes = room-then (room-is (gcd-lines (field_at _) c.args.h.now c.args.c.0 c.gcd_degree.ensures) c.requires.room) c.put_bytes.ensures in
    let degree-room : Room (afterDegree c.args.h.now c.args.c.0) c.put_field.new.self.used c.put_field.new.self.bytes = room-then name-room c.put_field.ensures in
    let power-room : Room (afterPower c.args.h.now) c.put_field-2.new.self.used c.put_field-2.new.self.bytes = room-then degree-room c.put_field-2.ensures in
    (search rules, room-then power-room c.put.ensures)

pub returns : goal.returns
returns c = put_is (sym (gcd-lines (field_at _) _ _ c.gcd_degree.ensures)) refl (put_then c.put_bytes.ensures (put_then c.put_field.ensures (put_then c.put_field-2.ensures (put_then c.put.ensures c.put_words.ensures))))

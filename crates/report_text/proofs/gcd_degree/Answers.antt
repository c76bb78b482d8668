-- `report_text::gcd_degree` meets its contract: h is not too long for its degree in t, to which c is added.
-- Assumes nothing.
use mathlib.Core.Path.{◌≡◌, refl}
use mathlib.Core.List.{List}
use Prim.Native.Nat.{ℕ, ◌≤◌}
use native.Mathlib.Omega.{arith}
use lib.ListN.{length}
use Rattle.field.specs.Fields.{field_at, longest}
use Rattle.field.proofs.Fields.{longest-room}
use Rattle.ordinary_theory.specs.InT.{degree_in_t}
use Rattle.ordinary_theory.proofs.InT.{size_in_t-le}
use Rattle.list_powers.specs.Powers.{degree_found}
use Rattle.list_powers.proofs.Powers.{not-long}
use Rattle.report_text.specs.Report.{gcd_degree}
use Rattle.report_text.proofs.gcd_degree.Goals as goal

-- the degree in t
found : (k : ℕ) (h : List ℕ) {n : ℕ} → length h ≤ longest k → n ≡ degree_found k h → n ≡ degree_in_t (field_at k) h
found k h few e = omega (arith, e, not-long (longest k) (length h) {s = degree_in_t (field_at k) h} few refl)

pub overflow_add-result : goal.overflow_add-result
unfolding degree_in_t
overflow_add-result c =
    let degree = found c.args.field c.args.h.now c.requires.0 c.degree_in_t.ensures in
    omega (arith, degree, size_in_t-le (field_at c.args.field) c.args.h.now, longest-room c.args.field, c.requires)

pub returns : goal.returns
unfolding gcd_degree
returns c = omega (arith, found c.args.field c.args.h.now c.requires.0 c.degree_in_t.ensures)

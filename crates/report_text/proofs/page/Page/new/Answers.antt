-- `report_text::Page::new` meets its contract.
-- Assumes nothing.
use Prim.Native.Nat.{ℕ}
use native.Mathlib.Omega.{arith}
use lib.ListN.{length-replicate}
use Rattle.report_text.specs.Calls.{max_text}
use Rattle.report_text.proofs.Puts.{all-zero}
use Rattle.report_text.proofs.page.Page.new.Goals as goal

pub invariant_of-result : goal.invariant_of-result
invariant_of-result c = record { whole = length-replicate {A = ℕ} max_text 0; inside = omega arith; rest = all-zero max_text }

-- `report_text::put_number` meets its contract. The measure is the number.
-- Assumes nothing.
use Rattle.report_text.proofs.slice.+put_number.Given as goal

abbrev pub decreases-put_number : goal.decreases-put_number
decreases-put_number l = l.n

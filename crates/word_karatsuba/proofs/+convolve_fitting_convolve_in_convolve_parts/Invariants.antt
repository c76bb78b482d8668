-- `word_karatsuba::convolve_fitting`, `convolve_in` and `convolve_parts`, which call each other. The measure is three times the words of the
-- result, and 2, 1 or 0 more: the first calls the second for the same result, the second the third, and each of the last two the first for a
-- shorter one.
-- Assumes nothing.
use Rattle.std.proofs.Common.{◌+◌, ◌*◌, length}
use Rattle.word_karatsuba.proofs.+convolve_fitting_convolve_in_convolve_parts.Given as goal

abbrev pub decreases-convolve_fitting : goal.decreases-convolve_fitting
decreases-convolve_fitting l = 3 * length l.out.now + 2

abbrev pub decreases-convolve_in : goal.decreases-convolve_in
decreases-convolve_in l = 3 * length l.out.now + 1

abbrev pub decreases-convolve_parts : goal.decreases-convolve_parts
decreases-convolve_parts l = 3 * length l.out.now

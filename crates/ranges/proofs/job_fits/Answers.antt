-- `ranges::job_fits` meets its contract.
use native.Mathlib.Omega.{arith}
use Rattle.ranges.specs.Ranges.{job_fits}
use Rattle.ranges.proofs.job_fits.Goals as goal

pub returns-then-one_to-3 : goal.returns-then-one_to-3
unfolding job_fits
returns-then-one_to-3 c = grind arith

pub returns-else-one_to-3 : goal.returns-else-one_to-3
unfolding job_fits
returns-else-one_to-3 c = grind arith

-- `planner::job_of` meets its contract: each number fits its field.
use native.Mathlib.Omega.{arith}
use mathlib.Core.Path.{sym}
use Rattle.gmf.specs.Jobs.{JobInRange, job_due}
use Rattle.ranges.proofs.Results.{ranging}
use Rattle.planner.specs.Offers.{job_in}
use Rattle.planner.proofs.job_of.Goals as goal

pub returns-then-not-job_fits : goal.returns-then-not-job_fits
unfolding job_in
returns-then-not-job_fits c = rw (← c.if-not-job_fits.ensures, job_in)

ranged : (c : goal.Else-not-job_fits) → JobInRange (job_due c.args.id c.args.cost c.args.period c.args.deadline)
ranged c = (ranging.rule.one_job _ _ _ _).0 (sym c.if-not-job_fits.ensures)

pub overflow_cast-result : goal.overflow_cast-result
overflow_cast-result c = omega (arith, ranged c)

pub overflow_cast-result-2 : goal.overflow_cast-result-2
overflow_cast-result-2 c = omega (arith, ranged c)

pub overflow_cast-result-3 : goal.overflow_cast-result-3
overflow_cast-result-3 c = omega (arith, ranged c)

pub overflow_cast-result-4 : goal.overflow_cast-result-4
overflow_cast-result-4 c = omega (arith, ranged c)

pub returns : goal.returns
unfolding job_in
returns c = rw (← c.if-not-job_fits.ensures, job_in)

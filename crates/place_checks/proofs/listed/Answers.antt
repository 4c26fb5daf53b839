-- `place_checks::listed` meets its contract. What the loop keeps is `Listing`.
use native.Mathlib.Omega.{arith}
use mathlib.Core.Path.{refl, sym, ◌∙◌}
use Rattle.place_checks.proofs.Turns.{listing_starts, listing_ends, not_above, not_fit, listing_turns}
use Rattle.place_checks.proofs.listed.Goals as goal

pub loop-job-init : goal.loop-job-init
loop-job-init c = listing_starts (omega arith) (omega arith)

pub returns-then-job-last : goal.returns-then-job-last
returns-then-job-last c = sym (not_above c.loop-job.invariant (omega arith) (omega arith))

pub returns-then-not-job_fits : goal.returns-then-not-job_fits
returns-then-not-job_fits c = sym (not_fit c.loop-job.invariant (omega arith) _ refl (sym c.job_fits.ensures ∙ c.if-not-job_fits.true))

pub loop-job-preserved : goal.loop-job-preserved
loop-job-preserved c =
    listing_turns c.loop-job.invariant (omega arith) _ refl (omega arith) (sym c.job_fits.ensures ∙ c.if-not-job_fits.false) (omega arith)
    (omega arith)

pub returns : goal.returns
returns c = sym (listing_ends c.loop-job.invariant (omega arith))

-- `place_checks::listed` meets its contract. What the loop keeps is `Listing`.
use Rattle.place_checks.proofs.Turns.{Listing}
use Rattle.place_checks.proofs.listed.Given as goal

abbrev pub invariant-loop-job : goal.invariant-loop-job
invariant-loop-job l = Listing l.jobs l.last l.job-index

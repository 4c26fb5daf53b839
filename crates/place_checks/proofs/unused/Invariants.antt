-- `place_checks::unused` meets its contract. What the loop keeps is `Clearing`.
use Rattle.place_checks.proofs.Turns.{Clearing}
use Rattle.place_checks.proofs.unused.Given as goal

abbrev pub invariant-loop-place : goal.invariant-loop-place
invariant-loop-place l = Clearing l.places l.gathered l.place-index

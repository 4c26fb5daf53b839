-- `slack_calls::slack_under` meets its contract.
use Rattle.slack_calls.proofs.Walk.{Walked}
use Rattle.slack_calls.proofs.slack_under.Given as goal

abbrev pub invariant-loop-i : goal.invariant-loop-i
invariant-loop-i l = Walked l.machine l.jobs l.levels l.ticks l.remainders l.supply l.taken l.job l.i

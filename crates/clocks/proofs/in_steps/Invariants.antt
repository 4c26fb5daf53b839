-- One number after the other: `Stepping` is the loop's invariant.
use Rattle.clocks.proofs.Stepping.{Stepping}
use Rattle.clocks.proofs.in_steps.Given as goal

abbrev pub invariant-loop-number : goal.invariant-loop-number
invariant-loop-number l = Stepping l.numbers l.lowest l.gap l.expected l.number-index

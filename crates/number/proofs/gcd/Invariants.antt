-- `number::gcd`: a step keeps the gcd of the two numbers.
use Rattle.std.proofs.Common.{◌≡◌}
use Rattle.number.specs.Divisors.{gcd}
use Rattle.number.proofs.gcd.Given as goal

abbrev pub invariant-loop-y : goal.invariant-loop-y
invariant-loop-y l = gcd l.x l.y ≡ gcd l.initial.x l.initial.y

abbrev pub decreases-loop-y : goal.decreases-loop-y
decreases-loop-y l = l.y

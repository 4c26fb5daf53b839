-- `roster_shape::is_zero` meets its contract.
use Rattle.std.proofs.Common.{arith}
use Rattle.std.proofs.lemmas.Bool.Decides.{nat_tests}
use Rattle.roster_shape.specs.Shape.{all_zero}
use Rattle.roster_shape.proofs.is_zero.Goals as goal

pub returns-then-all_zero : goal.returns-then-all_zero
unfolding all_zero
returns-then-all_zero c = grind (arith, nat_tests)

pub returns-else-all_zero : goal.returns-else-all_zero
unfolding all_zero
returns-else-all_zero c = grind (arith, nat_tests)

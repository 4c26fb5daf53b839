-- `ranges::one_to` meets its contract.
use Rattle.std.proofs.Common.{arith}
use Rattle.std.proofs.lemmas.Bool.Decides.{nat_tests}
use Rattle.ranges.specs.Ranges.{one_to}
use Rattle.ranges.proofs.one_to.Goals as goal

pub returns : goal.returns
unfolding one_to
returns c = grind (arith, nat_tests)

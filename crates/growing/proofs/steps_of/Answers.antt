-- `growing::steps_of` meets its contract.
use Rattle.std.proofs.Common.{arith}
use Rattle.growing.proofs.steps_of.Goals as goal

pub returns : goal.returns
returns c = omega arith

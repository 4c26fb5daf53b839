-- `planner::Roster::empty` meets its contract.
use Rattle.std.proofs.Common.{arith}
use Rattle.std.proofs.lemmas.Grind.{common_steps}
use Rattle.gmf.specs.Machine.{machine}
use Rattle.planner.specs.Roster.{empty_roster}
use Rattle.planner.proofs.Roster.empty.Goals as goal

pub returns : goal.returns
unfolding empty_roster machine
returns c = grind (arith, common_steps)

-- `desk::Desk::start` meets its contract.
use Rattle.std.proofs.Common.{ap}
use Rattle.planner.specs.declared.Roster.{Roster}
use Rattle.desk.specs.Pages.{at_start}
use Rattle.desk.proofs.Desk.start.Goals as goal

pub returns : goal.returns
unfolding at_start
returns c = ap (λ (r : Roster). record { roster = r; at = 0; line = 1 }) c.empty.ensures

-- `house_table::default_table` meets its contract: after j turns the first j entries stand, read at the speeds of levels 0 to j − 1.
use Rattle.house_table.proofs.Filling.{Filled}
use Rattle.house_table.proofs.default_table.Given as goal

abbrev pub invariant-loop-entry : goal.invariant-loop-entry
invariant-loop-entry l = Filled l.cubes l.machine l.entry-items l.speed l.entry-index

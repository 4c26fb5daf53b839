-- `house_table::cubes::cube_table` meets its contract by one computed test: antt works out the cubes of 0 to 256 and finds the
-- constant's 257 numbers. What holds of every entry is then a law of the cubes (`Cubes`, proved in gmf's proofs/Tables.antt).
use mathlib.Core.Path.{refl}
use Rattle.gmf.specs.Power.{cube, tabulate, cubes}
use Rattle.house_table.proofs.cubes.cube_table.Goals as goal

pub returns : goal.returns
unfolding cubes tabulate cube
returns c = refl

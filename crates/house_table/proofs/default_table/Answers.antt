-- `house_table::default_table` meets its contract: after j turns the first j entries stand, read at the speeds of levels 0 to j − 1.
use Prim.Native.Nat.{ℕ, ◌≤◌}
use native.Mathlib.Omega.{arith}
use mathlib.Core.Path.{subst}
use mathlib.Core.List.{List}
use Rattle.gmf.specs.Machine.{speed}
use Rattle.gmf.proofs.Tables.{slow}
use Rattle.house_table.proofs.Filling.{Filled, filled_begin, filled_more, filled_end}
use Rattle.house_table.proofs.default_table.Goals.{In-loop-entry}
use Rattle.house_table.proofs.default_table.Goals as goal

pub loop-entry-init : goal.loop-entry-init
loop-entry-init c = filled_begin c.requires.levels.1 (omega arith) (omega arith)

-- Every speed that is read is in the table.
within : (c : In-loop-entry) → c.loop-entry.speed ≤ 256
unfolding speed
within c =
    let filled = c.loop-entry.invariant in
    omega (arith, slow c.args.machine c.requires.top_speed c.loop-entry.entry-index (omega (arith, filled.long)))

pub bounds-cubes-speed : goal.bounds-cubes-speed
bounds-cubes-speed c = omega (arith, within (goal.at.bounds-cubes-speed c).In-loop-entry)

pub loop-entry-preserved : goal.loop-entry-preserved
loop-entry-preserved c = filled_more (omega arith) c.loop-entry.invariant

pub returns : goal.returns
returns c = filled_end (omega arith) (subst (λ (l : List ℕ). Filled l c.args.machine c.loop-entry.entry-items c.loop-entry.speed c.loop-entry.entry-index) c.cube_table-cubes.ensures c.loop-entry.invariant)

-- `power_tables::total_power` meets its contract: after k turns the sum is the power of the first k levels, and at most k times the limit.
use native.Mathlib.Numerals.{add-one}
use native.Mathlib.Omega.{arith}
use Rattle.gmf.specs.Capacity.{level}
use Rattle.gmf.proofs.Majorization.{drawn_suc, drawn_all}
use Rattle.power_tables.proofs.total_power.Goals as goal

pub loop-level-preserved : goal.loop-level-preserved
loop-level-preserved c =
    let k = c.loop-level.level-index in
    let levels = c.args.levels.now in
    let next = drawn_suc c.args.table.now k levels (omega arith) in
    (rw (add-one k) (omega (arith, next)), omega (arith, c.requires.powers_bound (level levels k)))

pub returns : goal.returns
returns c =
    omega (arith, drawn_all c.args.table.now c.args.levels.now c.loop-level.level-index (omega arith))

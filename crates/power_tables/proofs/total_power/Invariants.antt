-- `power_tables::total_power` meets its contract: after k turns the sum is the power of the first k levels, and at most k times the limit.
use Prim.Native.Nat.{◌*◌, ◌≤◌}
use mathlib.Core.Path.{◌≡◌}
use Rattle.gmf.specs.Power.{power_limit}
use Rattle.gmf.proofs.Majorization.{drawn}
use Rattle.power_tables.proofs.total_power.Given as goal

abbrev pub invariant-loop-level : goal.invariant-loop-level
invariant-loop-level l = (l.sum ≡ drawn l.table l.level-index l.levels) × (l.sum ≤ l.level-index * power_limit)

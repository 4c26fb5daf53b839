-- `growing::grow` meets its contract.
use Prim.Native.Nat.{suc, ◌*◌, ◌-◌, ◌≤◌}
use Rattle.growing.proofs.Loops.{Outer, Inner}
use Rattle.growing.proofs.grow.Given as goal

abbrev pub invariant-raising : goal.invariant-raising
invariant-raising l = Inner l.machine l.jobs l.need l.levels l.above l.raises l.supply l.i l.v l.p

abbrev pub decreases-raising : goal.decreases-raising
decreases-raising l = suc l.i * l.top_level - l.raises

abbrev pub invariant-joining : goal.invariant-joining
invariant-joining l = (l.i ≤ l.steps) × Outer l.machine l.jobs l.levels l.above l.raises l.supply l.taken l.job l.small l.i

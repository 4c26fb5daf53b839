-- `power_tables::accepts` meets its contract: at each turn the numbers before place j never fall, and no rise among them shrinks.
use Prim.Native.Nat.{◌+◌}
use Rattle.power_tables.proofs.LentTable.{Checked}
use Rattle.power_tables.proofs.accepts.Given as goal

abbrev pub invariant-loop-power : goal.invariant-loop-power
invariant-loop-power l = Checked l.table l.last l.rise (l.power-index + 1)

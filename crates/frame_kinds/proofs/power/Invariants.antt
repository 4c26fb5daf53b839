-- `frame_kinds::power` meets its contract: the first i places have their numbers, and the others zeros.
use mathlib.Core.Path.{◌≡◌}
use lib.ListN.{length}
use Rattle.frame_kinds.proofs.Numbers.{Filled}
use Rattle.frame_kinds.proofs.power.Given as goal

abbrev pub invariant-loop-i : goal.invariant-loop-i
invariant-loop-i l = (length l.values ≡ 32) × Filled l.rest 4 l.values l.i

-- The page keeps its length, and each page filled leaves less of the sheet.
use Rattle.std.proofs.Common.{length, ◌-◌, ◌≡◌}
use Rattle.studio_desk.proofs.answer.Given as goal

abbrev pub invariant-loop-desk : goal.invariant-loop-desk
invariant-loop-desk g l = length l.page ≡ 65536

abbrev pub decreases-loop-desk : goal.decreases-loop-desk
decreases-loop-desk g l = length l.sheet - l.desk.at

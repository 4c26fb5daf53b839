-- Each line ends within the sheet and past its start, so the loop ends.
use Rattle.std.proofs.Common.{length, ◌-◌, ◌≤◌}
use Rattle.frame_trials.proofs.sheets.read.Given as goal

abbrev pub invariant-loop-start : goal.invariant-loop-start
invariant-loop-start g l = l.start ≤ length l.sheet

abbrev pub decreases-loop-start : goal.decreases-loop-start
decreases-loop-start g l = length l.sheet - l.start

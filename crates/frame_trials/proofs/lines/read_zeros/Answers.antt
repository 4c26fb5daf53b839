-- The line has its place in the array.
use native.Mathlib.Omega.{arith}
use lib.ListN.{length-take, length-set}
use Rattle.frame_trials.proofs.lines.read_zeros.Goals as goal

pub slice_bounds-line-end : goal.slice_bounds-line-end
slice_bounds-line-end g c = simp length-set (omega arith)

pub slice_bounds-read_line-end : goal.slice_bounds-read_line-end
slice_bounds-read_line-end g c = simp (length-take, length-set) (omega arith)

-- `place_checks::unused` meets its contract. What the loop keeps is `Clearing`.
use native.Mathlib.Omega.{arith}
use Rattle.place_checks.proofs.Turns.{clearing_starts, clearing_ends, clearing_turns}
use Rattle.place_checks.proofs.unused.Goals as goal

pub loop-place-init : goal.loop-place-init
loop-place-init c = clearing_starts (omega arith) (omega arith)

pub loop-place-preserved : goal.loop-place-preserved
loop-place-preserved c =
    clearing_turns c.loop-place.invariant _ _ _ _ (omega arith) (omega arith) (omega arith) (omega arith) (omega arith) (omega arith)

pub returns : goal.returns
returns c = clearing_ends c.loop-place.invariant _ (omega arith) (omega arith)

-- `place_moves::take_out` meets its contract.
use native.Mathlib.Omega.{arith}
use Rattle.place_moves.proofs.Turns.{out_at}
use Rattle.place_moves.proofs.take_out.Goals as goal

pub returns-then-at-held : goal.returns-then-at-held
returns-then-at-held c =
    out_at c.args.places.now c.args.at (omega arith) _ _ c.copy_within.ensures.after (omega arith) (omega arith) (omega arith) (omega arith)

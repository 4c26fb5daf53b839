-- `place_moves::put_in` meets its contract.
use native.Mathlib.Omega.{arith}
use Rattle.place_moves.proofs.Turns.{put_at}
use Rattle.place_moves.proofs.put_in.Goals as goal

pub returns-then-at-end : goal.returns-then-at-end
returns-then-at-end c = put_at c.args.places.now c.args.at (omega arith) _ c.args.job c.copy_within.ensures.after

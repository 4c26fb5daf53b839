-- The jobs of a roster are in range and stand by rising id, so that they are taken in turn.
use mathlib.Core.Path.{subst}
use lib.ListN.{take}
use Rattle.selection.proofs.Results.{selection}
use Rattle.planner.specs.Model.{Opened}
use Rattle.planner.specs.Claims.{Kept}
use Rattle.calls.specs.Claims.{HeldInTurn}
use Rattle.calls.proofs.Demand.{demand_3}

pub held_in_turn : HeldInTurn
held_in_turn = record {
  held = λ r s. selection.takes_in_turn (take r.held r.jobs) s.rules.job_ranges s.rules.by_id;
  after_calls = λ begins calls M table jobs e.
      let kept : Kept (Opened M table jobs) = subst Kept e (demand_3 begins calls).kept in
      selection.takes_in_turn jobs kept.0.job_ranges kept.0.by_id;
  with_one_more = λ r jobs w. selection.takes_in_turn jobs w.job_ranges w.by_id;
}

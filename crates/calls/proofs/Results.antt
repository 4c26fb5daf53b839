-- The claims of lines and of lists of calls, proved.
use Rattle.calls.specs.Claims.{Calling}
use Rattle.calls.proofs.Demand.{ask_rule, same_at_period, demand_3}
use Rattle.calls.proofs.Held.{held_in_turn}

pub calling : Calling
calling = record { ask_rule = ask_rule; same_at_period = same_at_period; demand_3 = demand_3; held_in_turn = held_in_turn }

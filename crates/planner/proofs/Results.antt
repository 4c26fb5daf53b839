-- The claims of the roster and its calls, proved.
use Rattle.planner.specs.Claims.{Planner}
use Rattle.planner.proofs.AcceptanceTrials.{call_trials, example_calls, deadline_calls, form_trials}
use Rattle.planner.proofs.TestRules.{test_rule}
use Rattle.planner.proofs.Forms.{closed_roster, forms}
use Rattle.planner.proofs.Replies.{inspects}
use Rattle.planner.proofs.Following.{one_call, any_roster, turns_down}
use Rattle.planner.proofs.Offers.{offers}

pub planner : Planner
planner = record {
  tests = test_rule;
  begins = closed_roster;
  forms = forms;
  inspects = inspects;
  one_call = one_call;
  any_roster = any_roster;
  turns_down = turns_down;
  offers = offers;
  call_trials = call_trials;
  example_calls = example_calls;
  deadline_calls = deadline_calls;
  form_trials = form_trials;
}

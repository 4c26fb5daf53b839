-- The known results, computed from the definitions.
use mathlib.Core.Path.{refl}
use Rattle.number.specs.Divisors.{euclid, gcd, lcm}
use Rattle.gmf.specs.Machine.{speed, top, machine}
use Rattle.gmf.specs.Jobs.{window, hyperperiod, work, works}
use Rattle.gmf.specs.Capacity.{insert, sort_descending, largest, capacity}
use Rattle.gmf.specs.Growing.{slowest, raise, demand, holds, raises_left, raise_while_fails, step, steps, growing, plan_of}
use Rattle.gmf.specs.Power.{rise, cube, tabulate, cubes, default_table}
use Rattle.gmf.specs.Trials.{jobs_from}
use Rattle.ranges.specs.Ranges.{one_to, job_fits}
use Rattle.places.specs.Places.{places_of, unused, listed_after, listed, has, remove}
use Rattle.places.specs.Places as places
use Rattle.power_tables.specs.Entries.{entries_of, zeros}
use Rattle.power_tables.specs.Tables.{all_below, is_table}
use Rattle.ranges.specs.Ranges.{speeds_fit}
use Rattle.roster_shape.specs.Shape.{in_shape as shapeTest, all_zero as zeroTest}
use Rattle.planner.specs.Tests.{cycle_too_long, finds_none, no_plan}
use Rattle.planner.specs.Model.{refuse_if, is_opened, on_machine, opened, weighed, admitted, retired}
use Rattle.planner.specs.Model as model
use Rattle.planner.specs.Roster.{empty_roster, model_of, roster_of, sound, well_formed, replied, reply_to}
use Rattle.refusals.specs.Numbers.{refusal_number, number_of}
use Rattle.planner.specs.Offers.{offered, offer}
use Rattle.planner.specs.Calls.{outcome_number, after, model_numbers, model_after, roster_after}
use Rattle.planner.specs.Claims.{roster_with, CallTrials, ExampleCalls, DeadlineCalls, FormTrials}

pub call_trials : CallTrials
unfolding euclid gcd lcm speed top window hyperperiod work works insert sort_descending largest capacity slowest raise demand holds raises_left raise_while_fails step steps growing plan_of rise cube tabulate cubes default_table machine jobs_from entries_of zeros one_to job_fits places_of unused listed_after listed has remove places.insert speeds_fit all_below is_table cycle_too_long finds_none no_plan refuse_if is_opened on_machine opened weighed admitted retired model.step refusal_number number_of outcome_number after model_numbers model_after empty_roster model_of roster_of shapeTest sound zeroTest well_formed replied reply_to roster_after roster_with
call_trials = record {
  sheet = refl;
  none_open = refl;
  one_open = refl;
  tables = refl;
  table_left = refl;
  default_table_law = refl;
  all_held = refl;
  left = refl;
  damaged = refl;
  damaged_left = refl;
}

pub example_calls : ExampleCalls
unfolding euclid gcd lcm speed top window hyperperiod work works insert sort_descending largest capacity slowest raise demand holds raises_left raise_while_fails step steps growing plan_of cube tabulate cubes default_table machine one_to job_fits has places.insert speeds_fit cycle_too_long finds_none no_plan refuse_if is_opened on_machine opened weighed admitted model.step refusal_number outcome_number after offered offer
example_calls = record {
  opens = (refl, refl);
  admits_1 = (refl, refl);
  admits_2 = (refl, refl);
  admits_3 = (refl, refl);
  admits_4 = (refl, refl);
  admits_5 = (refl, refl);
  refuses_6 = (refl, refl);
  offers_5 = refl;
  offers = refl;
}

pub deadline_calls : DeadlineCalls
unfolding euclid gcd lcm speed top window hyperperiod work works insert sort_descending largest capacity slowest raise demand holds raises_left raise_while_fails step steps growing plan_of rise cube tabulate cubes default_table machine entries_of zeros one_to job_fits places_of unused listed_after listed has places.insert speeds_fit all_below is_table cycle_too_long finds_none no_plan refuse_if is_opened on_machine opened weighed admitted model.step refusal_number outcome_number after model_numbers empty_roster model_of roster_of shapeTest sound zeroTest well_formed replied reply_to roster_after roster_with offered offer
deadline_calls = record { range = refl; left = refl; order = refl; offers = refl }

pub form_trials : FormTrials
unfolding euclid gcd lcm speed top window hyperperiod work works insert sort_descending largest capacity slowest raise demand holds raises_left raise_while_fails step steps growing plan_of rise machine jobs_from entries_of zeros one_to job_fits places_of unused listed_after listed speeds_fit all_below is_table cycle_too_long finds_none no_plan empty_roster shapeTest sound zeroTest well_formed roster_with
form_trials = record { kept = refl; not_empty = refl; not_a_machine = refl; not_due = refl; not_places = refl; not_planned = refl }

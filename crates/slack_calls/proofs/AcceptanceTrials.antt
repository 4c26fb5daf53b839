-- The known results, computed from the definitions.
use mathlib.Core.Path.{refl}
use Rattle.number.specs.Divisors.{euclid, gcd, lcm}
use Rattle.gmf.specs.Machine.{speed, top, machine}
use Rattle.gmf.specs.Jobs.{window, hyperperiod, work, works}
use Rattle.gmf.specs.Capacity.{insert as insertNumber, sort_descending, largest, capacity}
use Rattle.gmf.specs.Growing.{slowest, raise, demand, holds, raises_left, raise_while_fails, step, steps, growing, plan_of}
use Rattle.gmf.specs.Power.{rise}
use Rattle.hexadecimal.specs.Text.{digit_of, digits_of, line_of}
use Rattle.line_writer.specs.Page.{written}
use Rattle.places.specs.Places.{unused, has, insert, places_of, listed, listed_after}
use Rattle.power_tables.specs.Entries.{zeros, entries_of}
use Rattle.power_tables.specs.Tables.{all_below, is_table}
use Rattle.ranges.specs.Ranges.{one_to, job_fits, speeds_fit}
use Rattle.roster_shape.specs.Shape.{all_zero as zeroTest, in_shape as shapeTest}
use Rattle.planner.specs.Tests.{cycle_too_long, no_plan, finds_none}
use Rattle.planner.specs.Model.{refuse_if, on_machine}
use Rattle.planner.specs.Roster.{empty_roster, model_of, sound, well_formed}
use Rattle.planner.specs.Offers.{offered, offer, offer_on}
use Rattle.planner.specs.Claims.{roster_with}
use Rattle.refusals.specs.Numbers.{refusal_number}
use Rattle.slack.specs.Slack.{slack_of, difference, slack_at, one_up_to, ticks_of, remainders_of, all_at_top}
use Rattle.slack_writer.specs.Frames.{twos_complement, slack_fields}
use Rattle.filing.specs.Plans.{put_on, reply_on}
use Rattle.slack_calls.specs.Slacks.{slack_line, slack_as, slack_filed_on, slack_filed, slack_reply, slack_under, slack_on, slack_with, slack_to}
use Rattle.slack_calls.specs.Claims.{SlackTrials}

pub trials : SlackTrials
unfolding euclid gcd lcm speed top machine window hyperperiod work works insertNumber sort_descending largest capacity slowest raise demand holds raises_left raise_while_fails step steps growing plan_of digit_of digits_of line_of written unused has insert places_of listed listed_after zeros entries_of rise all_below is_table one_to job_fits speeds_fit zeroTest shapeTest cycle_too_long no_plan finds_none refuse_if on_machine empty_roster model_of sound well_formed offered offer offer_on roster_with refusal_number slack_of difference slack_at one_up_to ticks_of remainders_of all_at_top twos_complement slack_fields put_on reply_on slack_line slack_as slack_filed_on slack_filed slack_reply slack_under slack_on slack_with slack_to
trials = record {
  third = refl;
  sheet = refl;
  no_room = refl;
  no_machine = refl;
  offered = refl;
  fitting = refl;
  due = refl;
  damaged = refl;
  closed = refl;
  out_of_range = refl;
  past_period = refl;
  held = refl;
  full = refl;
  too_long = refl;
}

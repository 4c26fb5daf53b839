-- The known results, computed from the definitions.
use mathlib.Core.Path.{refl}
use Rattle.number.specs.Divisors.{euclid, gcd, lcm}
use Rattle.gmf.specs.Machine.{speed, top, machine}
use Rattle.gmf.specs.Jobs.{window, hyperperiod, work, works}
use Rattle.gmf.specs.Capacity.{insert, sort_descending, largest, capacity}
use Rattle.gmf.specs.Growing.{slowest, raise, demand, holds, raises_left, raise_while_fails, step, steps, growing, plan_of}
use Rattle.gmf.specs.Power.{total}
use Rattle.hexadecimal.specs.Text.{digit_of, digits_of, line_of}
use Rattle.line_writer.specs.Page.{written}
use Rattle.places.specs.Places.{unused}
use Rattle.power_tables.specs.Entries.{zeros}
use Rattle.roster_shape.specs.Shape.{all_zero as zeroTest}
use Rattle.planner.specs.Roster.{empty_roster, model_of, well_formed}
use Rattle.refusals.specs.Numbers.{refusal_number}
use Rattle.filing.specs.Plans.{put_on, plan_line, filed_as, filed_on, filed, reply_on, plan_reply}
use Rattle.filing.specs.Claims.{FileTrials}

pub trials : FileTrials
unfolding euclid gcd lcm speed top machine window hyperperiod work works insert sort_descending largest capacity slowest raise demand holds raises_left raise_while_fails step steps growing plan_of total digit_of digits_of line_of written unused zeros empty_roster model_of zeroTest well_formed refusal_number put_on plan_line filed_as filed_on filed reply_on plan_reply
trials = record { sheet = refl; on_blank = refl; no_room = refl; no_machine = refl }

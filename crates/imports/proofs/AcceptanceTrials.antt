-- Known results, from those of clocks and the machine call.
use mathlib.Core.Path.{refl}
use Rattle.number.specs.Divisors.{euclid, gcd}
use Rattle.gmf.specs.Machine.{machine, speed, top}
use Rattle.gmf.specs.Power.{cube, cubes, tabulate, default_table}
use Rattle.ranges.specs.Ranges.{one_to, speeds_fit}
use Rattle.frequencies.specs.Lists.{without, body, words_of, longer, numeral_from, numeral, numbers_in, numbers_of, in_range, has, different, is_list, insert, rising_from, rising}
use Rattle.clocks.specs.Clocks.{divisor_of, speeds_of, lowest_of, step_of, in_steps, even_gaps, clock_in, clock_of}
use Rattle.refusals.specs.Numbers.{refusal_number}
use Rattle.planner.specs.Model.{refuse_if, is_opened, opened, step}
use Rattle.planner.specs.Calls.{outcome_number, after}
use Rattle.imports.specs.Imports.{by_clock, imported}
use Rattle.imports.specs.Claims.{ImportTrials}

pub import_trials : ImportTrials
unfolding euclid gcd machine speed top cube cubes tabulate default_table one_to speeds_fit without body words_of longer numeral_from numeral numbers_in numbers_of in_range has different is_list insert rising_from rising divisor_of speeds_of lowest_of step_of in_steps even_gaps clock_in clock_of refusal_number refuse_if is_opened opened step outcome_number after by_clock imported
import_trials = record { three = refl; numbers = refl }

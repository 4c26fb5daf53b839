-- An import: "Import it, with a processor count given, as a fresh roster on a new machine."
use Rattle.std.specs.Prelude.{ℕ, not, Result, Ok, Err, List}
use Rattle.gmf.specs.declared.Machine.{Machine}
use Rattle.ranges.specs.Ranges.{one_to}
use Rattle.clocks.specs.declared.Clock.{Clock}
use Rattle.clocks.specs.declared.ListError.{ListError}
use Rattle.clocks.specs.declared.ListError.TheVariants.{NoList, Uneven}
use Rattle.clocks.specs.Clocks.{clock_of}
use Rattle.refusals.specs.declared.Refusal.{Refusal}
use Rattle.refusals.specs.declared.Refusal.TheVariants.{Processors, FrequencyList, UnevenGaps}
use Rattle.planner.specs.declared.Reply.{Reply}
use Rattle.planner.specs.Model.{Closed, OpenMachine, Outcome, refused, accepted, refuse_if, step}
use Rattle.planner.specs.Roster.{empty_roster, roster_of, replied}

-- "It refuses by 18 anything but … numbers …, and by 19 uneven gaps"; otherwise "the book reads it as a machine call with that processor count and
-- those speeds". The call is made on the empty model, so that it never meets 12.
unfoldable pub by_clock : ℕ → Result Clock ListError → Outcome
by_clock m (Err NoList) = refused FrequencyList
by_clock m (Err Uneven) = refused UnevenGaps
by_clock m (Ok clock) = step Closed (OpenMachine m clock.levels clock.lowest clock.step)

-- "… the order is 1, 18, 19, 2."
unfoldable pub imported : ℕ → List ℕ → Outcome
imported m list = refuse_if (not (one_to 32 m)) Processors (by_clock m (clock_of list))

-- What an import replies: the roster of the new model, or the refusal and the roster of all zeros. It takes no roster, so that it never meets 7.
unfoldable pub import_reply : ℕ → List ℕ → Reply
import_reply m list = replied empty_roster (imported m list)

-- The refusal, or the machine of the roster.
unfoldable pub found_in : Outcome → Result Machine Refusal
found_in (refused refusal) = Err refusal
found_in (accepted model) = Ok (roster_of model).machine

-- The slack calls (02, 2026-01): frame 83 of the plan of a roster, written on a page; and the slack with a job that is not held yet, as numbers.
use Rattle.std.specs.Prelude.{ℕ, ℤ, ◌-◌, List, ◌++◌, Result, Ok, Err, pos, replicate}
use Rattle.gmf.specs.declared.Machine.{Machine}
use Rattle.gmf.specs.declared.Job.{Job}
use Rattle.gmf.specs.Growing.{Growth, Grown, NoPlan, plan_of}
use Rattle.hexadecimal.specs.Text.{line_of}
use Rattle.slack_writer.specs.Frames.{slack_bytes}
use Rattle.slack.specs.Slack.{ticks_of, remainders_of, all_at_top}
use Rattle.planner.specs.declared.Roster.{Roster}
use Rattle.planner.specs.Model.{Model, Closed, Opened, Outcome, refused, accepted}
use Rattle.planner.specs.Offers.{offer, offer_on}
use Rattle.refusals.specs.declared.Refusal.{Refusal}
use Rattle.refusals.specs.declared.Refusal.TheVariants as refusal
use Rattle.filing.specs.Plans.{Filed, unwritten, put_on, reply_on}
use Rattle.slack_calls.specs.declared.Slacks.{Slacks}

-- ---- Frame 83 on a page

-- "… 83: for each of growing's tests 1 to m in order, under the plan that 05 writes, the ticks (8 bytes, two's complement) and the remainder (1)."
unfoldable pub slack_line : Machine → List Job → List ℕ → List ℕ
slack_line M jobs plan = line_of (slack_bytes (ticks_of M jobs plan) (remainders_of M jobs plan))

-- On the page as frame 81 is. Jobs that no plan passes are in no model that calls have made.
unfoldable pub slack_as : Machine → List Job → Growth → List ℕ → ℕ → Filed
slack_as M jobs (Grown plan raises) page place = put_on page place (slack_line M jobs plan)
slack_as M jobs NoPlan page place = unwritten refusal.NoPlan page

-- Under the plan that the machine gives the jobs.
unfoldable pub slack_filed_on : Machine → List Job → List ℕ → ℕ → Filed
slack_filed_on M jobs page place = slack_as M jobs (plan_of M jobs) page place

-- "Frame 07, refused as 05 … and the book stays at it." So 11, then 6. (5 is a line's.)
unfoldable pub slack_filed : Model → List ℕ → ℕ → Filed
slack_filed Closed page place = unwritten refusal.NoMachine page
slack_filed (Opened M table jobs) page place = slack_filed_on M jobs page place

-- What the call on a roster replies.
unfoldable pub slack_reply : Roster → List ℕ → ℕ → Filed
slack_reply = reply_on slack_filed

-- ---- With a job not yet held, as numbers

-- The slack of tests 1 to m under a plan, with zeros after it to 32.
unfoldable pub slack_under : Machine → List Job → List ℕ → Slacks
slack_under M jobs plan =
    record {
      ticks = ticks_of M jobs plan ++ replicate (32 - M.processors) (pos 0);
      remainders = remainders_of M jobs plan ++ replicate (32 - M.processors) 0;
    }

-- The ticks and the remainders that an answer gives; a refusal gives zeros.
abbrev pub ticks_in : Result Slacks Refusal → List ℤ
ticks_in (Ok slacks) = slacks.ticks
ticks_in (Err refusal) = replicate 32 (pos 0)

abbrev pub remainders_in : Result Slacks Refusal → List ℕ
remainders_in (Ok slacks) = slacks.remainders
remainders_in (Err refusal) = replicate 32 0

-- "… gives the same as numbers, writing no page, with the job added and every core at top speed …". No job is added where no machine is open.
unfoldable pub slack_on : Outcome → Result Slacks Refusal
slack_on (refused refusal) = Err refusal
slack_on (accepted Closed) = Err refusal.NoMachine
slack_on (accepted (Opened M table jobs)) = Ok (slack_under M jobs (all_at_top M))

-- "For a job not yet held, a library call refused as 03 is, but never by 17 …": on the model, which stays, …
unfoldable pub slack_with : Model → ℕ → ℕ → ℕ → ℕ → Result Slacks Refusal
slack_with model id cost period deadline = slack_on (offer model id cost period deadline)

-- … and on a roster.
unfoldable pub slack_to : Roster → ℕ → ℕ → ℕ → ℕ → Result Slacks Refusal
slack_to r id cost period deadline = slack_on (offer_on r id cost period deadline)

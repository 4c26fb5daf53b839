-- The roster: what it carries of the model, when it is well formed, and what a call on it replies.
use Rattle.std.specs.Prelude.{ℕ, ◌≡◌, List, Bool, true, false, not, ◌&&◌, ◌||◌, Result, Ok, Err, eqb, length, take, replicate}
use Rattle.gmf.specs.declared.Job.{Job}
use Rattle.gmf.specs.Machine.{machine}
use Rattle.places.specs.Places.{no_job, places_of, has, before}
use Rattle.power_tables.specs.Entries.{entries_of}
use Rattle.workload.specs.declared.Totals.{Totals}
use Rattle.workload.specs.declared.Share.{Share}
use Rattle.workload.specs.Load.{totals}
use Rattle.planner.specs.declared.Roster.{Roster}
use Rattle.planner.specs.declared.Condition.{Condition}
use Rattle.planner.specs.declared.Condition.TheVariants as condition
use Rattle.refusals.specs.declared.Refusal.{Refusal}
use Rattle.refusals.specs.declared.Refusal.TheVariants.{Damaged, NoMachine}
use Rattle.planner.specs.declared.Reply.{Reply}
use Rattle.roster_shape.specs.Shape as shape
use Rattle.planner.specs.Tests.{cycle_too_long, no_plan}
use Rattle.planner.specs.Model.{Model, Closed, Opened, Call, Outcome, refused, accepted, step}

-- "A list starts from the roster of all zeros."
unfoldable pub empty_roster : Roster
empty_roster = record { machine = machine 0 0 0 0; table = replicate 32 0; held = 0; jobs = replicate 64 no_job }

-- "It carries the machine, or none, the table's L values in force (zeros after them), and the jobs." A machine has at least one
-- processor.
unfoldable pub model_of : Roster → Model
model_of r =
    elim (eqb r.machine.processors 0) [
      | true ↦ Closed
      | false ↦ Opened r.machine (take r.machine.levels r.table) (take r.held r.jobs)
    ]

-- "The roster carries exactly the book's machine, table and jobs."
unfoldable pub roster_of : Model → Roster
roster_of Closed = empty_roster
roster_of (Opened M table jobs) = record { machine = M; table = entries_of table; held = length jobs; jobs = places_of jobs }

-- Refusal 7: "A roster handed in that breaks a rule of this paper …": the rules for the machine, the table and the places.
abbrev pub in_shape : Roster → Bool
in_shape r = shape.in_shape r.machine r.table r.held r.jobs

-- "… the cycle, or no plan that passes."
unfoldable pub sound : Roster → Bool
sound r = in_shape r && not (cycle_too_long (take r.held r.jobs)) && not (no_plan r.machine (take r.held r.jobs))

-- "With no machine it is all zeros and holds no job …".
abbrev pub all_zero : Roster → Bool
all_zero r = shape.all_zero r.machine r.table r.held r.jobs

-- A roster breaks no rule where it is empty or sound.
unfoldable pub well_formed : Roster → Bool
well_formed r = all_zero r || sound r

-- What is told of a roster: refused by 7, no machine, or a machine and the totals of its jobs.
unfoldable pub condition_of : Model → Condition
condition_of Closed = condition.Closed
condition_of (Opened M table jobs) = condition.Open (totals jobs)

-- 7 "is looked at before everything else" here as well.
unfoldable pub inspected : Roster → Condition
inspected r = elim (well_formed r) [ true ↦ condition_of (model_of r) | false ↦ condition.Damaged ]

-- What a call that needs a machine finds: "11. A frame 02 to 05 with no machine open", after 7; or the totals of the jobs.
unfoldable pub totals_found : Condition → Result Totals Refusal
totals_found condition.Damaged = Err Damaged
totals_found condition.Closed = Err NoMachine
totals_found (condition.Open t) = Ok t

-- What is planned for on such a roster, which has 32 entries and 64 places: its machine and the jobs held, with their totals.
pub record IsShareOf (r : Roster) (share : Share) : Type 0 where
  pub entries : length r.table ≡ 32
  pub places : length r.jobs ≡ 64
  pub totals : Ok share.totals ≡ totals_found (inspected r)
  pub machine : share.machine ≡ r.machine
  pub jobs : share.jobs.now ≡ take r.held r.jobs

-- Where the job with an id stands among jobs by rising id, or else where it would.
unfoldable pub found : ℕ → List Job → Result ℕ ℕ
found id jobs = elim (has id jobs) [ true ↦ Ok (before id jobs) | false ↦ Err (before id jobs) ]

-- "Each is returned as its number alone. Roster, table and every lent byte keep their values."
unfoldable pub replied : Roster → Outcome → Reply
replied r (refused refusal) = record { answer = Err refusal; roster = r }
replied r (accepted model) = record { answer = Ok (tt {0}); roster = roster_of model }

-- What a call on a roster replies, and the next roster. 7 "is looked at before everything else".
unfoldable pub reply_to : Roster → Call → Reply
reply_to r call = elim (well_formed r) [ true ↦ replied r (step (model_of r) call) | false ↦ replied r (refused Damaged) ]

-- The book of 01, "The list of calls and its book", as a model that calls act on.
use Rattle.std.specs.Prelude.{ℕ, Bool, true, false, not, List, [], leb, length}
use Rattle.gmf.specs.declared.Machine.{Machine}
use Rattle.gmf.specs.declared.Job.{Job}
use Rattle.gmf.specs.Power.{default_table}
use Rattle.gmf.specs.Machine.{machine}
use Rattle.gmf.specs.Jobs.{job_due}
use Rattle.ranges.specs.Ranges.{one_to, job_fits}
use Rattle.places.specs.Places.{has, insert, remove}
use Rattle.refusals.specs.declared.Refusal.{Refusal}
use Rattle.refusals.specs.declared.Refusal.TheVariants.{
  Processors,
  Speeds,
  PowerTable,
  JobNumbers,
  NoMachine,
  MachineOpen,
  IdHeld,
  IdNotHeld,
  PlacesFull,
  HyperperiodTooLong,
  NoPlan,
}
use Rattle.power_tables.specs.Tables.{is_table}
use Rattle.ranges.specs.Ranges.{speeds_fit}
use Rattle.planner.specs.Tests.{cycle_too_long, no_plan}

-- "It has a machine or none, a table and jobs by rising id. It begins with none of them."
pub data Model : Type 0 where
  Closed : Model
  Opened : Machine → List ℕ → List Job → Model

-- The calls with their arguments: m, L, b and d; the values; id, C, T and D; id.
pub data Call : Type 0 where
  OpenMachine : ℕ → ℕ → ℕ → ℕ → Call
  ReplaceTable : List ℕ → Call
  Admit : ℕ → ℕ → ℕ → ℕ → Call
  Retire : ℕ → Call

-- "A call is refused … the book and the page stay. Otherwise:" the next model.
pub data Outcome : Type 0 where
  refused : Refusal → Outcome
  accepted : Model → Outcome

-- "A call is refused by the first condition that holds in the orders below …": one under the other.
unfoldable pub refuse_if : Bool → Refusal → Outcome → Outcome
refuse_if true refusal rest = refused refusal
refuse_if false refusal rest = rest

-- "12. A machine frame when one is open."
unfoldable pub is_opened : Model → Bool
is_opened Closed = false
is_opened (Opened M table jobs) = true

-- "11. A frame 02 to 05 with no machine open", and a 06 as a 03. Otherwise what comes of the machine, its table and the jobs.
unfoldable pub on_machine : Model → (Machine → List ℕ → List Job → Outcome) → Outcome
on_machine Closed rest = refused NoMachine
on_machine (Opened M table jobs) rest = rest M table jobs

-- "Machine: the book has that machine, and as table the house table at its speeds."
unfoldable pub opened : Machine → Model
opened M = Opened M (default_table M) []

-- The conditions 16 and 17, on the jobs with the new one.
unfoldable pub weighed : Machine → List ℕ → List Job → Outcome
weighed M table jobs =
    refuse_if (cycle_too_long jobs) HyperperiodTooLong
    (refuse_if (no_plan M jobs) NoPlan
    (accepted (Opened M table jobs)))

-- "Admit: the job goes in by its id." The conditions 13 and 15 come before 16 and 17.
unfoldable pub admitted : Job → Machine → List ℕ → List Job → Outcome
admitted new M table jobs =
    refuse_if (has new.id jobs) IdHeld
    (refuse_if (leb 64 (length jobs)) PlacesFull
    (weighed M table (insert new jobs)))

-- "Retire: the job with that id goes out."
unfoldable pub retired : ℕ → Machine → List ℕ → List Job → Outcome
retired id M table jobs =
    refuse_if (not (has id jobs)) IdNotHeld
    (accepted (Opened M table (remove id jobs)))

-- What a call does. "Order: 01: 5, 12, 1, 2. 02: 5, 11, 3. 03: 5, 11, 4, 13, 15, 16, 17. 04: 5, 11, 4, 14." (5 is a line's.) Of frame 06, which
-- has a deadline of its own: "… its refusals come in 03's order." (02, 2026-04)
unfoldable pub step : Model → Call → Outcome
step model (OpenMachine m L b d) =
    refuse_if (is_opened model) MachineOpen
    (refuse_if (not (one_to 32 m)) Processors
    (refuse_if (not (speeds_fit L b d)) Speeds
    (accepted (opened (machine m L b d)))))
step model (ReplaceTable values) =
    on_machine model (λ M table jobs. refuse_if (not (is_table M values)) PowerTable (accepted (Opened M values jobs)))
step model (Admit id cost period deadline) =
    on_machine model (λ M table jobs. refuse_if (not (job_fits id cost period deadline)) JobNumbers (admitted (job_due id cost period deadline) M table jobs))
step model (Retire id) =
    on_machine model (λ M table jobs. refuse_if (not (one_to 65535 id)) JobNumbers (retired id M table jobs))

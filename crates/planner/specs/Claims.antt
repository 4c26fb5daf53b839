-- What is proved of the roster and its calls: `Planner` is all of it. Its proof is proofs/Results.antt.
use Rattle.std.specs.Prelude.{ℕ, ◌+◌, ◌-◌, ◌≤◌, ◌<◌, ◌≡◌, ◌↔◌, ◌⊎◌, true, false, List, [], ◌∷◌, map, length, take, drop, replicate}
use Rattle.gmf.specs.declared.Machine.{Machine}
use Rattle.gmf.specs.declared.Job.{Job}
use Rattle.gmf.specs.Machine.{InRange, machine}
use Rattle.gmf.specs.Jobs.{JobInRange, ByRisingId, Every, hyperperiod, hyperperiod_limit, works, job, job_due}
use Rattle.gmf.specs.Power.{IsTable}
use Rattle.gmf.specs.Trials.{jobs_from}
use Rattle.gmf.specs.Claims.{Feasible, NonePasses}
use Rattle.places.specs.Places.{no_job, places_of, has, insert}
use Rattle.workload.specs.declared.Totals.{Totals}
use Rattle.workload.specs.Load.{totals}
use Rattle.power_tables.specs.Entries.{entries_of}
use Rattle.planner.specs.declared.Roster.{Roster}
use Rattle.planner.specs.declared.Condition.TheVariants as condition
use Rattle.refusals.specs.declared.Refusal.TheVariants.{NoPlan}
use Rattle.refusals.specs.Numbers.{number_of}
use Rattle.planner.specs.Tests.{cycle_too_long, no_plan}
use Rattle.planner.specs.Model.{Model, Closed, Opened, Call, OpenMachine, ReplaceTable, Admit, Retire, Outcome, refused, accepted, refuse_if, step}
use Rattle.planner.specs.Roster.{empty_roster, model_of, roster_of, well_formed, inspected, reply_to}
use Rattle.planner.specs.Offers.{offer, offer_on}
use Rattle.planner.specs.Calls.{outcome_number, after, model_numbers, model_after, roster_after}

-- ---- The tests say what 01 says

pub record TestRule : Type 0 where
  -- 16: the hyperperiod is above its limit.
  pub limits : (jobs : List Job) → (cycle_too_long jobs ≡ true) ↔ (hyperperiod_limit < hyperperiod jobs)
  -- 17: no plan passes.
  pub plans : (M : Machine) → InRange M → (jobs : List Job) → (no_plan M jobs ≡ true) ↔ NonePasses M (hyperperiod jobs) (works jobs)

-- ---- Well-formed rosters

-- The rules of 01 for a machine, its table and its jobs.
pub record Rules (M : Machine) (table : List ℕ) (jobs : List Job) : Type 0 where
  pub machine_range : InRange M
  pub table_rules : IsTable M table
  pub job_ranges : Every JobInRange jobs
  pub by_id : ByRisingId jobs
  pub within_limit : hyperperiod jobs ≤ hyperperiod_limit
  pub some_plan : Feasible M jobs

-- What a roster with a machine is: the jobs fill the first places, at most 64 of them, and what is not used is 0.
pub record IsSound (r : Roster) : Type 0 where
  pub places : r.held ≤ 64
  pub rules : Rules r.machine (take r.machine.levels r.table) (take r.held r.jobs)
  pub unused_entries : drop r.machine.levels r.table ≡ replicate (32 - r.machine.levels) 0
  pub unused_places : drop r.held r.jobs ≡ replicate (64 - r.held) no_job

-- Every roster has 32 entries and 64 places. It is well formed exactly when it is empty or such; and it is then the roster of its model.
pub record FormRule (r : Roster) : Type 0 where
  pub form : (well_formed r ≡ true) ↔ ((r ≡ empty_roster) ⊎ IsSound r)
  pub carries : well_formed r ≡ true → roster_of (model_of r) ≡ r

abbrev pub Forms : Type 0
Forms = (r : Roster) → length r.table ≡ 32 → length r.jobs ≡ 64 → FormRule r

-- What `inspect` tells of a roster.
pub record InspectRule (r : Roster) : Type 0 where
  pub damaged : inspected r ≡ condition.Damaged → well_formed r ≡ false
  pub closed : inspected r ≡ condition.Closed → (well_formed r ≡ true) × (model_of r ≡ Closed)
  pub open_form : (t : Totals) → inspected r ≡ condition.Open t → well_formed r ≡ true
  pub open_model : (t : Totals) → inspected r ≡ condition.Open t
      → model_of r ≡ Opened r.machine (take r.machine.levels r.table) (take r.held r.jobs)
  pub open_sound : (t : Totals) → inspected r ≡ condition.Open t → IsSound r
  pub open_totals : (t : Totals) → inspected r ≡ condition.Open t → t ≡ totals (take r.held r.jobs)

abbrev pub Inspects : Type 0
Inspects = (r : Roster) → length r.table ≡ 32 → length r.jobs ≡ 64 → InspectRule r

-- ---- One call

-- What every model made by calls keeps.
abbrev pub Kept : Model → Type 0
Kept Closed = Unit {0}
Kept (Opened M table jobs) = Rules M table jobs × (length jobs ≤ 64)

-- A call on the roster of such a model: the answer's number and the next roster are the model's, and the next model is such again.
pub record CallRule (model : Model) : Type 0 where
  pub well_formed_law : well_formed (roster_of model) ≡ true
  pub carried : model_of (roster_of model) ≡ model
  pub number : (call : Call) → number_of (reply_to (roster_of model) call).answer ≡ outcome_number (step model call)
  pub roster : (call : Call) → (reply_to (roster_of model) call).roster ≡ roster_of (after model (step model call))
  pub kept : (call : Call) → Kept (after model (step model call))
  -- "… a roster made by these calls never meets it" (7), whatever is called.
  pub never_7 : (call : Call) → outcome_number (step model call) ≡ 7 → ⊥

abbrev pub OneCall : Type 0
OneCall = (model : Model) → Kept model → CallRule model

-- ---- Any roster

-- One that is well formed carries a model as calls make it. Any other comes back from every call as it was.
pub record AnyRoster : Type 0 where
  pub formed : (r : Roster) → length r.table ≡ 32 → length r.jobs ≡ 64 → well_formed r ≡ true → Kept (model_of r)
  pub damaged : (r : Roster) → well_formed r ≡ false → (call : Call) → (reply_to r call).roster ≡ r

-- ---- A job offered

-- A job that is offered to a roster with these jobs: in range, under a new id, with a place free and the hyperperiod within its limit.
pub record Offered (jobs : List Job) (new : Job) : Type 0 where
  pub in_range_law : JobInRange new
  pub new_id : has new.id jobs ≡ false
  pub place_free : length jobs < 64
  pub within_limit : hyperperiod (insert new jobs) ≤ hyperperiod_limit

-- The number of the answer to it.
abbrev pub answer_to : Roster → Job → ℕ
answer_to roster new = number_of (reply_to roster (Admit new.id new.cost new.period new.deadline)).answer

-- Demand 3: by the number of its answer it "is turned down exactly when no plan passes with it added"; then by 17, and otherwise it is accepted.
pub record TurnedDown (number : ℕ) (M : Machine) (jobs : List Job) (new : Job) : Type 0 where
  pub turned_down : (number ≡ 0 → ⊥) ↔ NonePasses M (hyperperiod (insert new jobs)) (works (insert new jobs))
  pub by_17 : (number ≡ 17) ↔ NonePasses M (hyperperiod (insert new jobs)) (works (insert new jobs))
  pub or_accepted : (number ≡ 0) ↔ Feasible M (insert new jobs)

abbrev pub TurnsDown : Type 0
TurnsDown = (M : Machine) (table : List ℕ) (jobs : List Job) → Kept (Opened M table jobs)
    → (new : Job) → Offered jobs new → TurnedDown (answer_to (roster_of (Opened M table jobs)) new) M jobs new

-- ---- A job offered without being admitted

-- By an admission an offer is refused by 17 where no plan passes.
unfoldable pub admitted_of : Outcome → Outcome
admitted_of (refused refusal) = refused refusal
admitted_of (accepted Closed) = accepted Closed
admitted_of (accepted (Opened M table jobs)) = refuse_if (no_plan M jobs) NoPlan (accepted (Opened M table jobs))

-- The jobs of a roster with one more.
pub record WithOneMore (r : Roster) (jobs : List Job) : Type 0 where
  pub machine_range : InRange r.machine
  pub size : length jobs ≡ r.held + 1
  pub few : length jobs ≤ 64
  pub job_ranges : Every JobInRange jobs
  pub by_id : ByRisingId jobs
  pub within_limit : hyperperiod jobs ≤ hyperperiod_limit

pub record OfferRule (id cost period deadline : ℕ) : Type 0 where
  -- "… refused as 03 is, but never by 17 …": what an admission comes to is what the offer does, and 17.
  pub as_admitted : (model : Model) → step model (Admit id cost period deadline) ≡ admitted_of (offer model id cost period deadline)
  pub never_17 : (model : Model) → outcome_number (offer model id cost period deadline) ≡ 17 → ⊥
  -- On the roster of a model that calls can make it is as on the model, and never refused by 7.
  pub follows : (model : Model) → Kept model → offer_on (roster_of model) id cost period deadline ≡ offer model id cost period deadline
  pub never_7 : (model : Model) → Kept model → outcome_number (offer model id cost period deadline) ≡ 7 → ⊥
  -- An accepted offer has the job added, and no other change.
  pub adds : (M : Machine) (table : List ℕ) (jobs : List Job) (next : Model) → offer (Opened M table jobs) id cost period deadline ≡ accepted next
      → next ≡ Opened M table (insert (job_due id cost period deadline) jobs)
  -- On a roster it is the roster's machine with the jobs and one more.
  pub one_more : (r : Roster) → length r.table ≡ 32 → length r.jobs ≡ 64
      → (M : Machine) (table : List ℕ) (jobs : List Job) → offer_on r id cost period deadline ≡ accepted (Opened M table jobs)
      → (M ≡ r.machine) × WithOneMore r jobs
  pub some_machine : (r : Roster) → offer_on r id cost period deadline ≡ accepted Closed → ⊥

abbrev pub Offers : Type 0
Offers = (id cost period deadline : ℕ) → OfferRule id cost period deadline

-- ---- Known results

-- A roster by its machine, the first numbers of its table, its count and its first places.
unfoldable pub roster_with : Machine → List ℕ → ℕ → List Job → Roster
roster_with M numbers held jobs = record { machine = M; table = entries_of numbers; held = held; jobs = places_of jobs }

pub record CallTrials : Type 0 where
  -- 01's sheet up to its plan: the job 11/10 is refused by 17.
  pub sheet : model_numbers Closed (
      OpenMachine 4 4 1 1
      ∷ Admit 1 10 10 10
      ∷ Admit 2 9 10 10
      ∷ Admit 3 6 10 10
      ∷ Admit 4 5 10 10
      ∷ Admit 5 1 10 10
      ∷ Admit 6 11 10 10
      ∷ []
      ) ≡ 0 ∷ 0 ∷ 0 ∷ 0 ∷ 0 ∷ 0 ∷ 17 ∷ []
  -- With no machine, each with a second reason to be refused: 11 comes first, and 1 before 2.
  pub none_open : model_numbers Closed (ReplaceTable [] ∷ Admit 0 0 0 0 ∷ Retire 0 ∷ OpenMachine 0 0 0 0 ∷ OpenMachine 1 2 2 255 ∷ [])
      ≡ 11 ∷ 11 ∷ 11 ∷ 1 ∷ 2 ∷ []
  -- With one: 12 before 1; 4 before 13 and 14; 13 before 16 and 17; 16 before 17.
  pub one_open : model_numbers Closed (
      OpenMachine 1 3 1 1
      ∷ OpenMachine 0 3 1 1
      ∷ Admit 1 1 4096 4096
      ∷ Admit 1 0 4096 4096
      ∷ Admit 1 9000 4097 4097
      ∷ Admit 2 9000 4097 4097
      ∷ Admit 2 4097 4096 4096
      ∷ Retire 0
      ∷ Retire 2
      ∷ Retire 1
      ∷ Admit 2 4097 4097 4097
      ∷ []
      ) ≡ 0 ∷ 12 ∷ 0 ∷ 4 ∷ 13 ∷ 16 ∷ 17 ∷ 4 ∷ 14 ∷ 0 ∷ 0 ∷ []
  -- "Tables for three levels: 18 48 100 and 5 5 5 accepted; 0 5 9 refused 3." A refused one leaves the table.
  pub tables : model_numbers Closed (
      OpenMachine 1 3 1 1 ∷ ReplaceTable (18 ∷ 48 ∷ 100 ∷ []) ∷ ReplaceTable (5 ∷ 5 ∷ 5 ∷ []) ∷ ReplaceTable (0 ∷ 5 ∷ 9 ∷ []) ∷ []
      ) ≡ 0 ∷ 0 ∷ 0 ∷ 3 ∷ []
  pub table_left : model_after Closed (OpenMachine 1 3 1 1 ∷ ReplaceTable (18 ∷ 48 ∷ 100 ∷ []) ∷ ReplaceTable (0 ∷ 5 ∷ 9 ∷ []) ∷ [])
      ≡ Opened (machine 1 3 1 1) (18 ∷ 48 ∷ 100 ∷ []) []
  -- A new machine has the cubes of its speeds, here 2, 5 and 8.
  pub default_table_law : model_after Closed (OpenMachine 1 3 2 3 ∷ []) ≡ Opened (machine 1 3 2 3) (8 ∷ 125 ∷ 512 ∷ []) []
  -- 64 jobs are held: 13 before 15, and 15 before 16 and 17; and 14.
  pub all_held : map (λ call. outcome_number (step (Opened (machine 1 1 1 1) (1 ∷ []) (jobs_from 1 (replicate 64 (1, 4096)))) call)) (
      Admit 64 9000 4097 4097 ∷ Admit 65 9000 4097 4097 ∷ Retire 65 ∷ Retire 64 ∷ []
      ) ≡ 13 ∷ 15 ∷ 14 ∷ 0 ∷ []
  -- What the calls leave on a roster, refused ones among them.
  pub left : roster_after empty_roster (OpenMachine 1 3 1 1 ∷ Admit 7 1 2 2 ∷ Retire 8 ∷ ReplaceTable (0 ∷ 5 ∷ 9 ∷ []) ∷ [])
      ≡ roster_with (machine 1 3 1 1) (1 ∷ 8 ∷ 27 ∷ []) 1 (job 7 1 2 ∷ [])
  -- 7 comes before 12, 3, 4 and 14, and the damaged roster comes back as it was.
  pub damaged : map (λ call. number_of (reply_to (roster_with (machine 1 1 1 1) (1 ∷ []) 1 []) call).answer) (
      OpenMachine 0 0 0 0 ∷ ReplaceTable [] ∷ Admit 0 0 0 0 ∷ Retire 9 ∷ []
      ) ≡ 7 ∷ 7 ∷ 7 ∷ 7 ∷ []
  pub damaged_left : (reply_to (roster_with (machine 1 1 1 1) (1 ∷ []) 1 []) (Retire 9)).roster ≡ roster_with (machine 1 1 1 1) (1 ∷ []) 1 []

-- The model with the first k jobs of 01's sheet.
abbrev pub example_model : ℕ → Model
example_model k =
    Opened (machine 4 4 1 1) (1 ∷ 8 ∷ 27 ∷ 64 ∷ []) (take k (job 1 10 10 ∷ job 2 9 10 ∷ job 3 6 10 ∷ job 4 5 10 ∷ job 5 1 10 ∷ []))

-- The number that a call gets on a model, and the next model.
abbrev pub Does : Model → Call → ℕ → Model → Type 0
Does model call number next = (outcome_number (step model call) ≡ number) × (after model (step model call) ≡ next)

-- 01's sheet, call by call.
pub record ExampleCalls : Type 0 where
  pub opens : Does Closed (OpenMachine 4 4 1 1) 0 (example_model 0)
  pub admits_1 : Does (example_model 0) (Admit 1 10 10 10) 0 (example_model 1)
  pub admits_2 : Does (example_model 1) (Admit 2 9 10 10) 0 (example_model 2)
  pub admits_3 : Does (example_model 2) (Admit 3 6 10 10) 0 (example_model 3)
  pub admits_4 : Does (example_model 3) (Admit 4 5 10 10) 0 (example_model 4)
  pub admits_5 : Does (example_model 4) (Admit 5 1 10 10) 0 (example_model 5)
  pub refuses_6 : Does (example_model 5) (Admit 6 11 10 10) 17 (example_model 5)
  -- Offered without being admitted: the fifth job goes in, and the sixth is not refused by 17. 4 before 13; 13 before 17; 16 before 17; 11.
  pub offers_5 : offer (example_model 4) 5 1 10 10 ≡ accepted (example_model 5)
  pub offers : outcome_number (offer (example_model 5) 6 11 10 10)
      ∷ outcome_number (offer (example_model 5) 1 0 10 10)
      ∷ outcome_number (offer (example_model 5) 1 11 10 10)
      ∷ outcome_number (offer (Opened (machine 1 1 1 1) (1 ∷ []) (job 1 1 4096 ∷ [])) 2 9000 4097 4097)
      ∷ outcome_number (offer Closed 0 0 0 0)
      ∷ []
      ≡ 0 ∷ 4 ∷ 13 ∷ 16 ∷ 11 ∷ []

-- Deadlines before the period's end (02, 2026-04).
pub record DeadlineCalls : Type 0 where
  -- A job of cost 2 and period 4 on one processor in quarters: "D from 1 to T, else 4". With D = 2 it takes the top speed, and with D = 1 no plan
  -- passes.
  pub range : map (λ D. outcome_number (step (Opened (machine 1 4 1 1) (1 ∷ 8 ∷ 27 ∷ 64 ∷ []) []) (Admit 1 2 4 D))) (0 ∷ 1 ∷ 2 ∷ 4 ∷ 5 ∷ [])
      ≡ 4 ∷ 17 ∷ 0 ∷ 0 ∷ 4 ∷ []
  -- The roster has the deadline that the call gave; with D = T the job is that of a frame 03.
  pub left : roster_after empty_roster (OpenMachine 1 3 1 1 ∷ Admit 7 1 4 2 ∷ Admit 8 1 4 4 ∷ [])
      ≡ roster_with (machine 1 3 1 1) (1 ∷ 8 ∷ 27 ∷ []) 2 (job_due 7 1 4 2 ∷ job 8 1 4 ∷ [])
  -- "… its refusals come in 03's order": 4 before 13, 13 before 16 and 17, 16 before 17; C above D is 17 and not 4.
  pub order : model_numbers Closed (
      OpenMachine 1 1 1 1
      ∷ Admit 1 1 8192 4096
      ∷ Admit 1 1 8192 0
      ∷ Admit 1 9000 9000 4097
      ∷ Admit 2 9000 9000 4097
      ∷ Admit 2 4097 9000 4096
      ∷ []
      ) ≡ 0 ∷ 0 ∷ 4 ∷ 13 ∷ 16 ∷ 17 ∷ []
  -- Offered without being admitted: as these, but never 17.
  pub offers : map (λ D. outcome_number (offer (Opened (machine 1 1 1 1) (1 ∷ []) (job 1 1 4096 ∷ [])) 2 9000 9000 D)) (0 ∷ 4097 ∷ 4096 ∷ 9001 ∷ [])
      ≡ 4 ∷ 16 ∷ 0 ∷ 4 ∷ []

-- Rosters that keep every rule, and rosters that break one.
pub record FormTrials : Type 0 where
  pub kept : map well_formed (empty_roster ∷ roster_with (machine 1 3 1 1) (1 ∷ 8 ∷ 27 ∷ []) 1 (job 7 1 2 ∷ []) ∷ []) ≡ true ∷ true ∷ []
  -- With no machine: a step, a count, a number, a job.
  pub not_empty : map well_formed (
      roster_with (machine 0 0 0 1) [] 0 []
      ∷ roster_with (machine 0 0 0 0) [] 1 []
      ∷ roster_with (machine 0 0 0 0) (1 ∷ []) 0 []
      ∷ roster_with (machine 0 0 0 0) [] 0 (job 7 1 2 ∷ [])
      ∷ []
      ) ≡ false ∷ false ∷ false ∷ false ∷ []
  -- A range of the machine, the table's rules, a number after the table.
  pub not_a_machine : map well_formed (
      roster_with (machine 33 3 1 1) (1 ∷ 8 ∷ 27 ∷ []) 0 []
      ∷ roster_with (machine 1 3 1 0) (1 ∷ 8 ∷ 27 ∷ []) 0 []
      ∷ roster_with (machine 1 3 1 1) (0 ∷ 5 ∷ 9 ∷ []) 0 []
      ∷ roster_with (machine 1 3 1 1) (1 ∷ 8 ∷ 27 ∷ 64 ∷ []) 0 []
      ∷ []
      ) ≡ false ∷ false ∷ false ∷ false ∷ []
  -- A deadline before the period's end, which keeps every rule; none; one past the period; one in an unused place.
  pub not_due : map well_formed (
      roster_with (machine 1 1 1 1) (1 ∷ []) 1 (job_due 7 1 2 1 ∷ [])
      ∷ roster_with (machine 1 1 1 1) (1 ∷ []) 1 (job_due 7 1 2 0 ∷ [])
      ∷ roster_with (machine 1 1 1 1) (1 ∷ []) 1 (job_due 7 1 2 3 ∷ [])
      ∷ roster_with (machine 1 1 1 1) (1 ∷ []) 0 (job_due 0 0 0 1 ∷ [])
      ∷ []
      ) ≡ true ∷ false ∷ false ∷ false ∷ []
  -- A range of a job, an id twice, falling ids, a hole, a job in an unused place, a count above 64.
  pub not_places : map well_formed (
      roster_with (machine 1 1 1 1) (1 ∷ []) 1 (job 7 0 2 ∷ [])
      ∷ roster_with (machine 1 1 1 1) (1 ∷ []) 2 (job 7 1 2 ∷ job 7 1 2 ∷ [])
      ∷ roster_with (machine 1 1 1 1) (1 ∷ []) 2 (job 7 1 2 ∷ job 6 1 2 ∷ [])
      ∷ roster_with (machine 1 1 1 1) (1 ∷ []) 2 (job 0 0 0 ∷ job 7 1 2 ∷ [])
      ∷ roster_with (machine 1 1 1 1) (1 ∷ []) 1 (job 7 1 2 ∷ job 8 1 2 ∷ [])
      ∷ roster_with (machine 1 1 1 1) (1 ∷ []) 65 (jobs_from 1 (replicate 64 (1, 64)))
      ∷ []
      ) ≡ false ∷ false ∷ false ∷ false ∷ false ∷ false ∷ []
  -- The cycle; no plan that passes.
  pub not_planned : map well_formed (
      roster_with (machine 1 1 1 1) (1 ∷ []) 2 (job 1 1 4096 ∷ job 2 1 4097 ∷ [])
      ∷ roster_with (machine 1 1 1 1) (1 ∷ []) 1 (job 7 3 2 ∷ [])
      ∷ roster_with (machine 1 1 1 1) (1 ∷ []) 1 (job_due 7 2 2 1 ∷ [])
      ∷ []
      ) ≡ false ∷ false ∷ false ∷ []

-- ---- All of it

pub record Planner : Type 0 where
  pub tests : TestRule
  -- "With no machine it is all zeros …"
  pub begins : roster_of Closed ≡ empty_roster
  pub forms : Forms
  pub inspects : Inspects
  pub one_call : OneCall
  pub any_roster : AnyRoster
  pub turns_down : TurnsDown
  pub offers : Offers
  pub call_trials : CallTrials
  pub example_calls : ExampleCalls
  pub deadline_calls : DeadlineCalls
  pub form_trials : FormTrials

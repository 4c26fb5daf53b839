-- What a call does to a model that keeps the rules: it keeps them, and no call is refused by 7.
use Prim.Native.Nat.{ℕ, ◌≤◌, ◌<◌}
use native.Mathlib.Nat.{le_trans}
use native.Mathlib.Omega.{arith}
use mathlib.Core.Path.{◌≡◌, refl, subst}
use mathlib.Core.Bool.{Bool, true, false}
use mathlib.Core.List.{List, [], ◌∷◌, ◌++◌}
use borrow.Author.Tests.{leb-false, not-false}
use lib.Dec.{eqb}
use lib.ListN.{length}
use Rattle.gmf.specs.declared.Machine.{Machine}
use Rattle.gmf.specs.declared.Job.{Job}
use Rattle.gmf.specs.Machine.{InRange, speed, top, machine}
use Rattle.gmf.specs.Jobs.{JobInRange, Every, hyperperiod, works, job_due}
use Rattle.gmf.specs.Claims.{Feasible}
use Rattle.gmf.proofs.Hyperperiod.{in_range_positive}
use Rattle.gmf.proofs.Results.{method}
use Rattle.places.specs.Places.{has, insert, remove}
use Rattle.places.proofs.Results.{placing}
use Rattle.ranges.proofs.Results.{ranging}
use Rattle.refusals.specs.declared.Refusal.{Refusal}
use Rattle.power_tables.specs.Tables.{is_table}
use Rattle.planner.specs.Tests.{cycle_too_long, no_plan}
use Rattle.planner.specs.Model.{Model, Closed, Opened, Call, OpenMachine, ReplaceTable, Admit, Retire, Outcome, refused, accepted, refuse_if, on_machine, opened, weighed, admitted, retired, step}
use Rattle.refusals.specs.Numbers.{refusal_number}
use Rattle.planner.specs.Calls.{after}
use Rattle.planner.specs.Claims.{Rules, Kept}
use Rattle.power_tables.proofs.Results.{table_laws}
use Rattle.ranges.proofs.Rules.{machine_range}
use Rattle.planner.proofs.Passing.{not_long, plan_passes}
use Rattle.planner.proofs.Forms.{rules_listed}

-- An outcome that is no refusal by 7 and leaves the rules kept.
pub data Fair : Outcome → Type 0 where
  stays : {refusal : Refusal} → eqb (refusal_number refusal) 7 ≡ false → Fair (refused refusal)
  turns : {model : Model} → Kept model → Fair (accepted model)

pub fair_after : (model : Model) (o : Outcome) → Kept model → Fair o → Kept (after model o)
unfolding after
fair_after model (refused refusal) kept (stays n) = kept
fair_after model (accepted next) kept (turns kept') = kept'

guarded : (b : Bool) (refusal : Refusal) (o : Outcome) → eqb (refusal_number refusal) 7 ≡ false → (b ≡ false → Fair o) → Fair (refuse_if b refusal o)
unfolding refuse_if
guarded true refusal o n f = stays n
guarded false refusal o n f = f refl

on_machine_law : (model : Model) (rest : Machine → List ℕ → List Job → Outcome) → Kept model
    → ((M : Machine) (table : List ℕ) (jobs : List Job) → Rules M table jobs → length jobs ≤ 64 → Fair (rest M table jobs))
    → Fair (on_machine model rest)
unfolding on_machine refusal_number
on_machine_law Closed rest kept f = stays refl
on_machine_law (Opened M table jobs) rest kept f = f M table jobs kept.0 kept.1

-- ---- Each call

no_jobs_fit : (M : Machine) → InRange M → Feasible M []
unfolding works hyperperiod speed top
no_jobs_fit M r =
    (method.feasible_iff_fits M r.processors.0 r.levels.0 (omega (arith, r.lowest.0)) [] tt).1 record { each = tt; all = omega arith }

opens : (M : Machine) → InRange M → Kept (opened M)
unfolding opened hyperperiod
opens M r = (
  record {
    machine_range = r;
    table_rules = (method.default_table_law M r.top_speed).is_table_law;
    job_ranges = tt;
    by_id = tt;
    within_limit = omega arith;
    some_plan = no_jobs_fit M r;
  },
  omega arith,
)

module _ (M : Machine) (table : List ℕ) (jobs : List Job) (rules : Rules M table jobs) (few : length jobs ≤ 64) where
  replaces : (numbers : List ℕ) → is_table M numbers ≡ true → Kept (Opened M numbers jobs)
  replaces numbers e = (
    record {
      machine_range = rules.machine_range;
      table_rules = (table_laws.tests M numbers).0 e;
      job_ranges = rules.job_ranges;
      by_id = rules.by_id;
      within_limit = rules.within_limit;
      some_plan = rules.some_plan;
    },
    few,
  )

  admits : (new : Job) → JobInRange new → has new.id jobs ≡ false → length jobs < 64 → cycle_too_long (insert new jobs) ≡ false → no_plan M (insert new jobs) ≡ false
      → Kept (Opened M table (insert new jobs))
  admits new in_range_law fresh free short passing =
      let by = (placing.tests.jobs (insert new jobs)).0 ((placing.inserts new jobs).listed_again in_range_law (rules_listed M table jobs rules) fresh) in (
        record {
          machine_range = rules.machine_range;
          table_rules = rules.table_rules;
          job_ranges = by.0;
          by_id = by.1;
          within_limit = not_long (insert new jobs) short;
          some_plan = plan_passes M rules.machine_range (insert new jobs) passing;
        },
        omega (arith, (placing.inserts new jobs).size),
      )

  -- "Retiring a held job never meets 16 or 17": the rest has no longer cycle, and a plan that passed still passes.
  pub retires_fit : (id : ℕ) → has id jobs ≡ true → (hyperperiod (remove id jobs) ≤ hyperperiod jobs) × Feasible M (remove id jobs)
  retires_fit id there = go ((placing.removes id jobs).out there)
    where
      go : (lower : List Job) × (out : Job) × (higher : List Job) × (out.id ≡ id) × (jobs ≡ lower ++ out ∷ higher) × (remove id jobs ≡ lower ++ higher)
          → (hyperperiod (remove id jobs) ≤ hyperperiod jobs) × Feasible M (remove id jobs)
      go (lower, out, higher, same, before, rest) =
          let fewer = method.retires lower higher out (in_range_positive (lower ++ out ∷ higher) (subst (Every JobInRange) before rules.job_ranges)) in (
            rw (rest, before) fewer.shorter,
            rw rest (fewer.feasible M (subst (Feasible M) before rules.some_plan)),
          )

  retires : (id : ℕ) → has id jobs ≡ true → Kept (Opened M table (remove id jobs))
  retires id there =
      let by = (placing.tests.jobs (remove id jobs)).0 ((placing.removes id jobs).listed_again (rules_listed M table jobs rules)) in
      let fit = retires_fit id there in (
        record {
          machine_range = rules.machine_range;
          table_rules = rules.table_rules;
          job_ranges = by.0;
          by_id = by.1;
          within_limit = le_trans fit.0 rules.within_limit;
          some_plan = fit.1;
        },
        omega (arith, (placing.removes id jobs).size there),
      )

-- ---- Every call

pub fair_step : (model : Model) (call : Call) → Kept model → Fair (step model call)
unfolding step refusal_number admitted weighed retired
fair_step model (OpenMachine m L b d) kept =
    guarded _ _ _ refl (λ none.
    guarded _ _ _ refl (λ h.
    guarded _ _ _ refl (λ s. turns (opens (machine m L b d) (machine_range m L b d (not-false _ h) (not-false _ s))))))
fair_step model (ReplaceTable numbers) kept =
    on_machine_law model _ kept (λ M table jobs rules few.
    guarded _ _ _ refl (λ t. turns (replaces M table jobs rules few numbers (not-false _ t))))
fair_step model (Admit id cost period deadline) kept =
    on_machine_law model _ kept (λ M table jobs rules few.
    guarded _ _ _ refl (λ h.
    guarded _ _ _ refl (λ fresh.
    guarded _ _ _ refl (λ free.
    guarded _ _ _ refl (λ short.
    guarded _ _ _ refl (λ passing.
    turns (admits M table jobs rules few (job_due id cost period deadline) ((ranging.rule.one_job id cost period deadline).0 (not-false _ h)) fresh
    (leb-false 64 (length jobs) free) short passing)))))))
fair_step model (Retire id) kept =
    on_machine_law model _ kept (λ M table jobs rules few.
    guarded _ _ _ refl (λ h.
    guarded _ _ _ refl (λ there. turns (retires M table jobs rules few id (not-false _ there)))))

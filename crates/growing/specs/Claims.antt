-- What is proved of the plan that is returned: `Planning` is all of it. Its proof is proofs/Results.antt.
use Rattle.std.specs.Prelude.{ℕ, ◌-◌, ◌≤◌, ◌≡◌, ◌↔◌, List, [], ◌∷◌, length, take, drop, replicate, Some, None}
use Rattle.gmf.specs.declared.Machine.{Machine}
use Rattle.gmf.specs.declared.Job.{Job}
use Rattle.gmf.specs.Machine.{InRange}
use Rattle.gmf.specs.Jobs.{hyperperiod, works}
use Rattle.gmf.specs.Capacity.{IsPlan, PassesFor}
use Rattle.gmf.specs.Power.{Convex, total}
use Rattle.gmf.specs.Trials.{quarters, jobs_from}
use Rattle.gmf.specs.Growing.{NoPlan, plan_of}
use Rattle.gmf.specs.Claims.{Least, NonePasses}
use Rattle.growing.specs.declared.Plan.{Plan}
use Rattle.growing.specs.Plan.{planned}

-- The levels of a machine's processors.
abbrev pub levels_of : Machine → Plan → List ℕ
levels_of M plan = take M.processors plan.levels

-- What a plan that is returned is: the least that passes, in the jobs' own hyperperiod, with zeros after its m levels, and the cheapest
-- under every table of L numbers that never falls and whose rises never shrink.
pub record Returned (M : Machine) (jobs : List Job) (plan : Plan) : Type 0 where
  pub in_hyperperiod : plan.hyperperiod ≡ hyperperiod jobs
  pub least : Least M (hyperperiod jobs) (works jobs) (levels_of M plan) plan.raises
  pub after : drop M.processors plan.levels ≡ replicate (32 - M.processors) 0
  pub cheapest : (table : List ℕ) → length table ≡ M.levels → Convex table
      → (other : List ℕ) → IsPlan M other → PassesFor M jobs other → total table (levels_of M plan) ≤ total table other

-- For every machine in range and every list of jobs: there is no plan where the method has none, and then none passes; and one that is returned is
-- such.
pub record Answers (M : Machine) (jobs : List Job) : Type 0 where
  pub verdict : (planned M jobs ≡ None) ↔ (plan_of M jobs ≡ NoPlan)
  pub none : planned M jobs ≡ None → NonePasses M (hyperperiod jobs) (works jobs)
  pub plan : (plan : Plan) → planned M jobs ≡ Some plan → Returned M jobs plan

-- "m 4, costs 10 9 6 5 1, period 10 …"; and with a job 11/10.
pub record PlanTrials : Type 0 where
  pub sheet : planned (quarters 4) (jobs_from 1 ((10, 10) ∷ (9, 10) ∷ (6, 10) ∷ (5, 10) ∷ (1, 10) ∷ []))
      ≡ Some (record { hyperperiod = 10; raises = 9; levels = 3 ∷ 3 ∷ 2 ∷ 1 ∷ replicate 28 0 })
  pub no_plan_law : planned (quarters 4) (jobs_from 1 ((11, 10) ∷ [])) ≡ None

pub record Planning : Type 0 where
  pub answers : (M : Machine) → InRange M → (jobs : List Job) → Answers M jobs
  pub trials : PlanTrials

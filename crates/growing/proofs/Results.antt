-- The claims of the plan that is returned, proved.
use Prim.Native.Nat.{ℕ, ◌≤◌, ◌-◌}
use mathlib.Core.Path.{◌≡◌, refl, sym, ap, subst, ◌∙◌}
use mathlib.Core.List.{List, ◌++◌}
use lib.ListN.{length, take, drop, replicate}
use lib.Seq.{take-append_seam, drop-append_seam}
use Rattle.number.specs.Divisors.{euclid, gcd, lcm}
use Rattle.gmf.specs.declared.Machine.{Machine}
use Rattle.gmf.specs.declared.Job.{Job}
use Rattle.gmf.specs.Machine.{InRange, speed, top, machine}
use Rattle.gmf.specs.Jobs.{window, hyperperiod, work, works}
use Rattle.gmf.specs.Capacity.{insert, sort_descending, largest, capacity, IsPlan, PassesFor}
use Rattle.gmf.specs.Power.{Convex, total}
use Rattle.gmf.specs.Claims.{Least, NonePasses, Plans}
use Rattle.gmf.specs.Growing.{Growth, Grown, NoPlan, slowest, raise, demand, holds, raises_left, raise_while_fails, step, steps, growing, plan_of}
use Rattle.gmf.specs.Trials.{quarters, jobs_from}
use Rattle.gmf.proofs.Results.{method}
use Rattle.std.specs.Prelude.{Some, None}
use mathlib.Core.Logic.{◌↔◌}
use Rattle.growing.specs.declared.Plan.{Plan}
use Rattle.growing.specs.Plan.{plan_from}
use Rattle.growing.specs.Claims.{Returned, Answers, PlanTrials, Planning}

some_same : {p q : Plan} → Some p ≡ Some q → p ≡ q
some_same e = cc

module _ (M : Machine) (in_range_law : InRange M) (jobs : List Job) where
  plans : Plans M jobs
  plans = method.plans_jobs M in_range_law.processors.0 in_range_law.levels.0 jobs

  -- A plan that was found is returned with zeros after it.
  returned : (plan : List ℕ) (raises : ℕ) → plan_of M jobs ≡ Grown plan raises
      → Returned M jobs (record { hyperperiod = hyperperiod jobs; raises = raises; levels = plan ++ replicate (32 - length plan) 0 })
  returned plan raises e =
      let l = plans.found plan raises e in
      let same : take M.processors (plan ++ replicate (32 - length plan) 0) ≡ plan =
      ap (λ (n : ℕ). take n (plan ++ replicate (32 - length plan) 0)) (sym l.is_plan.size) ∙ take-append_seam plan (replicate (32 - length plan) 0) in
      record {
        in_hyperperiod = refl;
        after =
            ap (λ (n : ℕ). drop n (plan ++ replicate (32 - length plan) 0)) (sym l.is_plan.size) ∙ drop-append_seam plan (replicate (32 - length plan) 0)
            ∙ ap (λ (n : ℕ). replicate (32 - n) 0) l.is_plan.size;
        least = subst (λ (q : List ℕ). Least M (hyperperiod jobs) (works jobs) q raises) (sym same) l;
        cheapest = subst (λ (q : List ℕ). (table : List ℕ) → length table ≡ M.levels → Convex table
            → (other : List ℕ) → IsPlan M other → PassesFor M jobs other → total table q ≤ total table other) (sym same)
            (plans.cheapest plan raises e);
      }

  by_growth : (g : Growth) → plan_of M jobs ≡ g
      → ((plan_from (hyperperiod jobs) g ≡ None) ↔ (g ≡ NoPlan))
      × (plan_from (hyperperiod jobs) g ≡ None → NonePasses M (hyperperiod jobs) (works jobs))
      × ((plan : Plan) → plan_from (hyperperiod jobs) g ≡ Some plan → Returned M jobs plan)
  unfolding plan_from
  by_growth (Grown plan raises) e =
      ((λ n. absurd (cc), λ n. absurd (cc)), (λ n. absurd (cc)), λ p s. subst (Returned M jobs) (some_same s) (returned plan raises e))
  by_growth NoPlan e = ((λ _. refl, λ _. refl), (λ _. plans.none.0 e), λ p s. absurd (cc))

  answers : Answers M jobs
  answers = let all = by_growth (plan_of M jobs) refl in record { verdict = all.0; none = all.1; plan = all.2 }

trials : PlanTrials
unfolding euclid gcd lcm speed top window hyperperiod work works insert sort_descending largest capacity slowest raise demand holds raises_left raise_while_fails step steps growing plan_of machine quarters jobs_from plan_from
trials = record { sheet = refl; no_plan_law = refl }

pub planning : Planning
planning = record { answers = answers; trials = trials }

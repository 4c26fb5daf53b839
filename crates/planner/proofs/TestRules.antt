-- The tests say what 01 says.
use mathlib.Core.Path.{◌≡◌, refl, ap}
use mathlib.Core.Bool.{true, false≢true}
use mathlib.Core.List.{List}
use borrow.Author.Tests.{ltb-true, lt-ltb}
use Rattle.gmf.specs.declared.Machine.{Machine}
use Rattle.gmf.specs.declared.Job.{Job}
use Rattle.gmf.specs.Machine.{InRange}
use Rattle.gmf.specs.Jobs.{hyperperiod, hyperperiod_limit, works}
use Rattle.gmf.specs.Growing.{Growth, Grown, plan_of}
use Rattle.gmf.specs.Growing as gmf
use Rattle.gmf.specs.Claims.{NonePasses}
use Rattle.gmf.proofs.Results.{plans_jobs}
use Rattle.planner.specs.Tests.{cycle_too_long, finds_none, no_plan}
use Rattle.planner.specs.Claims.{TestRule}

-- ---- No plan

found_none : (g : Growth) → finds_none g ≡ true → g ≡ gmf.NoPlan
unfolding finds_none
found_none (Grown plan raises) e = absurd (false≢true e)
found_none gmf.NoPlan e = refl

module _ (M : Machine) (in_range_law : InRange M) (jobs : List Job) where
  pub none_passes : no_plan M jobs ≡ true → NonePasses M (hyperperiod jobs) (works jobs)
  unfolding no_plan
  none_passes e = (plans_jobs M in_range_law.processors.0 in_range_law.levels.0 jobs).none.0 (found_none (plan_of M jobs) e)

  pub passes_none : NonePasses M (hyperperiod jobs) (works jobs) → no_plan M jobs ≡ true
  unfolding no_plan finds_none
  passes_none h = ap finds_none ((plans_jobs M in_range_law.processors.0 in_range_law.levels.0 jobs).none.1 h)

pub test_rule : TestRule
unfolding cycle_too_long
test_rule = record {
  limits = λ jobs. (ltb-true hyperperiod_limit (hyperperiod jobs), lt-ltb hyperperiod_limit (hyperperiod jobs));
  plans = λ M in_range_law jobs. (none_passes M in_range_law jobs, passes_none M in_range_law jobs);
}

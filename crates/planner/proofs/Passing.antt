-- The cycle and the plan, where they don't refuse.
use Prim.Native.Nat.{◌≤◌}
use mathlib.Core.Path.{◌≡◌, refl, sym}
use mathlib.Core.Bool.{Bool, true, false, false≢true}
use mathlib.Core.List.{List}
use borrow.Author.Tests.{le-ltb, ltb-false}
use Rattle.gmf.specs.declared.Machine.{Machine}
use Rattle.gmf.specs.declared.Job.{Job}
use Rattle.gmf.specs.Machine.{InRange}
use Rattle.gmf.specs.Jobs.{hyperperiod, hyperperiod_limit}
use Rattle.gmf.specs.Growing.{Growth, Grown, plan_of}
use Rattle.gmf.specs.Growing as gmf
use Rattle.gmf.specs.Claims.{Feasible}
use Rattle.gmf.proofs.Results.{plans_jobs}
use Rattle.planner.specs.Tests.{cycle_too_long, finds_none, no_plan}
use Rattle.planner.proofs.TestRules.{none_passes}

pub not_long : (jobs : List Job) → cycle_too_long jobs ≡ false → hyperperiod jobs ≤ hyperperiod_limit
unfolding cycle_too_long
not_long jobs e = ltb-false hyperperiod_limit (hyperperiod jobs) e

pub long_not : (jobs : List Job) → hyperperiod jobs ≤ hyperperiod_limit → cycle_too_long jobs ≡ false
unfolding cycle_too_long
long_not jobs h = le-ltb hyperperiod_limit (hyperperiod jobs) h

module _ (M : Machine) (in_range_law : InRange M) (jobs : List Job) where
  grown_passes : (g : Growth) → plan_of M jobs ≡ g → finds_none g ≡ false → Feasible M jobs
  unfolding finds_none
  grown_passes (Grown plan raises) e f =
      let least = (plans_jobs M in_range_law.processors.0 in_range_law.levels.0 jobs).found plan raises e in
      (plan, least.is_plan, least.passing)
  grown_passes gmf.NoPlan e f = absurd (false≢true (sym f))

  pub plan_passes : no_plan M jobs ≡ false → Feasible M jobs
  unfolding no_plan
  plan_passes = grown_passes (plan_of M jobs) refl

  pub passes_plan : Feasible M jobs → no_plan M jobs ≡ false
  passes_plan (plan, is, passes) = go (no_plan M jobs) refl
    where
      go : (b : Bool) → no_plan M jobs ≡ b → b ≡ false
      go true e = absurd (none_passes M in_range_law jobs e plan is passes)
      go false e = refl

-- The plan of a machine for its jobs, as the struct that is returned.
use Rattle.std.specs.Prelude.{ℕ, ◌-◌, List, ◌++◌, length, replicate, Option, Some, None}
use Rattle.gmf.specs.declared.Machine.{Machine}
use Rattle.gmf.specs.declared.Job.{Job}
use Rattle.gmf.specs.Jobs.{hyperperiod}
use Rattle.gmf.specs.Growing.{Growth, Grown, NoPlan, plan_of}
use Rattle.growing.specs.declared.Plan.{Plan}

-- What growing finds in H ticks: m levels, with zeros after them to 32, and the count of raises; none where no plan passes.
unfoldable pub plan_from : ℕ → Growth → Option Plan
plan_from H (Grown plan raises) = Some (record { hyperperiod = H; raises = raises; levels = plan ++ replicate (32 - length plan) 0 })
plan_from H NoPlan = None

-- The plan that a machine gives its jobs.
abbrev pub planned : Machine → List Job → Option Plan
planned M jobs = plan_from (hyperperiod jobs) (plan_of M jobs)

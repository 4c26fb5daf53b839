-- What refusals 16 and 17 ask, as tests. Those of ranges are in the crate ranges, those of jobs in places, and that of a table in power_tables.
-- That each says what 01 says is `RangeRule` in ranges, `TestRule` in places and here, and `TableLaws` in power_tables.
use Rattle.std.specs.Prelude.{Bool, true, false, List, ltb}
use Rattle.gmf.specs.declared.Machine.{Machine}
use Rattle.gmf.specs.declared.Job.{Job}
use Rattle.gmf.specs.Jobs.{hyperperiod, hyperperiod_limit}
use Rattle.gmf.specs.Growing.{Growth, Grown, NoPlan, plan_of}

-- Refusal 16: "H with the new job would exceed its limit."
unfoldable pub cycle_too_long : List Job → Bool
cycle_too_long jobs = ltb hyperperiod_limit (hyperperiod jobs)

-- Growing has found no plan.
unfoldable pub finds_none : Growth → Bool
finds_none (Grown plan raises) = false
finds_none NoPlan = true

-- Refusal 17: "No plan passes with the new job."
unfoldable pub no_plan : Machine → List Job → Bool
no_plan M jobs = finds_none (plan_of M jobs)
